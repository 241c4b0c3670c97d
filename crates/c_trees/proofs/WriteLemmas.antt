-- Lines that were written one after another.
use Rattle.std.proofs.Common.{◌≡◌, List, ◌∷◌, ◌++◌, Result, Ok, Err, OnOk, refl, ap, ◌∙◌}
use Rattle.std.proofs.lemmas.List.{append_assoc}
use Rattle.c_subset.specs.Trees.{CExpr, Block}
use Rattle.c_subset.specs.Trees as c
use Rattle.c_subset.specs.Lines.{Line, If, While, Close, else_lines, lines_of}

-- what was written after other lines stands after both
pub on-written : {T E : Type 0} (r : Result T E) (old mid new xs ys zs : List Line) → mid ≡ old ++ xs → xs ++ ys ≡ zs
    → OnOk r (new ≡ mid ++ ys) → OnOk r (new ≡ old ++ zs)
on-written (Ok x) old mid new xs ys zs first same last =
    last ∙ ap (λ (m : List Line). m ++ ys) first ∙ append_assoc old xs ys ∙ ap (λ (zs : List Line). old ++ zs) same
on-written (Err x) old mid new xs ys zs first same last = tt

-- an `if`
pub if-written : {T E : Type 0} (r : Result T E) (old before mid new : List Line) (e : CExpr) (a b rest : Block)
    → before ≡ old ++ (If e ∷ lines_of a) → mid ≡ before ++ else_lines (lines_of b)
    → OnOk r (new ≡ mid ++ (Close ∷ lines_of rest)) → OnOk r (new ≡ old ++ lines_of (c.If e a b rest))
unfolding lines_of
if-written r old before mid new e a b rest first second last =
    on-written r old mid new ((If e ∷ lines_of a) ++ else_lines (lines_of b)) (Close ∷ lines_of rest)
    (lines_of (c.If e a b rest))
    (second ∙ ap (λ (m : List Line). m ++ else_lines (lines_of b)) first
    ∙ append_assoc old (If e ∷ lines_of a) (else_lines (lines_of b))) refl last

-- a `while`
pub while-written : {T E : Type 0} (r : Result T E) (old mid new : List Line) (e : CExpr) (a rest : Block)
    → mid ≡ old ++ (While e ∷ lines_of a) → OnOk r (new ≡ mid ++ (Close ∷ lines_of rest))
    → OnOk r (new ≡ old ++ lines_of (c.While e a rest))
unfolding lines_of
while-written r old mid new e a rest first last =
    on-written r old mid new (While e ∷ lines_of a) (Close ∷ lines_of rest) (lines_of (c.While e a rest)) first refl
    last
