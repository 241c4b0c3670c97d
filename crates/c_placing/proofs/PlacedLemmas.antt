-- Lines of placed statements, and parameters that are set from the last to the first.
use Rattle.std.proofs.Common.{◌≡◌, ℕ, zero, suc, ◌+◌, ◌<◌, ◌≤◌, List, [], ◌∷◌, ◌++◌, length}
use Rattle.std.proofs.Common.{map, take, get_or, refl, sym, ap}
use Rattle.std.proofs.Common.{◌∙◌, arith, subst, length-append}
use Rattle.std.proofs.lemmas.List.{map-append, take_more, length-take-le, length-map}
use Rattle.c_subset.specs.declared.trees.CType.{CType}
use Rattle.c_subset.specs.Trees.{CExpr, Block}
use Rattle.c_subset.specs.Trees as c
use Rattle.c_subset.specs.Lines.{Line, Set, Store, StoreAt, Call, Select, If, Else, While, Close, else_lines, lines_of}
use Rattle.c_subset.specs.Lines.{expr_of, exprs_of}
use Rattle.c_subset.specs.declared.trees.CExpr as declared_expr
use Rattle.c_placing.specs.PlacedLines.{placed_line}
use Rattle.c_placing.specs.Placing.{placed_expr, placed, set_parameters}

-- lines of the second part of an `if`
placed-else : (n : ℕ) (ls : List Line) → map (placed_line n) (else_lines ls) ≡ else_lines (map (placed_line n) ls)
placed-else n [] = refl
placed-else n (l ∷ ls) = refl

-- the lines of placed statements are those lines, placed
pub placed-lines : (n : ℕ) (b : Block) → map (placed_line n) (lines_of b) ≡ lines_of (placed n b)
unfolding lines_of placed
placed-lines n c.End = refl
placed-lines n (c.Set t i e rest) = ap (λ (ls : List Line). placed_line n (Set t i e) ∷ ls) (placed-lines n rest)
placed-lines n (c.Store f e rest) = ap (λ (ls : List Line). placed_line n (Store f e) ∷ ls) (placed-lines n rest)
placed-lines n (c.StoreAt r i e rest) =
    ap (λ (ls : List Line). placed_line n (StoreAt r i e) ∷ ls) (placed-lines n rest)
placed-lines n (c.Call t i f args rest) =
    ap (λ (ls : List Line). placed_line n (Call t i f args) ∷ ls) (placed-lines n rest)
placed-lines n (c.Select t i e cases args rest) =
    ap (λ (ls : List Line). placed_line n (Select t i e cases args) ∷ ls) (placed-lines n rest)
placed-lines n (c.If e a b rest) =
    ap (λ (ls : List Line). If (placed_expr n e) ∷ ls)
    (map-append (placed_line n) (lines_of a ++ else_lines (lines_of b)) (Close ∷ lines_of rest)
    ∙ ap (λ (ls : List Line). ls ++ (Close ∷ map (placed_line n) (lines_of rest)))
    (map-append (placed_line n) (lines_of a) (else_lines (lines_of b)))
    ∙ ap (λ (ls : List Line). (map (placed_line n) (lines_of a) ++ map (placed_line n) (else_lines (lines_of b)))
    ++ (Close ∷ ls)) (placed-lines n rest)
    ∙ ap (λ (ls : List Line). (ls ++ map (placed_line n) (else_lines (lines_of b)))
    ++ (Close ∷ lines_of (placed n rest))) (placed-lines n a)
    ∙ ap (λ (ls : List Line). (lines_of (placed n a) ++ ls) ++ (Close ∷ lines_of (placed n rest)))
    (placed-else n (lines_of b)
    ∙ ap (λ (ls : List Line). else_lines ls) (placed-lines n b)))
placed-lines n (c.While e a rest) =
    ap (λ (ls : List Line). While (placed_expr n e) ∷ ls)
    (map-append (placed_line n) (lines_of a) (Close ∷ lines_of rest)
    ∙ ap (λ (ls : List Line). map (placed_line n) (lines_of a) ++ (Close ∷ ls)) (placed-lines n rest)
    ∙ ap (λ (ls : List Line). ls ++ (Close ∷ lines_of (placed n rest))) (placed-lines n a))
placed-lines n (c.Return e) = refl

-- the last parameter is set right before the rest
pub set-last : (n k : ℕ) (ts : List CType) (es : List CExpr) (t : CType) (e : CExpr) (rest : Block) (i : ℕ)
    → length es ≡ length ts → i ≡ k + length ts
    → set_parameters n k (ts ++ t ∷ []) (es ++ e ∷ []) rest ≡ set_parameters n k ts es (c.Set t (n + i) e rest)
unfolding set_parameters
set-last n k [] [] t e rest i same is =
    let number : k ≡ i = omega (arith, is) in ap (λ (j : ℕ). c.Set t (n + j) e rest) number
set-last n k [] (x ∷ es) t e rest i same is = absurd (omega (arith, same))
set-last n k (u ∷ ts) [] t e rest i same is = absurd (omega (arith, same))
set-last n k (u ∷ ts) (x ∷ es) t e rest i same is =
    ap (λ (b : Block). c.Set u (n + k) x b)
    (set-last n (suc k) ts es t e rest i (omega (arith, same)) (omega (arith, is)))

-- so a step from the last argument to the first leaves the whole
pub step-set : (n : ℕ) (ts : List CType) (left new : List declared_expr.CExpr) (arg : declared_expr.CExpr) (j : ℕ)
    (d : CType) (b whole : Block) → j ≡ length new → left ≡ new ++ arg ∷ [] → length left ≤ length ts
    → set_parameters n 0 (take (length left) ts) (exprs_of left) b ≡ whole
    → set_parameters n 0 (take (length new) ts) (exprs_of new) (c.Set (get_or ts j d) (n + j) (expr_of arg) b) ≡ whole
step-set n ts left new arg j d b whole here last few same =
    let size : length left ≡ length new + 1 = ap length last ∙ length-append new (arg ∷ []) in
    let room : length new < length ts = omega (arith, size, few) in
    let long : length (take (length new) ts) ≡ length new = length-take-le (length new) ts (omega (arith, room)) in
    let many : length (exprs_of new) ≡ length new = length-map new expr_of in
    let count : length (exprs_of new) ≡ length (take (length new) ts) = many ∙ sym long in
    let place : length new ≡ 0 + length (take (length new) ts) = omega (arith, long) in
    subst (λ (i : ℕ). set_parameters n 0 (take (length new) ts) (exprs_of new)
    (c.Set (get_or ts i d) (n + i) (expr_of arg) b) ≡ whole) (sym here)
    (sym (set-last n 0 (take (length new) ts) (exprs_of new) (get_or ts (length new) d) (expr_of arg) b (length new)
    count place)
    ∙ ap (λ (us : List CType). set_parameters n 0 us (exprs_of new ++ expr_of arg ∷ []) b)
    (sym (take_more ts (length new) d room))
    ∙ ap (λ (i : ℕ). set_parameters n 0 (take i ts) (exprs_of new ++ expr_of arg ∷ []) b) (sym size)
    ∙ ap (λ (es : List CExpr). set_parameters n 0 (take (length left) ts) es b)
    (sym (ap (λ (xs : List declared_expr.CExpr). exprs_of xs) last ∙ map-append expr_of new (arg ∷ [])))
    ∙ same)
