-- A function of the code is one of a file, with its parameters or without them.
use Rattle.std.proofs.Common.{◌≡◌, ℕ, zero, suc, ◌<◌, ◌≤◌, Bool, true, false, ◌&&◌, ◌||◌, not, List, [], ◌∷◌, length}
use Rattle.std.proofs.Common.{map, Some, slice_get, refl, ap, ◌∙◌, arith}
use Rattle.std.specs.List.{list_all}
use Rattle.flow_base.specs.Lists.{items_of}
use Rattle.flow_base.specs.declared.list.List.{List as Items}
use Rattle.c_subset.specs.declared.trees.CType.{CType}
use Rattle.c_subset.specs.declared.trees.Function as declared_function
use Rattle.c_subset.specs.declared.trees.Line as declared_line
use Rattle.c_subset.specs.declared.trees.Case.{Case}
use Rattle.c_subset.specs.Trees.{Block, Function}
use Rattle.c_subset.specs.Trees as c
use Rattle.c_subset.specs.Lines.{lines_in, lines_of, IsFunction}
use Rattle.c_bare.specs.Needs.{is_bare, needs_none}
use Rattle.c_bare.specs.Bare.{calls_bare, selects_no_bare, is_needless, handed, bared, AreFunctions, AreNeedless}
use Rattle.c_bare.specs.Scanning.{line_selects, fewer_line}
use Rattle.c_bare.proofs.Lines.{select-is, fewer-is}

-- what the lines tell of a function
pub needless-is : (flags : List Bool) (p : ℕ) (f : declared_function.Function) (g : Function) (first second : Bool)
    → ((b : Block) → lines_in (items_of f.lines) ≡ lines_of b
    → first ≡ (not (is_bare flags p) || needs_none flags 0 (items_of f.parameters) b))
    → second ≡ list_all (line_selects flags) (lines_in (items_of f.lines)) → IsFunction f g
    → (first && second) ≡ is_needless flags p g
needless-is flags p f g first second go select h =
    ap (λ (b : Bool). b && second) (go g.body h.lines)
    ∙ ap (λ (b : Bool). (not (is_bare flags p) || needs_none flags 0 (items_of f.parameters) g.body) && b)
    (select ∙ select-is flags g.body (lines_in (items_of f.lines)) h.lines)
    ∙ ap (λ (ts : List CType). (not (is_bare flags p) || needs_none flags 0 ts g.body) && selects_no_bare flags g.body)
    h.parameters

-- a function without what nothing needs
pub bare-is : (flags : List Bool) (p : ℕ) (f : declared_function.Function) (g : Function) (types : Items CType)
    (ls : Items declared_line.Line) → items_of types ≡ handed flags p (items_of f.parameters)
    → lines_in (items_of ls) ≡ map (fewer_line flags) (lines_in (items_of f.lines)) → IsFunction f g
    → IsFunction (record { result = f.result; parameters = types; lines = ls }) (bared flags p g)
bare-is flags p f g types ls kept made h = record {
  result = h.result;
  parameters = kept ∙ ap (λ (ts : List CType). handed flags p ts) h.parameters;
  lines = made ∙ fewer-is flags g.body (lines_in (items_of f.lines)) h.lines;
}

-- ---- all functions

-- where there is one in a list of as many
there-too : {A B : Type 0} (xs : List A) (ys : List B) → length xs ≡ length ys → (p : ℕ) (y : B)
    → slice_get ys p ≡ Some y → (x : A) × (slice_get xs p ≡ Some x) × (p < length xs)
there-too [] [] same p y e = absurd cc
there-too [] (z ∷ ys) same p y e = absurd cc
there-too (x ∷ xs) [] same p y e = absurd cc
there-too (x ∷ xs) (z ∷ ys) same zero y e = (x, refl, omega arith)
there-too (x ∷ xs) (z ∷ ys) same (suc p) y e =
    let h = there-too xs ys (omega (arith, same)) p y e in (h.0, h.1, omega (arith, h.2))

-- without a flag none is bare
none-called : (cases : List Case) → calls_bare [] cases ≡ false
none-called [] = refl
none-called (x ∷ cases) = none-called cases

pub none-selected : (b : Block) → selects_no_bare [] b ≡ true
unfolding selects_no_bare
none-selected c.End = refl
none-selected (c.Set t i e rest) = none-selected rest
none-selected (c.Store f e rest) = none-selected rest
none-selected (c.StoreAt a i e rest) = none-selected rest
none-selected (c.Call t i f args rest) = none-selected rest
none-selected (c.Select t i e cases args rest) =
    ap (λ (b : Bool). not b && selects_no_bare [] rest) (none-called cases) ∙ none-selected rest
none-selected (c.If e a b rest) =
    ap (λ (x : Bool). x && (selects_no_bare [] b && selects_no_bare [] rest)) (none-selected a)
    ∙ ap (λ (x : Bool). x && selects_no_bare [] rest) (none-selected b) ∙ none-selected rest
none-selected (c.While e a rest) =
    ap (λ (x : Bool). x && selects_no_bare [] rest) (none-selected a) ∙ none-selected rest
none-selected (c.Return e) = refl

pub none-needless : (gs : List Function) → AreNeedless [] gs
none-needless gs p g there = none-selected g.body

-- functions of which each is needless
pub all-needless : (flags : List Bool) (fs : List declared_function.Function) (gs : List Function) (n : ℕ)
    → length fs ≤ n
    → ((k : ℕ) → k < n → (f : declared_function.Function) → slice_get fs k ≡ Some f → (g : Function)
    → IsFunction f g → is_needless flags k g ≡ true) → AreFunctions fs gs → AreNeedless flags gs
all-needless flags fs gs n whole each are p g there =
    let h = there-too fs gs are.count p g there in
    each p (omega (arith, whole, h.2)) h.0 h.1 g (are.each p h.0 g h.1 there)
