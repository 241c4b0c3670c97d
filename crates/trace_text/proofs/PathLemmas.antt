-- The path of a state, name by name from the root down.
use Rattle.std.proofs.Common.{◌≡◌, ◌≢◌, ℕ, zero, suc, ◌+◌, ◌-◌, ◌≤◌, ◌<◌, Bool, true, false, nat_eq, List, []}
use Rattle.std.proofs.Common.{◌∷◌, ◌++◌, length, map, drop, reverse, Some, None, refl, sym, ap, ◌∙◌, arith}
use Rattle.std.specs.List.{join_with_byte}
use Rattle.std.proofs.lemmas.Bool.Decides.{nat_tests}
use Rattle.std.proofs.lemmas.List.{map-append, length-map, reverse-append, length-reverse}
use Rattle.active_config.specs.Tree.{Tree, IsTree, state_count, parent_of, ancestors, is_below, is_at_or_below}
use Rattle.active_config.proofs.ParentLemmas.{child_within}
use Rattle.active_config.proofs.PathLemmas.{Path, Here, Up, path_of, path_joins, of_path, parent_before}
use Rattle.active_config.proofs.PathLemmas.{parent_lt, is_at_or_below-other, is_below-step}
use Rattle.active_config.proofs.PathLemmas.{is_below-root, ancestors-root, ancestors-step}
use Rattle.actions.specs.Names.{Names}
use Rattle.trace_text.specs.Trace as spec
use Rattle.trace_text.specs.Trace.{state_name}
use Rattle.trace_text.specs.TraceParts.{item}
use Rattle.trace_text.proofs.JoinLemmas.{joined_next}

-- every state is the root or below it
root_reaches : (t : Tree) → IsTree t → (m s : ℕ) → s ≤ m → s < state_count t → Path t 0 s
root_reaches t tree m zero le lt = Here refl
root_reaches t tree zero (suc s) le lt = absurd (omega arith)
root_reaches t tree (suc m) (suc s) le lt =
    let up = parent_before t (state_count t) tree.pre_order s lt in
    let low : up.0 < suc s = parent_lt t (state_count t) tree.pre_order (suc s) up.0 lt up.1 in
    Up up.0 up.1 (root_reaches t tree m up.0 (omega arith) (omega arith))

pub root_above : (t : Tree) (s : ℕ) → IsTree t → s < state_count t → is_at_or_below t s 0 ≡ true
root_above t s tree lt = of_path t (state_count t) tree.pre_order s 0 lt (root_reaches t tree s s (omega arith) lt)

-- a state that isn't the one above is below it
pub strictly_below : (t : Tree) (s a : ℕ) → is_at_or_below t s a ≡ true → s ≢ a → is_below t s a ≡ true
strictly_below t s a at ne = sym (is_at_or_below-other t s a ne) ∙ at

-- a state that is at or below a child is at or below its parent
pub parent_above : (t : Tree) (s child p : ℕ) → IsTree t → s < state_count t → is_at_or_below t s child ≡ true → parent_of t child ≡ Some p
    → is_at_or_below t s p ≡ true
parent_above t s child p tree lt at e =
    of_path t (state_count t) tree.pre_order s p lt (path_joins t p child s (path_of t s child at) (Up p e (Here refl)))

-- what is below a state and no child of it has a parent that is below it
pub parent_below : (t : Tree) (s p a : ℕ) → IsTree t → parent_of t s ≡ Some p → is_below t s a ≡ true → p ≢ a → is_below t p a ≡ true
parent_below t s p a tree e below ne =
    strictly_below t p a (sym (is_below-step t (state_count t) tree.pre_order s p a (child_within t s p e) e) ∙ below) ne

-- what has no parent is below nothing
pub below_has_parent : (t : Tree) (s a : ℕ) → parent_of t s ≡ None → is_below t s a ≡ true → ⊥
below_has_parent t s a none below = let no = is_below-root t s a none in (cc)

-- ---- the path

-- the root's path is empty
pub path_of-root : (t : Tree) (n : Names) → IsTree t → [] ≡ spec.path_of t n 0
unfolding spec.path_of
path_of-root t n tree =
    ap (λ (above : List ℕ). join_with_byte 47 (map (state_name n) (drop 1 (reverse (0 ∷ above))))) (sym (ancestors-root t 0 tree.pre_order.root))

some_above : (xs ys : List ℕ) (p q : ℕ) → xs ≡ q ∷ ys → nat_eq (suc p) 0 ≡ nat_eq (length xs) 0
some_above xs ys p q is = let more = ap (λ (above : List ℕ). length above) is in grind (arith, nat_tests)

-- the first name is that of a child of the root
none_above : (t : Tree) (p : ℕ) → IsTree t → p < state_count t → nat_eq p 0 ≡ nat_eq (length (ancestors t p)) 0
none_above t zero tree lt = ap (λ (above : List ℕ). nat_eq (length above) 0) (sym (ancestors-root t 0 tree.pre_order.root))
none_above t (suc p) tree lt =
    let up = parent_before t (state_count t) tree.pre_order p lt in
    some_above (ancestors t (suc p)) (ancestors t up.0) p up.0 (ancestors-step t (state_count t) tree.pre_order (suc p) up.0 lt up.1)

drop_first : (xs : List ℕ) (x : ℕ) → 0 < length xs → drop 1 (xs ++ x ∷ []) ≡ drop 1 xs ++ x ∷ []
drop_first [] x some = absurd (omega arith)
drop_first (y ∷ xs) x some = refl

length_drop_first : (xs : List ℕ) → length (drop 1 xs) ≡ length xs - 1
length_drop_first [] = refl
length_drop_first (x ∷ xs) = omega arith

-- the path of a child goes on after that of its parent
pub path_of-child : (t : Tree) (n : Names) (s p : ℕ) (name : List ℕ) → IsTree t → parent_of t s ≡ Some p → name ≡ state_name n s
    → spec.path_of t n s ≡ spec.path_of t n p ++ item 47 (nat_eq p 0) name
unfolding spec.path_of
path_of-child t n s p name tree e named =
    let lt : s < state_count t = child_within t s p e in
    let low : p < s = parent_lt t (state_count t) tree.pre_order s p lt e in
    let up : List ℕ = reverse (p ∷ ancestors t p) in
    let size : length up ≡ length (ancestors t p) + 1 = length-reverse (p ∷ ancestors t p) ∙ omega arith in
    let front : List (List ℕ) = map (state_name n) (drop 1 up) in
    let first : nat_eq p 0 ≡ nat_eq (length front) 0 =
    none_above t p tree (omega arith)
    ∙ ap (λ m. nat_eq m 0) (sym (length-map (drop 1 up) (state_name n) ∙ length_drop_first up ∙ omega arith)) in
    ap (λ (above : List ℕ). join_with_byte 47 (map (state_name n) (drop 1 (reverse (s ∷ above))))) (ancestors-step t (state_count t) tree.pre_order s p lt e)
    ∙ ap (λ (all : List ℕ). join_with_byte 47 (map (state_name n) (drop 1 all))) (reverse-append (s ∷ []) (p ∷ ancestors t p))
    ∙ ap (λ (all : List ℕ). join_with_byte 47 (map (state_name n) all)) (drop_first up s (omega arith))
    ∙ ap (join_with_byte 47) (map-append (state_name n) (drop 1 up) (s ∷ []) ∙ ap (λ (z : List ℕ). front ++ z ∷ []) (sym named))
    ∙ joined_next 47 front name (nat_eq p 0) first

-- the path of a child of the root is its name
pub path_of-first : (t : Tree) (n : Names) (s : ℕ) (name : List ℕ) → IsTree t → parent_of t s ≡ Some 0 → name ≡ state_name n s
    → spec.path_of t n s ≡ name
path_of-first t n s name tree e named =
    path_of-child t n s 0 name tree e named ∙ ap (λ (z : List ℕ). z ++ name) (sym (path_of-root t n tree))

-- the path of a child of another state goes on after a slash
pub path_of-next : (t : Tree) (n : Names) (s p : ℕ) (name : List ℕ) → IsTree t → parent_of t s ≡ Some p → 0 < p → name ≡ state_name n s
    → spec.path_of t n s ≡ spec.path_of t n p ++ (47 ∷ name)
path_of-next t n s p name tree e below named =
    let after : nat_eq p 0 ≡ false = grind (arith, nat_tests) in
    path_of-child t n s p name tree e named ∙ ap (λ (b : Bool). spec.path_of t n p ++ item 47 b name) after
