-- The path of a state, name by name from the root down.
use Rattle.std.proofs.Common.{◌≡◌, ℕ, zero, suc, ◌+◌, ◌<◌, List, [], ◌∷◌, ◌++◌, length, map, drop, reverse, Some, None}
use Rattle.std.proofs.Common.{refl, sym, ap, ◌∙◌, arith, append_assoc}
use Rattle.std.specs.List.{join_with_byte}
use Rattle.std.proofs.lemmas.List.{map-append, reverse-append, length-reverse}
use Rattle.active_config.specs.Tree.{Tree, IsTree, state_count, parent_of, ancestors}
use Rattle.active_config.proofs.ParentLemmas.{child_within}
use Rattle.active_config.proofs.PathLemmas.{parent_before, parent_lt, ancestors-root, ancestors-step}
use Rattle.actions.specs.Names.{Names}
use Rattle.c_header.specs.declared.paths.Form.{Form}
use Rattle.c_header.specs.Paths.{state_name, separator, part_text, path_text}

-- the states of a path: those above the state but the root, the highest first, and the state
abbrev pub steps : Tree → ℕ → List ℕ
steps t s = drop 1 (reverse (s ∷ ancestors t s))

-- the first of more than one item is dropped
drop_first : (xs : List ℕ) (x : ℕ) → 0 < length xs → drop 1 (xs ++ x ∷ []) ≡ drop 1 xs ++ x ∷ []
drop_first [] x some = absurd (omega arith)
drop_first (y ∷ xs) x some = refl

-- one more text after others
joined_last : (b : ℕ) (xs : List (List ℕ)) (y x : List ℕ)
    → join_with_byte b ((xs ++ y ∷ []) ++ x ∷ []) ≡ join_with_byte b (xs ++ y ∷ []) ++ (b ∷ x)
joined_last b [] y x = refl
joined_last b (z ∷ []) y x = sym (append_assoc z (b ∷ y) (b ∷ x))
joined_last b (z ∷ w ∷ xs) y x =
    ap (λ (v : List ℕ). z ++ (b ∷ v)) (joined_last b (w ∷ xs) y x)
    ∙ sym (append_assoc z (b ∷ join_with_byte b ((w ∷ xs) ++ y ∷ [])) (b ∷ x))

module _ (t : Tree) (tree : IsTree t) where
  -- the root's path has no states
  pub steps-root : steps t 0 ≡ []
  steps-root = ap (λ (above : List ℕ). drop 1 (reverse (0 ∷ above))) (ancestors-root t 0 tree.pre_order.root)

  -- the path of a child goes on after that of its parent
  pub steps-child : (s p : ℕ) → parent_of t s ≡ Some p → steps t s ≡ steps t p ++ s ∷ []
  steps-child s p e =
      let up : List ℕ = reverse (p ∷ ancestors t p) in
      let size : length up ≡ length (ancestors t p) + 1 = length-reverse (p ∷ ancestors t p) ∙ omega arith in
      ap (λ (above : List ℕ). drop 1 (reverse (s ∷ above)))
      (ancestors-step t (state_count t) tree.pre_order s p (child_within t s p e) e)
      ∙ ap (λ (all : List ℕ). drop 1 all) (reverse-append (s ∷ []) (p ∷ ancestors t p))
      ∙ drop_first up s (omega arith)

  -- the state without a parent has an empty path
  pub path-root : (form : Form) (n : Names) (s : ℕ) → s < state_count t → parent_of t s ≡ None
      → path_text form t n s ≡ []
  unfolding path_text
  path-root form n zero lt none =
      ap (λ (xs : List ℕ). join_with_byte (separator form) (map (λ x. part_text form (state_name n x)) xs)) steps-root
  path-root form n (suc s) lt none =
      absurd (let up = parent_before t (state_count t) tree.pre_order s lt in let e = up.1 in cc)

  -- the path of a child of the root is its name
  pub path-first : (form : Form) (n : Names) (s p : ℕ) → parent_of t s ≡ Some p → p ≡ 0
      → path_text form t n s ≡ part_text form (state_name n s)
  unfolding path_text
  path-first form n s (suc p) e none = absurd (omega (arith, none))
  path-first form n s zero e none =
      ap (λ (xs : List ℕ). join_with_byte (separator form) (map (λ x. part_text form (state_name n x)) xs))
      (steps-child s 0 e ∙ ap (λ (xs : List ℕ). xs ++ s ∷ []) steps-root)

  -- the path of a child of another state goes on after a separator
  pub path-next : (form : Form) (n : Names) (s p : ℕ) → parent_of t s ≡ Some p → 0 < p
      → path_text form t n s ≡ path_text form t n p ++ (separator form ∷ part_text form (state_name n s))
  unfolding path_text
  path-next form n s zero e some = absurd (omega (arith, some))
  path-next form n s (suc p) e some =
      let lt : s < state_count t = child_within t s (suc p) e in
      let low : suc p < s = parent_lt t (state_count t) tree.pre_order s (suc p) lt e in
      let up = parent_before t (state_count t) tree.pre_order p (omega arith) in
      let f : ℕ → List ℕ = λ x. part_text form (state_name n x) in
      let b : ℕ = separator form in
      let above : steps t (suc p) ≡ steps t up.0 ++ (suc p) ∷ [] = steps-child (suc p) up.0 up.1 in
      let fronts : map f (steps t (suc p)) ≡ map f (steps t up.0) ++ f (suc p) ∷ [] =
      ap (map f) above ∙ map-append f (steps t up.0) ((suc p) ∷ []) in
      ap (λ (xs : List ℕ). join_with_byte b (map f xs)) (steps-child s (suc p) e)
      ∙ ap (join_with_byte b)
      (map-append f (steps t (suc p)) (s ∷ []) ∙ ap (λ (xs : List (List ℕ)). xs ++ f s ∷ []) fronts)
      ∙ joined_last b (map f (steps t up.0)) (f (suc p)) (f s)
      ∙ ap (λ (xs : List (List ℕ)). join_with_byte b xs ++ (b ∷ f s)) (sym fronts)
