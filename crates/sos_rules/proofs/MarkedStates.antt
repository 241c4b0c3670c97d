-- States that are marked: active children, the active root, a state that was just entered, and what is remembered.
use Rattle.std.proofs.Common.{◌≡◌, ◌≢◌, ℕ, zero, suc, ◌<◌, List, [], ◌∷◌, Option, Some, None, Bool, true, false, not}
use Rattle.std.proofs.Common.{◌&&◌, refl, sym, ap, ◌∙◌, subst, arith, ⊎_elim}
use Rattle.std.proofs.lemmas.Bool.{cases_lt}
use Rattle.std.proofs.lemmas.Grind.{reverse_onto}
use Rattle.std.proofs.Math.ListN.{get_or-eq_default}
use Rattle.std.specs.Prelude.{◌++◌, reverse, IsTrue, IsSomeAnd, if◌then◌else◌}
use Rattle.std.specs.List.{AllByRecursion, find, list_any}
use Rattle.std.specs.Option.{option_map_or}
use Rattle.active_config.specs.declared.comp.Comp.{Comp}
use Rattle.active_config.specs.declared.comp.Comp.TheVariants.{Leaf, Or, And}
use Rattle.active_config.specs.Tree.{Tree, IsTree, state_count, parent_of, comp_of, children_of, is_at_or_below}
use Rattle.active_config.specs.Tree.{is_or}
use Rattle.active_config.specs.Marks.{Configuration, mark_count, is_on, is_bare, active_child, with_mark}
use Rattle.active_config.specs.Marks.{parent_takes_child, can_mark, IsConsistent}
use Rattle.active_config.proofs.MarksLemmas as MarksLemmas
use Rattle.active_config.proofs.MarksLemmas.{marked, is_on-with_mark_same, is_on-with_mark_other, can_mark_off}
use Rattle.active_config.proofs.MarksLemmas.{is_on-with_last, is_bare-with_last}
use Rattle.actions.specs.World.{World}
use Rattle.actions.specs.Changes.{set_mark, keep_in}
use Rattle.checked_chart.specs.Chart.{Chart, has_history, is_remembered, may_return, node}
use Rattle.checked_chart.proofs.Trees.{IsChild, parent_below, children_are, all_map, find_all}
use Rattle.sos_rules.specs.Moves.{keep_if, entered_in}

-- what all items of two lists have, all items of both together have
all_append : (P : ℕ → Type 0) (xs ys : List ℕ) → AllByRecursion P xs → AllByRecursion P ys → AllByRecursion P (xs ++ ys)
all_append P [] ys a b = b
all_append P (x ∷ xs) ys a b = (a.0, all_append P xs ys a.1 b)

-- what all items have, all have in the other order
pub all_reverse : (P : ℕ → Type 0) (xs : List ℕ) → AllByRecursion P xs → AllByRecursion P (reverse xs)
all_reverse P [] a = tt
all_reverse P (x ∷ xs) a =
    subst (AllByRecursion P) (sym (reverse_onto xs x []))
    (all_append P (reverse xs) (x ∷ []) (all_reverse P xs a.1) (a.0, tt))

-- an active state is a state
pub on_is_state : (t : Tree) (s : ℕ) (m : Configuration) → IsConsistent t m → is_on s m ≡ true → s < state_count t
unfolding is_on mark_count
on_is_state t s m k on =
    ⊎_elim (λ lt. omega (arith, k.sized)) (λ le. absurd (let e = get_or-eq_default m.flags false le in cc))
    (cases_lt s (mark_count m))

module _ (t : Tree) (tree : IsTree t) where
  -- an active child is a child, and it is active
  pub active_is_child : (s x : ℕ) (m : Configuration) → active_child t s m ≡ Some x → (is_on x m ≡ true) × IsChild t s x
  unfolding active_child
  active_is_child s x m e = find_all (λ x. is_on x m) (IsChild t s) (children_of t s) x (children_are t tree s) e

  -- where a state is active, the root is
  pub root_on : (n s : ℕ) (m : Configuration) → s < n → s < state_count t → IsConsistent t m → is_on s m ≡ true
      → is_on 0 m ≡ true
  root_on zero s m lt insideside k on = absurd (omega arith)
  root_on (suc n) zero m lt inside k on = on
  root_on (suc n) (suc s) m lt inside k on =
      up (parent_of t (suc s)) refl (subst (λ x. IsSomeAnd (parent_of t x) (λ p. IsTrue (is_at_or_below t s p)))
      (omega arith) (tree.pre_order.others s (omega arith))) (root_on n)
    where
      up : (o : Option ℕ) → parent_of t (suc s) ≡ o
          → IsSomeAnd (parent_of t (suc s)) (λ p. IsTrue (is_at_or_below t s p))
          → ((p : ℕ) (m : Configuration) → p < n → p < state_count t → IsConsistent t m → is_on p m ≡ true
          → is_on 0 m ≡ true)
          → is_on 0 m ≡ true
      up None e h rest = absurd (subst (λ o. IsSomeAnd o (λ p. IsTrue (is_at_or_below t s p))) e h)
      up (Some p) e h rest =
          let low = parent_below t tree p (suc s) e in rest p m (omega arith) (omega arith) k (k.parents (suc s) p e on)

  -- a state that could be marked and now is, is bare
  none_any : (p : ℕ → Bool) (xs : List ℕ) → AllByRecursion (λ x. p x ≡ false) xs → list_any p xs ≡ false
  none_any p [] a = refl
  none_any p (x ∷ xs) a = let e = a.0 in let f = none_any p xs a.1 in cc

  -- a state that can be marked is bare once it is marked
  pub marked_bare : (s : ℕ) (m : Configuration) → s < state_count t → IsConsistent t m → can_mark t s m ≡ true
      → is_bare t s (with_mark s true m) ≡ true
  unfolding is_bare
  marked_bare s m lt k can =
      let on : is_on s (with_mark s true m) ≡ true = is_on-with_mark_same s true m (omega (arith, k.sized)) in
      let none =
      none_any (λ x. is_on x (with_mark s true m)) (children_of t s)
      (all_map (IsChild t s) (λ x. is_on x (with_mark s true m) ≡ false) (children_of t s) (λ x i. child_off x i)
      (children_are t tree s)) in
      ap (λ b. b && not (list_any (λ x. is_on x (with_mark s true m)) (children_of t s))) on ∙ ap not none
    where
      off : (x : ℕ) → parent_of t x ≡ Some s → (b : Bool) → is_on x m ≡ b → b ≡ false
      off x up false e = refl
      off x up true e = absurd (let f = can_mark_off t s m can in let g = k.parents x s up e in cc)

      -- no child of s is active once s is marked
      child_off : (x : ℕ) → IsChild t s x → is_on x (with_mark s true m) ≡ false
      child_off x i =
          let ne : x ≢ s = λ e. absurd (omega (arith, i.above, e)) in
          is_on-with_mark_other s x true m ne ∙ off x i.parent (is_on x m) refl

-- a parent that is to remember a state is an OR with history
or_of : (o : Comp) (b : Bool) → is_or o && b ≡ true → o ≡ Or
or_of Leaf b e = absurd cc
or_of Or b e = refl
or_of And b e = absurd cc

-- a state with history is an OR
pub history_or : (c : Chart) (p : ℕ) → has_history c p ≡ true → comp_of c.tree p ≡ Or
unfolding has_history
history_or c p e = or_of (comp_of c.tree p) (node c p).history e

-- a remembered state has a parent, and it has history
parent_or : (c : Chart) (o : Option ℕ) → option_map_or (has_history c) o false ≡ true
    → (p : ℕ) × (o ≡ Some p) × (has_history c p ≡ true)
parent_or c None e = absurd cc
parent_or c (Some p) e = (p, refl, e)

-- a remembered state has a parent with history
pub remembering_parent : (c : Chart) (s : ℕ) → is_remembered c s ≡ true
    → (p : ℕ) × (parent_of c.tree s ≡ Some p) × (has_history c p ≡ true)
unfolding is_remembered
remembering_parent c s h = parent_or c (parent_of c.tree s) h

-- a state is remembered where its parent has history
pub is_remembered_by : (c : Chart) (s p : ℕ) → parent_of c.tree s ≡ Some p → is_remembered c s ≡ has_history c p
unfolding is_remembered
is_remembered_by c s p e = ap (λ o. option_map_or (has_history c) o false) e

-- remembering a child keeps active states consistent
keeps_consistent : (c : Chart) (s : ℕ) (w : World) → is_remembered c s ≡ true → IsConsistent c.tree w.marks
    → IsConsistent c.tree (keep_in c.tree s w).marks
unfolding keep_in
keeps_consistent c s w h k =
    let i = remembering_parent c s h in MarksLemmas.remembered c.tree w.marks k s i.0 i.1 (history_or c i.0 i.2)

-- entering a state keeps active states consistent, whether it is remembered or not
entered_if : (c : Chart) (s : ℕ) (w : World) (h : Bool) → is_remembered c s ≡ h → can_mark c.tree s w.marks ≡ true
    → IsConsistent c.tree w.marks → IsConsistent c.tree (keep_if h c.tree s (set_mark s true w)).marks
entered_if c s w true e can k = keeps_consistent c s (set_mark s true w) e (marked c.tree w.marks k s can)
entered_if c s w false e can k = marked c.tree w.marks k s can

-- entering a state keeps active states consistent
pub entered_consistent : (c : Chart) (s : ℕ) (w : World) → can_mark c.tree s w.marks ≡ true
    → IsConsistent c.tree w.marks → IsConsistent c.tree (entered_in c s w).marks
unfolding entered_in
entered_consistent c s w can k = entered_if c s w (is_remembered c s) refl can k

-- a child to which a state may go back is a child
return_if : (t : Tree) (s x : ℕ) (p : ℕ → Bool) (xs : List ℕ) (h : Bool) → AllByRecursion (IsChild t s) xs
    → find p (if h then xs else []) ≡ Some x → IsChild t s x
return_if t s x p xs true a e = (find_all p (IsChild t s) xs x a e).1
return_if t s x p xs false a e = absurd cc

-- a state goes back to a child of its own
pub returns_to_child : (c : Chart) (tree : IsTree c.tree) (s x : ℕ) (p : ℕ → Bool) → find p (may_return c s) ≡ Some x
    → IsChild c.tree s x
unfolding may_return
returns_to_child c tree s x p e =
    return_if c.tree s x p (children_of c.tree s) (has_history c s) (children_are c.tree tree s) e

all_if : (P : ℕ → Type 0) (xs : List ℕ) (h : Bool) → AllByRecursion P xs → AllByRecursion P (if h then xs else [])
all_if P xs true a = a
all_if P xs false a = tt

-- all children to which a state may go back are children
pub may_return_are : (c : Chart) (tree : IsTree c.tree) (s : ℕ) → AllByRecursion (IsChild c.tree s) (may_return c s)
unfolding may_return
may_return_are c tree s =
    all_if (IsChild c.tree s) (children_of c.tree s) (has_history c s) (children_are c.tree tree s)

-- a state that is entered has the marks of one that is marked
on_if : (t : Tree) (s x : ℕ) (w : World) (h : Bool) → is_on x (keep_if h t s w).marks ≡ is_on x w.marks
unfolding keep_in
on_if t s x w true = is_on-with_last t s x w.marks
on_if t s x w false = refl

-- remembering a state changes nothing of what is bare
bare_if : (t : Tree) (s x : ℕ) (w : World) (h : Bool) → is_bare t x (keep_if h t s w).marks ≡ is_bare t x w.marks
unfolding keep_in
bare_if t s x w true = is_bare-with_last t s x w.marks
bare_if t s x w false = refl

-- after a state is entered, those states are active that are active once it is marked
pub entered_on : (c : Chart) (s x : ℕ) (w : World)
    → is_on x (entered_in c s w).marks ≡ is_on x (set_mark s true w).marks
unfolding entered_in
entered_on c s x w = on_if c.tree s x (set_mark s true w) (is_remembered c s)

-- after a state is entered, those states are bare that are bare once it is marked
pub entered_bare : (c : Chart) (s x : ℕ) (w : World)
    → is_bare c.tree x (entered_in c s w).marks ≡ is_bare c.tree x (set_mark s true w).marks
unfolding entered_in
entered_bare c s x w = bare_if c.tree s x (set_mark s true w) (is_remembered c s)

-- what entering a state does depends on whether it is remembered
pub entered_done : (c : Chart) (s : ℕ) (w : World) (h : Bool) → is_remembered c s ≡ h
    → entered_in c s w ≡ keep_if h c.tree s (set_mark s true w)
unfolding entered_in
entered_done c s w h e = ap (λ b. keep_if b c.tree s (set_mark s true w)) e

-- a state without a parent can be marked where it isn't active
pub can_mark_root : (t : Tree) (s : ℕ) (m : Configuration) → is_on s m ≡ false → parent_of t s ≡ None
    → can_mark t s m ≡ true
unfolding can_mark
can_mark_root t s m off up =
    ap (λ x. not x && parent_takes_child t (parent_of t s) m) off ∙ ap (λ o. parent_takes_child t o m) up
