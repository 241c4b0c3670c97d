-- What is remembered is kept by the rules, and it is what the tests of the children find.
use Rattle.std.proofs.Common.{◌≡◌, ◌≢◌, ◌<◌, ℕ, List, [], ◌∷◌, length, Option, Some, None, Bool, true, false, cond}
use Rattle.std.proofs.Common.{refl, sym, ap, ◌∙◌, subst, ⊎_elim, inl, inr, arith}
use Rattle.std.specs.Prelude.{◌⊎◌, if◌then◌else◌}
use Rattle.std.specs.List.{find, list_any}
use Rattle.std.specs.Option.{option_map_or}
use Rattle.std.proofs.lemmas.Bool.Decides.{nat_tests}
use Rattle.flow_base.specs.declared.bounds.Bounds.{Bounds}
use Rattle.active_config.specs.Tree.{Tree, IsTree, state_count, parent_of, is_child, children_below, children_of}
use Rattle.active_config.specs.Marks.{Configuration, mark_count, is_on, can_mark, last_of, is_this, is_last, with_mark}
use Rattle.active_config.specs.Marks.{with_last, IsConsistent}
use Rattle.active_config.proofs.ParentLemmas.{child_within}
use Rattle.active_config.proofs.ChildLemmas.{child_of_parent}
use Rattle.active_config.proofs.TableLemmas.{same_or_other}
use Rattle.active_config.proofs.MarksLemmas.{on_after_mark, on_after_clear, alone, none_in_range, bare_is_on}
use Rattle.active_config.proofs.MarksLemmas.{last_of-with_mark, last_of-with_last_same, last_of-with_last_other}
use Rattle.active_config.proofs.MarksLemmas.{is_on-with_last, marked, cleared}
use Rattle.actions.specs.World.{World}
use Rattle.actions.specs.Changes.{set_mark, keep_in}
use Rattle.sos_rules.proofs.Keeps.{Closed}
use Rattle.sos_rules.proofs.MarkedStates.{on_is_state, history_or, remembering_parent, is_remembered_by}
use Rattle.sos_rules.proofs.MarkedStates.{entered_consistent}
use Rattle.actions.proofs.ChangeLemmas.{kept, paid_keeps, assigned_keeps}
use Rattle.sos_rules.specs.Memory.{Remembers}
use Rattle.sos_rules.specs.Moves.{keep_if, entered_in, remembered}
use Rattle.checked_chart.proofs.Trees.{IsChild, children_are, find_all, parent_below}
use Rattle.checked_chart.specs.Chart.{Chart, has_history, is_remembered, may_return}

-- ---- the rules keep it

module _ (c : Chart) (tree : IsTree c.tree) where
  -- a child that is active after s was entered is s, or was active before
  active_if : (s : ℕ) (w : World) (h : Bool) → is_remembered c s ≡ h → can_mark c.tree s w.marks ≡ true
      → Remembers c w.marks → (p x : ℕ) → has_history c p ≡ true → parent_of c.tree x ≡ Some p
      → is_on x (keep_if h c.tree s (set_mark s true w)).marks ≡ true
      → last_of p (keep_if h c.tree s (set_mark s true w)).marks ≡ Some x
  unfolding keep_in
  active_if s w true e can r p x hist up on =
      at (on_after_mark s x w.marks (sym (is_on-with_last c.tree s x (with_mark s true w.marks)) ∙ on))
    where
      m : Configuration
      m = with_mark s true w.marks

      at : (x ≡ s) ⊎ (is_on x w.marks ≡ true) → last_of p (with_last c.tree s (with_mark s true w.marks)) ≡ Some x
      at (inl same) =
          let k = marked c.tree w.marks r.consistent s can in
          let lt : p < length (with_mark s true w.marks).last =
          omega (arith, k.entries, parent_below c.tree tree p x up, child_within c.tree x p up) in
          last_of-with_last_same c.tree s p (with_mark s true w.marks) (ap (parent_of c.tree) (sym same) ∙ up) lt
          ∙ ap Some (sym same)
      at (inr was) =
          let i = remembering_parent c s e in
          let ne : p ≢ i.0 = λ q.
          absurd (alone c.tree w.marks r.consistent s x p can (history_or c p hist) (i.1 ∙ ap Some (sym q)) up was) in
          last_of-with_last_other c.tree s i.0 p (with_mark s true w.marks) i.1 ne ∙ last_of-with_mark p s true w.marks
          ∙ r.active p x hist up was
  active_if s w false e can r p x hist up on = at (on_after_mark s x w.marks on)
    where
      at : (x ≡ s) ⊎ (is_on x w.marks ≡ true) → last_of p (with_mark s true w.marks) ≡ Some x
      at (inl same) = absurd (let h = is_remembered_by c s p (ap (parent_of c.tree) (sym same) ∙ up) in cc)
      at (inr was) = last_of-with_mark p s true w.marks ∙ r.active p x hist up was

  -- only a state with history remembers a child after s was entered
  only_if : (s : ℕ) (w : World) (h : Bool) → is_remembered c s ≡ h → Remembers c w.marks → (p x : ℕ)
      → last_of p (keep_if h c.tree s (set_mark s true w)).marks ≡ Some x → has_history c p ≡ true
  unfolding keep_in
  only_if s w true e r p x is =
      let i = remembering_parent c s e in
      ⊎_elim (λ q. ap (has_history c) q ∙ i.2) (λ ne.
      r.only p x (sym (last_of-with_mark p s true w.marks)
      ∙ sym (last_of-with_last_other c.tree s i.0 p (with_mark s true w.marks) i.1 ne) ∙ is)) (same_or_other p i.0)
  only_if s w false e r p x is = r.only p x (sym (last_of-with_mark p s true w.marks) ∙ is)

  -- entering a state keeps what is remembered right
  entered_remembers : (s : ℕ) (w : World) → can_mark c.tree s w.marks ≡ true → Remembers c w.marks
      → Remembers c (entered_in c s w).marks
  unfolding entered_in
  entered_remembers s w can r = record {
    consistent = entered_consistent c s w can r.consistent;
    active = active_if s w (is_remembered c s) refl can r;
    only = only_if s w (is_remembered c s) refl r;
  }

  -- each change of the rules keeps what is remembered right
  pub remembers_closed : (b : Bounds) → Closed c b (λ w. Remembers c w.marks)
  remembers_closed b = record {
    pays = λ w v e r. same w v (kept w (paid_keeps b w) e) r;
    assigns = λ x e w v q r. same w v (kept w (assigned_keeps x e w) q) r;
    emits = λ e w r. r;
    marks = λ s w can r. entered_remembers s w can r;
    clears = λ s w pos bare r.
        record {
          consistent = cleared c.tree w.marks r.consistent s bare;
          active = λ p x hist up on.
              let lt : s < mark_count w.marks =
              omega (
                arith,
                r.consistent.sized,
                on_is_state c.tree s w.marks r.consistent (bare_is_on c.tree s w.marks bare),
              ) in
              last_of-with_mark p s false w.marks ∙ r.active p x hist up (on_after_clear s x w.marks lt on).1;
          only = λ p x e. r.only p x (sym (last_of-with_mark p s false w.marks) ∙ e);
        };
  }
    where
      same : (w v : World) → v.marks ≡ w.marks → Remembers c w.marks → Remembers c v.marks
      same w v e r = subst (Remembers c) (sym e) r

-- ---- a state's own entry is what the tests of its children find

-- where nothing is found, neither the first item passes nor one of the rest
find_if : (x : ℕ) (b : Bool) (o : Option ℕ) (rest : Bool) → (o ≡ None → rest ≡ false) → cond b (Some x) o ≡ None
    → (b ≡ false) × (rest ≡ false)
find_if x true o rest h e = absurd cc
find_if x false o rest h e = (refl, h e)

-- where nothing is found, no item passes
none_found : (p : ℕ → Bool) (xs : List ℕ) → find p xs ≡ None → list_any p xs ≡ false
none_found p [] e = refl
none_found p (x ∷ xs) e =
    let h = find_if x (p x) (find p xs) (list_any p xs) (none_found p xs) e in let a = h.0 in let b = h.1 in cc

-- a child is remembered where its parent's entry names it
last_child : (t : Tree) (s x : ℕ) (m : Configuration) → parent_of t x ≡ Some s → is_last t x m ≡ is_this (last_of s m) x
unfolding is_last
last_child t s x m up = ap (λ o. option_map_or (λ p. is_this (last_of p m) x) o false) up

module _ (t : Tree) (tree : IsTree t) (m : Configuration) (k : IsConsistent t m) (s : ℕ) where
  -- what the tests find is what the entry names
  found_by : (o l : Option ℕ) → find (λ x. is_last t x m) (children_of t s) ≡ o → last_of s m ≡ l → o ≡ l
  unfolding children_of children_below
  found_by None None e f = refl
  found_by (Some x) l e f =
      let h = find_all (λ x. is_last t x m) (IsChild t s) (children_of t s) x (children_are t tree s) e in
      is_it l (ap (λ o. is_this o x) (sym f) ∙ sym (last_child t s x m h.1.parent) ∙ h.0)
    where
      is_it : (l : Option ℕ) → is_this l x ≡ true → Some x ≡ l
      is_it None e = absurd cc
      is_it (Some y) e = let q : x ≡ y = grind (arith, nat_tests, e) in ap Some q
  found_by None (Some y) e f =
      let up = (k.lasts s y f).1 in
      let off =
      none_in_range (λ x. is_last t x m) (is_child t s) 0 (state_count t) y (omega arith)
      (omega (arith, child_within t y s up)) (child_of_parent t s y up)
      (none_found (λ x. is_last t x m) (children_of t s) e) in
      let on : is_last t y m ≡ true = last_child t s y m up ∙ ap (λ o. is_this o y) f ∙ grind (arith, nat_tests) in
      absurd cc

  -- the child that the tests find is that of the entry
  pub remembered_in : find (λ x. is_last t x m) (children_of t s) ≡ last_of s m
  remembered_in = found_by (find (λ x. is_last t x m) (children_of t s)) (last_of s m) refl refl

-- so an interpreter may look at the entry
pub remembered_is_last : (c : Chart) → IsTree c.tree → (s : ℕ) (w : World) → has_history c s ≡ true
    → IsConsistent c.tree w.marks → remembered c s w ≡ last_of s w.marks
unfolding may_return
remembered_is_last c tree s w h k =
    ap (λ b. find (λ x. is_last c.tree x w.marks) (if b then children_of c.tree s else [])) h
    ∙ remembered_in c.tree tree w.marks k s
