-- Memory tells the world, and so some arithmetic agrees with that of code.
use Rattle.std.proofs.Common.{◌≡◌, ℕ, ◌&&◌, List, Option, Some, None, Bool, true, false, Result, Ok, Err, refl, sym, ap}
use Rattle.std.proofs.Common.{◌∙◌, subst, arith}
use Rattle.std.proofs.lemmas.List.FromFn.{fill_by_all}
use Rattle.std.specs.Prelude.{◌==◌, slice_index_or}
use Rattle.std.specs.List.{find, range_with_len}
use Rattle.flow_base.specs.declared.fault.Fault.{Fault}
use Rattle.active_config.specs.Tree.{Tree, state_count, is_child}
use Rattle.active_config.specs.Marks.{Configuration, is_on, mark_count, last_of, IsConsistent}
use Rattle.active_config.proofs.ParentLemmas.{child_within}
use Rattle.active_config.proofs.ChildLemmas.{parent_of_child, child_of_parent}
use Rattle.active_config.proofs.RangeLemmas.{find-none, find-first}
use Rattle.actions.specs.Data.{Datum, assigned}
use Rattle.actions.specs.Exprs.{Expr}
use Rattle.actions.specs.Values.{Valued, value_of}
use Rattle.actions.specs.World.{World}
use Rattle.actions.specs.Changes.{truth_of, assigned_in, assigned_value, with_data}
use Rattle.c_functions.specs.States.{States, Numbers, Shows, number, c_on}
use Rattle.c_functions.specs.Statements.{CMemory}
use Rattle.c_functions.specs.Runs.{Stands, Stored, Agree, told, world_of, with_vals, own_sums}
use Rattle.c_functions.proofs.StatesTests.{on_is, same_self, differ}

and_right : (a b : Bool) → (a ≡ true → b ≡ false) → (a && b) ≡ false
and_right true b h = h refl
and_right false b h = refl

and_both : (a b : Bool) → a ≡ true → b ≡ true → (a && b) ≡ true
and_both true b e f = f
and_both false b e f = absurd cc

module _ (t : Tree) (n : ℕ → ℕ) (num : Numbers t n) where
  module _ (st : States) (m : Configuration) (k : IsConsistent t m) (h : Shows t n st m) where
    last_at : (p : ℕ) (o : Option ℕ) → last_of p m ≡ o
        → find (λ x. is_child t p x && (n x == slice_index_or st.kept p 0)) (range_with_len 0 (state_count t)) ≡ o
    last_at p None e =
        find-none (λ x. is_child t p x && (n x == slice_index_or st.kept p 0)) 0 (state_count t)
        (λ x lo hi. and_right _ _ (λ c. ap (λ i. n x == i) (h.lasts p ∙ ap (number n) e) ∙ differ (n x) 0 (num.some x)))
    last_at p (Some y) e =
        let up = (k.lasts p y e).1 in
        let lt = child_within t y p up in
        find-first (λ x. is_child t p x && (n x == slice_index_or st.kept p 0)) 0 (state_count t) y (omega arith)
        (omega (arith, lt))
        (and_both _ _ (child_of_parent t p y up) (ap (λ i. n y == i) (h.lasts p ∙ ap (number n) e) ∙ same_self (n y)))
        (λ x lo hi. and_right _ _ (λ c. ap (λ i. n x == i) (h.lasts p ∙ ap (number n) e)
        ∙ differ (n x) (n y) (λ f. absurd
        (let same = num.apart p x y (parent_of_child t p x c) up f in omega (arith, hi, same)))))

    -- the fields tell the marks that they show
    pub told_is : told t n st ≡ m
    unfolding told is_on last_of mark_count
    told_is =
        let a = fill_by_all (λ s. c_on t n s st) m.flags (state_count t) false k.sized
        (λ s lt. sym (on_is t n st m h s)) in
        let b = fill_by_all (λ p. find (λ x. is_child t p x && (n x == slice_index_or st.kept p 0))
        (range_with_len 0 (state_count t)))
        m.last (state_count t) None k.entries (λ p lt. sym (last_at p (last_of p m) refl)) in
        ap (λ l. record { flags = l; last = (told t n st).last }) (sym a) ∙ ap
        (λ l. record { flags = m.flags; last = l }) (sym b)

  -- memory tells the world that it stands for
  pub world_is : (m : CMemory) (w : World) → Stands t n m w → world_of t n m ≡ w
  world_is m w h =
      ap (λ x. record { marks = x; vals = m.vals; outputs = m.outputs; used = m.used })
      (told_is m.states w.marks h.consistent h.states)
      ∙ ap (λ x. record { marks = w.marks; vals = x; outputs = m.outputs; used = m.used }) h.vals
      ∙ ap (λ x. record { marks = w.marks; vals = w.vals; outputs = x; used = m.used }) h.outputs
      ∙ ap (λ x. record { marks = w.marks; vals = w.vals; outputs = w.outputs; used = x }) h.used

  stored_is : (v : ℕ) (x : Expr) (m : CMemory) (w : World) → Stands t n m w
      → Stored t n m (with_vals m (assigned_in v x w)) (assigned_in v x w)
  unfolding assigned_in
  stored_is v x m w h = by (value_of w.vals w.marks x)
    where
      data_by : (o : Result (List Datum) Fault) → Stored t n m (with_vals m (with_data o w)) (with_data o w)
      data_by (Ok vals) = (
        record { states = h.states; consistent = h.consistent; vals = refl; outputs = h.outputs; used = h.used },
        refl,
      )
      data_by (Err y) = refl

      by : (o : Valued) → Stored t n m (with_vals m (assigned_value v o w)) (assigned_value v o w)
      by (Ok y) = data_by (assigned w.vals v y)
      by (Err y) = refl

  -- code's own arithmetic agrees
  pub own_agrees : Agree t n (own_sums t n)
  own_agrees = record {
    truth = λ x m w h. ap (truth_of x) (world_is m w h);
    store = λ v x m w h. subst (λ u. Stored t n m (with_vals m (assigned_in v x u)) (assigned_in v x w))
        (sym (world_is m w h)) (stored_is v x m w h);
  }
