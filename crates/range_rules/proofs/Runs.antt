-- A closed certificate keeps its ranges at each moment of each run, whatever the bounds.
use Rattle.std.proofs.Common.{◌≡◌, ◌≤◌, ℕ, zero, suc, ◌+◌, Bool, true, false, List, [], ◌∷◌, Option, Some, None}
use Rattle.std.proofs.Common.{refl, sym, subst}
use Rattle.std.proofs.Common.{slice_get, slice_index_or, arith, ◌⊎◌, inl, inr}
use Rattle.std.specs.List.{AllByRecursion}
use Rattle.flow_base.specs.declared.bounds.Bounds.{Bounds}
use Rattle.flow_base.specs.declared.fault.Fault.{Fault}
use Rattle.flow_base.specs.declared.fault.Fault.TheVariants as faults
use Rattle.actions.specs.declared.expr.Value.{Value}
use Rattle.actions.specs.Runs.{Moment, EventWithInputs, CanBeGiven, AreInputValues, AreSet, GoesOn, UnlessFaulted}
use Rattle.actions.specs.Runs.{ReactsWithInputs}
use Rattle.actions.specs.Work.{Run, Ended, Faulted, Unfinished}
use Rattle.actions.specs.World.{World, begun}
use Rattle.checked_chart.specs.Chart.{Chart}
use Rattle.sos_rules.specs.Reactions.{moment_of, Gives, start_upto, react_upto, Reacts, RulesRun}
use Rattle.range_rules.specs.declared.cert.Around.{Around}
use Rattle.range_rules.specs.declared.cert.Cell.{Cell}
use Rattle.range_rules.specs.declared.cert.Certificate.{Certificate}
use Rattle.range_rules.specs.Closed.{IsCellRight, AreRight, IsRest, StandsFreed, IsClosed}
use Rattle.range_rules.specs.Kept.{KeepsRanges}
use Rattle.range_rules.specs.Worlds.{MayBe, EndsIn, always_of}
use Rattle.range_spans.specs.Boxes.{box_of}
use Rattle.range_spans.proofs.BoxLemmas.{freed_box, sets_box}

not_both : (b : Bool) → b ≡ true → b ≡ false → ⊥
not_both true e q = absurd cc
not_both false e q = absurd cc

module _ (c : Chart) (cert : Certificate) (closed : IsClosed c cert) (b : Bounds) where
  -- all cells are right at each height
  next_right : (n m : ℕ) → AreRight c b cert n → (m ≤ n) ⊎ (m ≡ suc n) → (i : ℕ) (cell : Cell)
      → slice_get cert.cells.items i ≡ Some cell → IsCellRight c b cert m cell
  next_right n m right (inl l) i cell is = right m l i cell is
  next_right n m right (inr e) i cell is =
      subst (λ k. IsCellRight c b cert k cell) (sym e) (closed.cells b n right i cell is)

  lower_or_next : (m n : ℕ) → m ≤ suc n → (m ≤ n) ⊎ (m ≡ suc n)
  lower_or_next zero n l = inl (omega arith)
  lower_or_next (suc m) zero l = let z : m ≡ 0 = omega arith in inr (omega arith)
  lower_or_next (suc m) (suc n) l = at (lower_or_next m n (omega arith))
    where
      at : (m ≤ n) ⊎ (m ≡ suc n) → (suc m ≤ suc n) ⊎ (suc m ≡ suc (suc n))
      at (inl k) = inl (omega arith)
      at (inr e) = inr (omega arith)

  no_height : (m : ℕ) → m ≤ 0 → (cell : Cell) → IsCellRight c b cert m cell
  no_height zero l cell = λ depth w s. tt
  no_height (suc m) l cell = absurd (omega arith)

  pub all_right : (n : ℕ) → AreRight c b cert n
  all_right zero m l i cell is = no_height m l cell
  all_right (suc n) m l i cell is = next_right n m (all_right n) (lower_or_next m n l) i cell is

  -- the moment that an end leads to
  moment_keeps : {A : Type 0} (r : Run A) (m : Moment) → EndsIn cert (λ _ w. IsRest c cert w) r → moment_of r ≡ Some m
      → KeepsRanges c cert m
  moment_keeps (Ended a w) m ends e =
      let g : record { world = w; fault = None } ≡ m = cc in
      subst (KeepsRanges c cert) g (record {
        data_in = ends.stands.data_in.at_each_moment;
        zero = λ _ none. absurd cc;
        overflow = λ v _ none. absurd cc;
        rests = λ _. ends;
      })
  moment_keeps (Faulted z w) m ends e =
      let g : record { world = w; fault = Some z } ≡ m = cc in
      subst (KeepsRanges c cert) g (record {
        data_in = ends.1;
        zero = λ none is. let same : z ≡ faults.Zero = cc in not_both cert.zero (subst (MayBe cert) same ends.0) none;
        overflow = λ v none is. let same : z ≡ faults.Overflow v = cc in
            not_both (slice_index_or cert.over.items v false) (subst (MayBe cert) same ends.0) none;
        rests = λ none. absurd cc;
      })
  moment_keeps Unfinished m ends e = absurd cc

  start_keeps : (m : Moment) → Gives (start_upto c b) m → KeepsRanges c cert m
  start_keeps m g = moment_keeps (start_upto c b g.height) m (closed.starts b g.height (all_right g.height)) g.gives

  -- inputs
  set_stands : (x : Around) (v : ℕ) (inputs : List (Option Value)) (w w' : World) → AreInputValues c.names v inputs
      → AreSet v inputs w w' → StandsFreed c.names cert x w → StandsFreed c.names cert x w'
  set_stands x v [] w w' are set h = subst (StandsFreed c.names cert x) (sym set) h
  set_stands x v (None ∷ inputs) w w' are set h = set_stands x (v + 1) inputs w w' are set h
  set_stands x v (Some value ∷ inputs) w w' are set h =
      let one = set.1 in
      let between : StandsFreed c.names cert x set.0 = subst (StandsFreed c.names cert x) (sym one.2) (record {
        config = h.config;
        data_in = sets_box c.names (always_of cert) closed.inputs (box_of x.spans.items) v value w.vals one.0 are.0
            one.1
            h.data_in;
      }) in
      set_stands x (v + 1) inputs set.0 w' are.1 set.2 between

  reaction_keeps : (w set : World) (given : EventWithInputs) (m : Moment) → CanBeGiven c.names given
      → IsRest c cert w → AreSet 0 given.inputs w set → Gives (react_upto c b set given.event) m → KeepsRanges c cert m
  reaction_keeps w set given m can at are g =
      let x = at.set in
      let first : StandsFreed c.names cert x w = record {
        config = at.stands.config;
        data_in = freed_box c.names (always_of cert) (box_of x.spans.items) w.vals at.stands.data_in;
      } in
      let stands = set_stands x 0 given.inputs w set can.inputs are first in
      let now : StandsFreed c.names cert x (begun set) = record { config = stands.config; data_in = stands.data_in } in
      moment_keeps (react_upto c b set given.event g.height) m
      (closed.reacts b g.height (all_right g.height) given.event can.event at.place x at.is (begun set) now) g.gives

  unless_keeps : (m : Moment) (f : Option Fault) (given : EventWithInputs) (events : List EventWithInputs)
      (moments : List Moment) → CanBeGiven c.names given → m.fault ≡ f → KeepsRanges c cert m
      → ((next : Moment) (later : List Moment) → KeepsRanges c cert next → GoesOn (Reacts c b) next events later
      → AllByRecursion (KeepsRanges c cert) later)
      → UnlessFaulted f moments
      ((next : Moment) × (later : List Moment) × (moments ≡ next ∷ later)
      × ReactsWithInputs (Reacts c b) m.world given next.world next.fault × GoesOn (Reacts c b) next events later)
      → AllByRecursion (KeepsRanges c cert) moments
  unless_keeps m (Some z) given events moments can e held more h = subst (AllByRecursion (KeepsRanges c cert)) (sym h)
      tt
  unless_keeps m None given events moments can e held more h =
      let next = reaction_keeps m.world h.3.0 given h.0 can (held.rests e) h.3.1 h.3.2 in
      subst (AllByRecursion (KeepsRanges c cert)) (sym h.2) (next, more h.0 h.1 next h.4)

  goes_on_keeps : (m : Moment) (events : List EventWithInputs) (moments : List Moment)
      → AllByRecursion (CanBeGiven c.names) events → KeepsRanges c cert m → GoesOn (Reacts c b) m events moments
      → AllByRecursion (KeepsRanges c cert) moments
  goes_on_keeps m [] moments can held h = subst (AllByRecursion (KeepsRanges c cert)) (sym h) tt
  goes_on_keeps m (given ∷ events) moments can held h =
      unless_keeps m m.fault given events moments can.0 refl held
      (λ next later held' i. goes_on_keeps next events later can.1 held' i) h

  pub run_keeps : (events : List EventWithInputs) (moments : List Moment) → AllByRecursion (CanBeGiven c.names) events
      → RulesRun c b events moments → AllByRecursion (KeepsRanges c cert) moments
  run_keeps events [] can h = absurd h
  run_keeps events (m ∷ moments) can h =
      let first = start_keeps m h.0 in (first, goes_on_keeps m events moments can first h.1)
