-- Where each start and each reaction ends so, so do all moments of a run.
use Rattle.std.proofs.Common.{◌≡◌, List, [], ◌∷◌, Option, Some, None, sym, subst}
use Rattle.std.specs.List.{AllByRecursion}
use Rattle.flow_base.specs.declared.fault.Fault.{Fault}
use Rattle.actions.specs.declared.event.Event.{Event}
use Rattle.actions.specs.Runs.{EventWithInputs, Moment, StartRelation, ReactionRelation, ReactsWithInputs}
use Rattle.actions.specs.Runs.{UnlessFaulted, GoesOn, Runs}
use Rattle.actions.specs.World.{World}

module _ (P : Moment → Type 0) (start : StartRelation) (react : ReactionRelation)
    (starts : (m : Moment) → start m.world m.fault → P m)
    (reacts : (w : World) (e : Event) (m : Moment) → react w e m.world m.fault → P m) where
  no_moments : (moments : List Moment) → moments ≡ [] → AllByRecursion P moments
  no_moments moments none = subst (λ (ms : List Moment). AllByRecursion P ms) (sym none) tt

  later_end : (events : List EventWithInputs) (m : Moment) (moments : List Moment) → GoesOn react m events moments
      → AllByRecursion P moments
  later_end [] m moments goes = no_moments moments goes
  later_end (given ∷ events) m moments goes =
      by m.fault goes (λ next later more. later_end events next later more)
    where
      by : (x : Option Fault)
          → UnlessFaulted x moments ((next : Moment) × (later : List Moment) × (moments ≡ next ∷ later)
          × ReactsWithInputs react m.world given next.world next.fault × GoesOn react next events later)
          → ((next : Moment) (later : List Moment) → GoesOn react next events later → AllByRecursion P later)
          → AllByRecursion P moments
      by (Some x) goes more = no_moments moments goes
      by None goes more =
          subst (λ (ms : List Moment). AllByRecursion P ms) (sym goes.2)
          (reacts goes.3.0 given.event goes.0 goes.3.2, more goes.0 goes.1 goes.4)

  pub run_ends : (events : List EventWithInputs) (moments : List Moment) → Runs start react events moments
      → AllByRecursion P moments
  run_ends events [] run = tt
  run_ends events (m ∷ moments) run = (starts m run.0, later_end events m moments run.1)
