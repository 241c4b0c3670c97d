-- There is exactly one run over events with inputs that can be given.
use Rattle.std.proofs.Common.{◌≡◌, List, [], ◌∷◌, Option, Some, None, refl, ap}
use Rattle.std.specs.List.{AllByRecursion}
use Rattle.flow_base.specs.declared.bounds.Bounds.{Bounds}
use Rattle.flow_base.specs.declared.fault.Fault.{Fault}
use Rattle.actions.specs.Runs.{Moment, EventWithInputs, CanBeGiven, ReactsWithInputs, UnlessFaulted, GoesOn}
use Rattle.actions.specs.World.{World}
use Rattle.actions.proofs.RunLemmas.{HasOneStart, HasOneReaction, Runs-one}
use Rattle.checked_chart.specs.Chart.{Chart}
use Rattle.checked_chart.specs.Valid.{IsValid}
use Rattle.sos_rules.specs.Reactions.{Starts, Reacts, RulesRun, HasOneRun}
use Rattle.sos_rules.proofs.DeclaredData.{HasDeclared, start_declared, reaction_declared, set_inputs}
use Rattle.sos_rules.proofs.Reactions.{only_start, only_reaction, one_start, one_reaction}

module _ (c : Chart) (b : Bounds) where
  -- ---- at most one run

  -- a start has at most one outcome, as runs ask it
  at_most_one_start : HasOneStart (Starts c b)
  at_most_one_start w w' f f' x y =
      let e : record { world = w; fault = f } ≡ record { world = w'; fault = f' } = only_start c b _ _ x y in
      (ap (λ (m : Moment). m.world) e, ap (λ (m : Moment). m.fault) e)

  -- and so has an event
  at_most_one_reaction : HasOneReaction (Reacts c b)
  at_most_one_reaction w e w' w'' f f' x y =
      let q : record { world = w'; fault = f } ≡ record { world = w''; fault = f' } = only_reaction c b w e _ _ x y in
      (ap (λ (m : Moment). m.world) q, ap (λ (m : Moment). m.fault) q)

  -- ---- a run

  -- what the first event of a list leaves in a world, and what comes after it
  abbrev Next : World → EventWithInputs → List EventWithInputs → List Moment → Type 0
  Next w given events moments = (next : Moment) × (later : List Moment) × (moments ≡ next ∷ later)
      × ReactsWithInputs (Reacts c b) w given next.world next.fault × GoesOn (Reacts c b) next events later

  -- after a moment without a fault comes the next one, and after one with a fault none
  continued : (f : Option Fault) (w : World) (given : EventWithInputs) (events : List EventWithInputs) (next : Moment)
      (later : List Moment) → ReactsWithInputs (Reacts c b) w given next.world next.fault
      → GoesOn (Reacts c b) next events later
      → (moments : List Moment) × UnlessFaulted f moments (Next w given events moments)
  continued (Some x) w given events next later r goes = ([], refl)
  continued None w given events next later r goes = (next ∷ later, (next, later, refl, r, goes))

  module _ (valid : IsValid c) where
    -- an event with inputs has an outcome where the data are those that are declared, and they stay so
    reacts : (w : World) (given : EventWithInputs) → HasDeclared c.names w → CanBeGiven c.names given
        → (next : Moment) × ReactsWithInputs (Reacts c b) w given next.world next.fault
        × HasDeclared c.names next.world
    reacts w given h can =
        let inputs = set_inputs c.names 0 given.inputs w h can.inputs in
        let one = one_reaction c b valid.tree inputs.set given.event in (
          one.moment,
          (inputs.set, inputs.are_set, one.holds),
          reaction_declared c valid b inputs.set given.event one.moment inputs.declared one.holds,
        )

    -- so events have moments after each moment
    goes_on : (m : Moment) (events : List EventWithInputs) → HasDeclared c.names m.world
        → AllByRecursion (CanBeGiven c.names) events → (later : List Moment) × GoesOn (Reacts c b) m events later
    goes_on m [] h all = ([], refl)
    goes_on m (given ∷ events) h all =
        let next = reacts m.world given h all.0 in
        let rest = goes_on next.0 events next.2 all.1 in
        continued m.fault m.world given events next.0 rest.0 next.1 rest.1

    -- there is exactly one run over events with inputs that can be given
    pub one_run : (events : List EventWithInputs) → AllByRecursion (CanBeGiven c.names) events → HasOneRun c b events
    one_run events all =
        let first = one_start c b valid.tree in
        let rest = goes_on first.moment events (start_declared c valid b first.moment first.holds) all in
        let runs : RulesRun c b events (first.moment ∷ rest.0) = (first.holds, rest.1) in
        record {
          moments = first.moment ∷ rest.0;
          runs = runs;
          only = λ others other.
              Runs-one (Starts c b) (Reacts c b) at_most_one_start at_most_one_reaction events others
              (first.moment ∷ rest.0) other runs;
        }
