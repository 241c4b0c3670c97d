-- Starts, reactions and runs by the rules with counters.
use Rattle.std.specs.Prelude.{ℕ, List}
use Rattle.flow_base.specs.declared.bounds.Bounds.{Bounds}
use Rattle.actions.specs.declared.event.Event.{Event}
use Rattle.actions.specs.declared.event.Event.TheVariants.{Start}
use Rattle.actions.specs.Runs.{StartRelation, ReactionRelation, Moment, EventWithInputs, Runs}
use Rattle.actions.specs.World.{World, world_before, begun}
use Rattle.actions.specs.Work.{Run, from_outside}
use Rattle.checked_chart.specs.Chart.{Chart}
use Rattle.sos_rules.specs.Parts.{Went}
use Rattle.sos_rules.specs.Reactions.{Gives}
use Rattle.counting_rules.specs.Counters.{Counters}
use Rattle.counting_rules.specs.Rules.{counting_upto}

-- the root is entered from the world before the start
abbrev pub counting_start_upto : Chart → Counters → Bounds → ℕ → Run (Unit {0})
counting_start_upto c k b n = (counting_upto c k b n).enter 0 0 (from_outside Start) (world_before c.tree c.names)

-- nothing is emitted yet and no step is used, and then the root is processed
abbrev pub counting_react_upto : Chart → Counters → Bounds → World → Event → ℕ → Run Went
counting_react_upto c k b w e n = (counting_upto c k b n).process 0 (from_outside e) (begun w)

-- the start leaves that world, with that fault or none
abbrev pub CountingStarts : Chart → Counters → Bounds → StartRelation
CountingStarts c k b w f = Gives (counting_start_upto c k b) (record { world = w; fault = f })

-- the event leaves, from the first world, the second, with that fault or none
abbrev pub CountingReacts : Chart → Counters → Bounds → ReactionRelation
CountingReacts c k b w e w' f = Gives (counting_react_upto c k b w e) (record { world = w'; fault = f })

-- the run over events with inputs: the moments after the start and after each event, up to the first fault
abbrev pub CountingRun : Chart → Counters → Bounds → List EventWithInputs → List Moment → Type 0
CountingRun c k b events moments = Runs (CountingStarts c k b) (CountingReacts c k b) events moments
