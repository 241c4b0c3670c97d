-- Starts and reactions by the rules with counters and a log.
use Rattle.std.specs.Prelude.{ℕ, List, []}
use Rattle.flow_base.specs.declared.bounds.Bounds.{Bounds}
use Rattle.actions.specs.declared.event.Event.{Event}
use Rattle.actions.specs.declared.event.Event.TheVariants.{Start}
use Rattle.actions.specs.World.{World, world_before, begun}
use Rattle.actions.specs.Work.{from_outside}
use Rattle.checked_chart.specs.Chart.{Chart}
use Rattle.sos_rules.specs.Parts.{Went}
use Rattle.counting_rules.specs.Counters.{Counters}
use Rattle.counting_log.specs.Log.{Note}
use Rattle.counting_log.specs.Work.{Logged}
use Rattle.counting_log.specs.Rules.{logged_upto}

-- the root is entered from the world before the start, with an empty log
abbrev pub logged_start_upto : Chart → Counters → Bounds → ℕ → Logged (Unit {0})
logged_start_upto c k b n = (logged_upto c k b n).enter 0 0 (from_outside Start) (world_before c.tree c.names) []

-- nothing is emitted yet and no step is used, and then the root is processed, with the log up to now
abbrev pub logged_react_upto : Chart → Counters → Bounds → World → List Note → Event → ℕ → Logged Went
logged_react_upto c k b w l e n = (logged_upto c k b n).process 0 (from_outside e) (begun w) l
