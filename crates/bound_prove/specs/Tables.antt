-- The cells that a certificate of a chart has.
use Rattle.std.specs.Prelude.{◌+◌, ◌<◌, ℕ, length}
use Rattle.active_config.specs.Tree.{state_count}
use Rattle.actions.specs.declared.event.Event.{Event}
use Rattle.actions.specs.declared.event.Event.TheVariants.{Start, Tick, Named}
use Rattle.checked_chart.specs.Chart.{Chart, junction_count}
use Rattle.bound_prove.specs.declared.need.Part.{Part}
use Rattle.bound_prove.specs.declared.need.Part.TheVariants as parts

-- the number of an event: the start is 0, a tick is 1, and then come the declared ones
abbrev pub event_index : Event → ℕ
event_index Start = 0
event_index Tick = 1
event_index (Named e) = e + 2

-- how many events there are: the start, a tick, and those that are declared
abbrev pub event_count : Chart → ℕ
event_count c = length c.names.events + 2

-- how many cells a part has for each event
abbrev pub part_count : Chart → Part → ℕ
part_count c parts.Junction = junction_count c
part_count c parts.Exit = state_count c.tree
part_count c parts.Enter = state_count c.tree
part_count c parts.Process = state_count c.tree

-- the event and the junction or state are those of the chart
pub record IsInTable (c : Chart) (e : Event) (part : Part) (i : ℕ) : Type 0 where
  pub event : event_index e < event_count c
  pub index : i < part_count c part
