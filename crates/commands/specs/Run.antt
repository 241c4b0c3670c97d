-- How `run` ends.
use Rattle.std.specs.Prelude.{◌≡◌, ℕ, true, List}
use Rattle.flow_base.specs.declared.bounds.Bounds.{Bounds}
use Rattle.chart_tree.specs.declared.limits.TheConstants.{CHART_TEXT_LIMIT}
use Rattle.checked_chart.specs.Chart.{Chart}
use Rattle.sos_rules.specs.Reactions.{Starts, Reacts}
use Rattle.accepted_charts.specs.Accepted.{IsAccepted}
use Rattle.commands.specs.Call.{Call}
use Rattle.commands.specs.Reading.{Unread}
use Rattle.commands.specs.FileRuns.{FileRan}
use Rattle.commands.specs.Trace.{Behaviour}
use Rattle.commands.specs.Accepted.{RefusesAccepted}
use Rattle.commands.specs.declared.run.RunEnd.{RunEnd}
use Rattle.commands.specs.declared.run.RunEnd.TheVariants as ends

-- how a chart behaves that is compiled: as the rules say, where each event has these bounds; no memory is wanted once
-- the machine of its code is made
abbrev pub by_compiled : Chart → Bounds → Behaviour
by_compiled c bounds = record {
  starts = Starts c bounds;
  reacts = Reacts c bounds;
  tree = c.tree;
  names = c.names;
  never_wants_memory = true;
}

-- How `run` ends with these bounds, and when: as `rules` does, but for want of memory, which comes only before the
-- first byte of the trace. Where nothing comes of the chart's file, the event file isn't read and nothing is written.
abbrev pub RunEnds : Bounds → Call → List ℕ → List ℕ → RunEnd → Type 0
RunEnds bounds call first second (ends.NoChart end) =
    Unread CHART_TEXT_LIMIT RefusesAccepted call.sources_before call.sources_after first end
    × (call.output_after ≡ call.output_before)
RunEnds bounds call first second (ends.Ran end) = FileRan IsAccepted by_compiled bounds call first second end
