-- How `rules` ends.
use Rattle.std.specs.Prelude.{◌≡◌, ℕ, false, List}
use Rattle.flow_base.specs.declared.bounds.Bounds.{Bounds}
use Rattle.chart_tree.specs.declared.limits.TheConstants.{CHART_TEXT_LIMIT}
use Rattle.checked_chart.specs.Chart.{Chart}
use Rattle.sos_rules.specs.Reactions.{Starts, Reacts}
use Rattle.accepted_charts.specs.Accepted.{IsAccepted}
use Rattle.commands.specs.Call.{Call}
use Rattle.commands.specs.Reading.{Unread}
use Rattle.commands.specs.FileRuns.{FileRan}
use Rattle.commands.specs.Trace.{Behaviour}
use Rattle.commands.specs.declared.rules.RulesEnd.{RulesEnd}
use Rattle.commands.specs.declared.rules.RulesEnd.TheVariants as ends
use Rattle.commands.specs.Accepted.{RefusesAccepted}

-- how a chart behaves by the rules, where each event has these bounds
abbrev pub by_rules : Chart → Bounds → Behaviour
by_rules c bounds = record {
  starts = Starts c bounds;
  reacts = Reacts c bounds;
  tree = c.tree;
  names = c.names;
  never_wants_memory = false;
}

-- How `rules` ends with these bounds, and when. Where nothing comes of the chart's file, the event file isn't read and
-- nothing is written.
abbrev pub RulesEnds : Bounds → Call → List ℕ → List ℕ → RulesEnd → Type 0
RulesEnds bounds call first second (ends.NoChart end) =
    Unread CHART_TEXT_LIMIT RefusesAccepted call.sources_before call.sources_after first end
    × (call.output_after ≡ call.output_before)
RulesEnds bounds call first second (ends.Ran end) = FileRan IsAccepted by_rules bounds call first second end
