-- How `net` ends.
use Rattle.std.specs.Prelude.{◌≡◌, ℕ, List, [], ◌∷◌, map, Some, None, Result, Ok, Err}
use Rattle.std.specs.Io.KnownBytes.{IsAtEnd}
use Rattle.std.specs.List.{AllByRecursion}
use Rattle.flow_base.specs.declared.bounds.Bounds.{Bounds}
use Rattle.net_text.specs.NetTexts.{NetText}
use Rattle.net_text.specs.Reading.{net_of_text}
use Rattle.net_text.specs.declared.fault.NetFault.{NetFault}
use Rattle.net_text.specs.declared.limits.TheConstants.{NET_TEXT_LIMIT}
use Rattle.net_text.specs.declared.net.NetChart.{NetChart}
use Rattle.commands.specs.Call.{Sources, Call, OthersStay}
use Rattle.commands.specs.NetCharts.{SaysNet, RefusesNet, LoadedChart, ReadsCharts, ChartUnread}
use Rattle.commands.specs.NetRoutes.{bad_route, routes_in}
use Rattle.commands.specs.NetRules.{net_by_rules}
use Rattle.commands.specs.Reading.{IsTold, Gives, Unread}
use Rattle.commands.specs.Schedule.{ScheduleEnds}
use Rattle.commands.specs.declared.net.NetCommandEnd.{NetCommandEnd}
use Rattle.commands.specs.declared.net.NetCommandEnd.TheVariants as ends
use Rattle.commands.specs.declared.file.FileEnd.{FileEnd}
use Rattle.commands.specs.declared.refusal.Refusal.{Refusal}
use Rattle.commands.specs.declared.schedule.ScheduleEnd.{ScheduleEnd}
use Rattle.commands.specs.declared.schedule.ScheduleEnd.TheVariants as runs

-- the files of charts
abbrev pub files_of_charts : List NetChart → List (List ℕ)
files_of_charts charts = map (λ (c : NetChart). c.file) charts

-- the file of the net was read whole, and then the files of its charts, each of which holds an accepted chart
pub record NetRead (before after : Sources) (first : List ℕ) (net : NetText) (loaded : List LoadedChart) : Type 0 where
  pub between : Sources
  pub net_read : Gives SaysNet before between first net
  pub charts_read : ReadsCharts [] between after net.charts loaded

-- the file of the net was read whole, and nothing comes of the file of the chart of that name
pub record NoChartRead (before after : Sources) (first name : List ℕ) (end : FileEnd Refusal) : Type 0 where
  pub net : NetText
  pub between : Sources
  pub net_read : Gives SaysNet before between first net
  pub number : ℕ
  pub unread : ChartUnread between after net.charts number end
  pub named : name ≡ unread.chart.name

-- the route of that line is the first whose names aren't of such events and data as its charts have
pub record RouteRefused (before after : Sources) (first : List ℕ) (line : ℕ) : Type 0 where
  pub net : NetText
  pub loaded : List LoadedChart
  pub read : NetRead before after first net loaded
  pub refused : bad_route loaded net.routes ≡ Some line

-- The files of the net and of its charts were read, each route is good, and the net ran over the schedule by the
-- rules, each event with these bounds. Where the run ended well, nothing is left of any of the files.
pub record NetRan (bounds : Bounds) (call : Call) (first second : List ℕ) (end : ScheduleEnd) : Type 0 where
  pub net : NetText
  pub loaded : List LoadedChart
  pub between : Sources
  pub read : NetRead call.sources_before between first net loaded
  pub good : bad_route loaded net.routes ≡ None
  pub traces : ScheduleEnds (net_by_rules bounds loaded (routes_in loaded net.routes))
      (record call { sources_before = between }) second end
  pub ended : end ≡ runs.Done
      → AllByRecursion (λ file. IsAtEnd (call.sources_after.left file)) (first ∷ second ∷ files_of_charts net.charts)

-- How `net` ends with these bounds, and when. Where nothing comes of the file of the net or of a chart, or a route is
-- refused,
-- no later file is read and nothing is written.
abbrev pub NetEnds : Bounds → Call → List ℕ → List ℕ → NetCommandEnd → Type 0
NetEnds bounds call first second (ends.NoNet end) =
    Unread NET_TEXT_LIMIT RefusesNet call.sources_before call.sources_after first end
    × (call.output_after ≡ call.output_before)
NetEnds bounds call first second (ends.NoChart name end) =
    NoChartRead call.sources_before call.sources_after first name end × (call.output_after ≡ call.output_before)
NetEnds bounds call first second (ends.NoRoute line) =
    RouteRefused call.sources_before call.sources_after first line × (call.output_after ≡ call.output_before)
NetEnds bounds call first second (ends.Ran end) = NetRan bounds call first second end

-- ---- the files that are read

-- the files that an outcome of reading names: those of the charts of a net
abbrev pub files_said : Result NetText NetFault → List (List ℕ)
files_said (Ok net) = files_of_charts net.charts
files_said (Err fault) = []

-- other files than the net, the schedule, and those that the text of the net names have left what they had
pub record NetOthersStay (call : Call) (first second : List ℕ) : Type 0 where
  pub text : List ℕ
  pub is_told : IsTold (call.sources_before.left first) text
  pub others : OthersStay (first ∷ second ∷ files_said (net_of_text text)) call.sources_before call.sources_after
