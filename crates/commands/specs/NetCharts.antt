-- The text of a net, and the charts of its files.
use Rattle.std.specs.Prelude.{◌≡◌, ◌≢◌, ℕ, List, [], ◌∷◌, ◌++◌, Option, Some, None, option_map, option_and_then}
use Rattle.std.specs.Prelude.{is_some, true, length, slice_get, Result, Ok, Err, Vec}
use Rattle.std.specs.List.{find, AllByRecursion}
use Rattle.std.specs.Option.{option_map_or}
use Rattle.std.specs.Str.{bytes_eq}
use Rattle.std.specs.declared.alloc.Global.{Global}
use Rattle.chart_tree.specs.declared.limits.TheConstants.{CHART_TEXT_LIMIT}
use Rattle.checked_chart.specs.Chart.{Chart}
use Rattle.checked_chart.specs.Kept.{chart_of}
use Rattle.accepted_charts.specs.Accepted.{IsAccepted}
use Rattle.net_text.specs.NetTexts.{NetText}
use Rattle.net_text.specs.Reading.{net_of_text}
use Rattle.net_text.specs.declared.fault.NetFault.{NetFault}
use Rattle.net_text.specs.declared.fault.NetFault.TheVariants as net_faults
use Rattle.net_text.specs.declared.net.NetChart.{NetChart}
use Rattle.commands.specs.Accepted.{RefusesAccepted}
use Rattle.commands.specs.Call.{Sources}
use Rattle.commands.specs.Reading.{Gives, Unread}
use Rattle.commands.specs.declared.file.FileEnd.{FileEnd}
use Rattle.commands.specs.declared.net_charts.ReadFile.{ReadFile}
use Rattle.commands.specs.declared.net_charts.UnreadChart.{UnreadChart}
use Rattle.commands.specs.declared.refusal.Refusal.{Refusal}

-- ---- the text of a net

-- the text says this net
abbrev pub SaysNet : List ℕ → NetText → Type 0
SaysNet text net = net_of_text text ≡ Ok net

-- the text says no net, and that is its first fault
pub record RefusesNet (text : List ℕ) (fault : NetFault) : Type 0 where
  pub cause : net_of_text text ≡ Err fault
  pub of_text : fault ≢ net_faults.Memory

-- the name of the chart of that number
abbrev pub name_at : NetText → ℕ → List ℕ
name_at net n = option_map_or (λ (c : NetChart). c.name) (slice_get net.charts n) []

-- ---- the charts of its files

-- a chart of a net that was read: its name, the file of its text, and the chart
pub record LoadedChart : Type 0 where
  pub name : List ℕ
  pub file : List ℕ
  pub chart : Chart

-- a chart of a net, whose file has that chart
abbrev pub loaded_as : NetChart → Chart → LoadedChart
loaded_as c chart = record { name = c.name; file = c.file; chart = chart }

-- the chart of the first of them whose file has that name, if there is one
abbrev pub chart_known : List ℕ → List LoadedChart → Option Chart
chart_known file charts =
    option_map (λ (c : LoadedChart). c.chart) (find (λ (c : LoadedChart). bytes_eq c.file file) charts)

-- what a file gives: the chart that it gave before, and then it isn't read again; or the accepted chart of its text
abbrev pub GivesChart : Option Chart → Sources → Sources → List ℕ → Chart → Type 0
GivesChart None before after file chart = Gives IsAccepted before after file chart
GivesChart (Some known) before after file chart = (chart ≡ known) × (after ≡ before)

-- the files of charts are read in order, after those of earlier charts
abbrev pub ReadsCharts : List LoadedChart → Sources → Sources → List NetChart → List LoadedChart → Type 0
ReadsCharts earlier before after [] loaded = (loaded ≡ []) × (after ≡ before)
ReadsCharts earlier before after (c ∷ charts) loaded =
    (chart : Chart) × (later : List LoadedChart) × (between : Sources) × (loaded ≡ loaded_as c chart ∷ later)
    × GivesChart (chart_known c.file earlier) before between c.file chart
    × ReadsCharts (earlier ++ loaded_as c chart ∷ []) between after charts later

-- the files of the first charts were read, and nothing comes of that of the chart of that number, which no earlier
-- chart has
pub record ChartUnread (before after : Sources) (charts : List NetChart) (number : ℕ)
    (end : FileEnd Refusal) : Type 0 where
  pub ahead : List NetChart
  pub chart : NetChart
  pub later : List NetChart
  pub parts : charts ≡ ahead ++ chart ∷ later
  pub number_is : number ≡ length ahead
  pub loaded : List LoadedChart
  pub between : Sources
  pub ahead_read : ReadsCharts [] before between ahead loaded
  pub new : chart_known chart.file loaded ≡ None
  pub unread : Unread CHART_TEXT_LIMIT RefusesAccepted between after chart.file end

-- ---- the files that were read, as the code keeps them

-- the chart of the file of that name, if it was read
abbrev pub chart_in : List ReadFile → List ℕ → Option Chart
chart_in files name =
    option_map (λ (f : ReadFile). chart_of f.chart) (find (λ (f : ReadFile). bytes_eq f.file name) files)

-- the chart of that number, if its file was read
abbrev pub chart_numbered : List NetChart → List ReadFile → ℕ → Option Chart
chart_numbered charts files n = option_and_then (λ (c : NetChart). chart_in files c.file) (slice_get charts n)

-- the files of all charts were read
abbrev pub AllRead : List ReadFile → List NetChart → Type 0
AllRead files charts = AllByRecursion (λ (c : NetChart). is_some (chart_in files c.file) ≡ true) charts

-- a chart before others, if it was read
abbrev pub before_charts : NetChart → Option Chart → List LoadedChart → List LoadedChart
before_charts c None later = later
before_charts c (Some chart) later = loaded_as c chart ∷ later

-- the charts whose files were read
abbrev pub loaded_in : List ReadFile → List NetChart → List LoadedChart
loaded_in files [] = []
loaded_in files (c ∷ charts) = before_charts c (chart_in files c.file) (loaded_in files charts)

-- the files of all charts were read, or the one of that number gives nothing
abbrev pub ChartsRead : Sources → Sources → List NetChart → Result (Vec ReadFile Global) UnreadChart → Type 0
ChartsRead before after charts (Ok files) =
    ReadsCharts [] before after charts (loaded_in files.items charts) × AllRead files.items charts
ChartsRead before after charts (Err unread) = ChartUnread before after charts unread.number unread.end
