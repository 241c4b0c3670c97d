-- A chart that is read from one file and runs over another.
use Rattle.std.proofs.Common.{ℕ, ◌<◌, List, length, refl, inl}
use Rattle.flow_base.specs.declared.bounds.Bounds.{Bounds}
use Rattle.chart_lexer.specs.Lex.{begin}
use Rattle.chart_tree.specs.declared.fault.FormFault.TheVariants as faults
use Rattle.chart_tree.specs.declared.fault.FormKind.TheVariants as forms
use Rattle.chart_tree.specs.declared.limits.TheConstants.{CHART_TEXT_LIMIT}
use Rattle.checked_chart.specs.Kept.{Kept, chart_of}
use Rattle.accepted_charts.specs.Accepted.{IsAccepted, Refuses, OfText}
use Rattle.commands.specs.Call.{Sources, Call}
use Rattle.commands.specs.Reading.{Gives}
use Rattle.commands.specs.declared.traced.TraceEnd.{TraceEnd}
use Rattle.commands.specs.FileRuns.{FileRan}
use Rattle.commands.specs.Trace.{TraceEnds}
use Rattle.commands.proofs.TraceLemmas.{file_ran}
use Rattle.commands.specs.Rules.{by_rules}

-- a text that is too long isn't that of an accepted chart
pub too_long_refused : (text : List ℕ) → CHART_TEXT_LIMIT < length text → Refuses text (faults.At forms.TextTooLong begin)
too_long_refused text h = OfText (inl (record { kind_is = refl; long = h; place = refl }))

-- the chart that the first file gives ran over the second
pub ran : (call : Call) (first second : List ℕ) (between : Sources) (chart : Kept) (bounds : Bounds) (end : TraceEnd)
    → Gives (λ (text : List ℕ) (c : Kept). IsAccepted text (chart_of c)) call.sources_before between first chart
    → TraceEnds (by_rules (chart_of chart) bounds) (record call { sources_before = between }) second end
    → FileRan IsAccepted by_rules bounds call first second end
ran call first second between chart bounds end given traced =
    file_ran IsAccepted by_rules call first second between (chart_of chart) bounds end
    (record { text = given.text; read = given.read; means = given.means }) traced
