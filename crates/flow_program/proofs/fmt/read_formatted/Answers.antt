use Rattle.std.proofs.Common.{ℕ, List}
use Rattle.std.specs.Prelude.{String, string_bytes}
use Rattle.std.specs.declared.alloc.Global.{Global}
use Rattle.std.proofs.lemmas.Result.{err_from_is_err_and}
use Rattle.chart_tree.specs.declared.limits.TheConstants.{CHART_TEXT_LIMIT}
use Rattle.chart_reader.specs.Text.{IsRefusal}
use Rattle.chart_format.specs.Text.{IsFormatted}
use Rattle.commands.proofs.ReadingLemmas.{gives_of}
use Rattle.commands.proofs.ChartFileLemmas.{unread_as, refused_as}
use Rattle.flow_program.proofs.ChartTextLemmas.{text_too_long}
use Rattle.flow_program.proofs.fmt.read_formatted.Goals as goal

-- the text isn't read
pub returns-in_err-text : goal.returns-in_err-text
returns-in_err-text g c =
    let p = err_from_is_err_and c.from_residual.result c.from_residual.ensures.1 in
    rw (p.1, p.2) (unread_as IsRefusal _ _ c.args.chart_file.now _ text_too_long c.in_err-text.ensures)

-- the text is a chart text
pub returns-in-Ok : goal.returns-in-Ok
returns-in-Ok g c =
    gives_of CHART_TEXT_LIMIT _ _ c.args.chart_file.now c.in_ok-text.text c.in_ok-text.ensures
    (λ (text : List ℕ) (canonical : String Global). IsFormatted text (string_bytes canonical)) c.in-Ok.canonical _ c.deref.ensures.value
    c.in-Ok.ensures.formatted

-- the text is refused
pub returns : goal.returns
returns g c =
    rw c.end_of_fault.ensures
    (refused_as IsRefusal _ _ c.args.chart_file.now c.in_ok-text.text c.in_ok-text.ensures c.in-Err.fault _ c.deref.ensures.value
    c.in-Err.ensures.refused)
