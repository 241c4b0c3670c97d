use Rattle.std.proofs.Common.{suc, refl, ◌∙◌, arith}
use Rattle.chart_code.specs.Bodies.{body}
use Rattle.chart_code.specs.Ends.{below_count}
use Rattle.chart_code.specs.Keys.{Take, Enter}
use Rattle.chart_code.specs.Orders.{span}
use Rattle.chart_code.proofs.EndsLemmas.{end_after}
use Rattle.list_compile.specs.Drafts.{procs_of}
use Rattle.list_compile.specs.Numberings.{chart_in}
use Rattle.state_compile.proofs.Spans.{both, span_same}
use Rattle.state_compile.proofs.groups.append_taking.Goals as goal

pub returns : goal.returns
returns c =
    let chart = chart_in c.args.numbering.now in
    let b = body chart in
    let s = c.args.state in
    let n = suc (below_count chart.tree s) in
    let after = end_after chart.tree c.states.ensures.valid.tree s c.requires in
    let before = procs_of c.args.draft.now in
    let taken = procs_of c.append_pairs.new.draft in
    both b (span (Take s) s n) (span (Enter s) s n) before taken _
    (c.in_ok-append_pairs.ensures ∙ span_same b (Take s) _ _ _ _ before refl (omega (arith, after)))
    (c.in_ok-append_pairs-2.ensures ∙ span_same b (Enter s) _ _ _ _ taken refl (omega (arith, after)))
