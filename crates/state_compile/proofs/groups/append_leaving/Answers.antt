use Rattle.std.proofs.Common.{◌∷◌, [], suc, ◌∙◌, arith}
use Rattle.chart_code.specs.Bodies.{body}
use Rattle.chart_code.specs.Ends.{below_count}
use Rattle.chart_code.specs.Keys.{Leave, Exit, Arrive}
use Rattle.chart_code.specs.Orders.{span}
use Rattle.chart_code.proofs.EndsLemmas.{end_after}
use Rattle.list_compile.specs.Drafts.{procs_of}
use Rattle.list_compile.specs.Numberings.{chart_in}
use Rattle.state_compile.proofs.Spans.{both, span_same}
use Rattle.state_compile.proofs.groups.append_leaving.Goals as goal

pub returns : goal.returns
returns c =
    let chart = chart_in c.args.numbering.now in
    let b = body chart in
    let s = c.args.state in
    let after = end_after chart.tree c.states.ensures.valid.tree s c.requires in
    let left = procs_of c.append_exit.new.draft in
    both b (Leave s ∷ Exit s ∷ []) (span (Arrive s) (suc s) (below_count chart.tree s))
    (procs_of c.args.draft.now) left _
    (both b (Leave s ∷ []) (Exit s ∷ []) (procs_of c.args.draft.now) (procs_of c.append_leave.new.draft) left
    c.in_ok-append_leave.ensures c.in_ok-append_exit.ensures)
    (c.in_ok-append_pairs.ensures ∙ span_same b (Arrive s) _ _ _ _ left (omega arith) (omega (arith, after)))
