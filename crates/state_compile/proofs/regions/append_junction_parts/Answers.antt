use Rattle.std.proofs.Common.{◌∙◌, ◌+◌, ◌++◌, map, ap, arith}
use Rattle.chart_code.specs.Keys.{junction_parts_keys, parts_keys}
use Rattle.chart_code.specs.Bodies.{body}
use Rattle.list_compile.specs.Drafts.{procs_of}
use Rattle.list_compile.specs.Numberings.{chart_in}
use Rattle.state_compile.proofs.Turns.{ascending_start, ascending_turn}
use Rattle.state_compile.proofs.regions.append_junction_parts.Goals as goal

pub loop-junction-init : goal.loop-junction-init
loop-junction-init c =
    let chart = chart_in c.args.numbering.now in
    ascending_start (body chart) (junction_parts_keys chart) (procs_of c.args.draft.now)

pub loop-junction-preserved : goal.loop-junction-preserved
loop-junction-preserved c =
    let chart = chart_in c.args.numbering.now in
    let n = c.loop-junction.junction in
    ascending_turn (body chart) (junction_parts_keys chart) n (n + 1) (procs_of c.args.draft.now)
    (procs_of c.loop-junction.draft) _ (omega arith) c.loop-junction.invariant
    (c.in_ok-append_parts.ensures
    ∙ ap (λ xs. procs_of c.loop-junction.draft ++ map (body chart) (parts_keys xs)) c.junction-list.ensures.list)
