use Rattle.std.proofs.Common.{◌+◌, arith}
use Rattle.chart_code.specs.Bodies.{body}
use Rattle.list_compile.specs.Drafts.{procs_of}
use Rattle.list_compile.specs.Numberings.{chart_in}
use Rattle.state_compile.specs.Keyed.{keys_of}
use Rattle.state_compile.proofs.Turns.{ascending_start, ascending_turn}
use Rattle.state_compile.proofs.regions.append_ascending.Goals as goal

pub loop-state-init : goal.loop-state-init
loop-state-init c =
    let chart = chart_in c.args.numbering.now in
    ascending_start (body chart) (keys_of chart c.args.kind) (procs_of c.args.draft.now)

pub loop-state-preserved : goal.loop-state-preserved
loop-state-preserved c =
    let chart = chart_in c.args.numbering.now in
    let n = c.loop-state.state in
    ascending_turn (body chart) (keys_of chart c.args.kind) n (n + 1) (procs_of c.args.draft.now)
    (procs_of c.loop-state.draft) _ (omega arith) c.loop-state.invariant c.in_ok-append_keys.ensures
