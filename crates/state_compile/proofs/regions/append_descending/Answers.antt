use Rattle.std.proofs.Common.{◌++◌, ◌-◌, map, ap, arith}
use Rattle.chart_code.specs.Bodies.{body}
use Rattle.chart_code.specs.Orders.{descending}
use Rattle.list_compile.specs.Drafts.{procs_of}
use Rattle.list_compile.specs.Numberings.{chart_in}
use Rattle.state_compile.specs.Keyed.{keys_of}
use Rattle.state_compile.proofs.Turns.{descending_turn, descending_over}
use Rattle.state_compile.proofs.regions.append_descending.Goals as goal

pub loop-state-init : goal.loop-state-init
loop-state-init c =
    let chart = chart_in c.args.numbering.now in
    ap (λ n. procs_of c.args.draft.now ++ map (body chart) (descending (keys_of chart c.args.kind) n))
    c.states-state.ensures.states

pub loop-state-preserved : goal.loop-state-preserved
loop-state-preserved c =
    let chart = chart_in c.args.numbering.now in
    let n = c.loop-state.state in
    descending_turn (body chart) (keys_of chart c.args.kind) n (n - 1) (procs_of c.loop-state.draft) _ _ (omega arith)
    c.loop-state.invariant c.in_ok-append_keys.ensures

pub returns : goal.returns
returns c =
    let chart = chart_in c.args.numbering.now in
    descending_over (body chart) (keys_of chart c.args.kind) c.loop-state.state (procs_of c.loop-state.draft) _
    (omega arith) c.loop-state.invariant
