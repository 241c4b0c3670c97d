use Rattle.std.proofs.Common.{refl, arith}
use Rattle.chart_code.specs.Bodies.{body}
use Rattle.list_compile.specs.Drafts.{procs_of}
use Rattle.list_compile.specs.Numberings.{chart_in}
use Rattle.state_compile.specs.Keyed.{pair_key}
use Rattle.state_compile.proofs.Spans.{span_turn, span_over, span_same}
use Rattle.state_compile.proofs.pairs.append_pairs.Goals as goal

pub loop-dest-init : goal.loop-dest-init
loop-dest-init c =
    let chart = chart_in c.args.numbering.now in
    span_same (body chart) (pair_key c.args.key c.args.state) _ _ _ _ (procs_of c.args.draft.now) refl
    (omega (arith, c.end-dest-end.ensures.end))

pub append_pair-requires-clause-dest : goal.append_pair-requires-clause-dest
append_pair-requires-clause-dest c = omega (arith, c.loop-dest-test.true, c.end-dest-end.ensures.within)

pub loop-dest-preserved : goal.loop-dest-preserved
loop-dest-preserved c =
    span_turn (body (chart_in c.args.numbering.now)) (pair_key c.args.key c.args.state) c.loop-dest.dest _
    (procs_of c.loop-dest.draft) _ _ c.loop-dest-test.true c.loop-dest.invariant c.in_ok-append_pair.ensures

pub returns : goal.returns
returns c =
    span_over (body (chart_in c.args.numbering.now)) (pair_key c.args.key c.args.state) c.loop-dest.dest _
    (procs_of c.loop-dest.draft) _ (omega (arith, c.loop-dest-test.false)) c.loop-dest.invariant
