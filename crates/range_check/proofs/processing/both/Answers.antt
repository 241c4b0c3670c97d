use Rattle.range_check.specs.declared.processing.Processed.{Processed}
use Rattle.range_check.proofs.WayLemmas.{first_ends, second_ends}
use Rattle.range_check.proofs.processing.both.Goals as goal

pub returns-clause-first : goal.returns-clause-first
returns-clause-first c =
    let all : Processed = record { stay = c.in_ok-stay.stay; outs = c.in_ok-outs.outs } in
    first_ends c.args.setting.now c.args.a c.args.b all c.in_ok-stay.ensures c.in_ok-outs.ensures

pub returns-clause-second : goal.returns-clause-second
returns-clause-second c =
    let all : Processed = record { stay = c.in_ok-stay.stay; outs = c.in_ok-outs.outs } in
    second_ends c.args.setting.now c.args.a c.args.b all c.in_ok-stay.ensures c.in_ok-outs.ensures
