use Rattle.std.proofs.Common.{◌==◌, ◌≡◌, arith, true, false, refl}
use Rattle.std.proofs.lemmas.Bool.Decides.{nat_tests}
use Rattle.range_check.specs.declared.processing.Processed.{Processed}
use Rattle.range_check.proofs.WayLemmas.{own_passed, other_passed}
use Rattle.range_check.proofs.processing.passed_on.Goals as goal

pub returns-in_ok-stay : goal.returns-in_ok-stay
returns-in_ok-stay c =
    let own : (c.args.way.home == c.args.state) ≡ true = grind (arith, nat_tests, c.if-way-state.true) in
    let all : Processed = record { stay = c.in_ok-stay.stay; outs = c.args.all.outs } in
    own_passed c.args.setting.now c.args.state c.args.way c.args.all all own c.in_ok-stay.ensures refl

pub returns-in_ok-outs : goal.returns-in_ok-outs
returns-in_ok-outs c =
    let apart : (c.args.way.home == c.args.state) ≡ false = grind (arith, nat_tests, c.if-way-state.false) in
    let all : Processed = record { stay = c.args.all.stay; outs = c.in_ok-outs.outs } in
    other_passed c.args.setting.now c.args.state c.args.way c.args.all all apart c.in_ok-outs.ensures refl
