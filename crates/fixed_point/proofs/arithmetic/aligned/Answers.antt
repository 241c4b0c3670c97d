use Rattle.std.proofs.Common.{FitsSigned, ◌∙◌, sym, arith, rules}
use Rattle.std.proofs.lemmas.Int.{to_z-of_z}
use Rattle.std.specs.Int.{w128}
use Rattle.fixed_point.specs.Numbers.{common_frac}
use Rattle.fixed_point.proofs.Floors.{scaled-own}
use Rattle.fixed_point.proofs.arithmetic.aligned.Goals as goal

pub returns-then-a-b-clause-left : goal.returns-then-a-b-clause-left
returns-then-a-b-clause-left c =
    let fits : FitsSigned w128 c.args.a.mantissa = search rules in
    to_z-of_z w128 c.args.a.mantissa fits
    ∙ sym (scaled-own c.args.a (common_frac c.args.a c.args.b) (omega (arith, c.if-a-b.true)))

pub returns-then-a-b-clause-right : goal.returns-then-a-b-clause-right
returns-then-a-b-clause-right c =
    let fits : FitsSigned w128 c.args.b.mantissa = search rules in
    to_z-of_z w128 c.args.b.mantissa fits
    ∙ sym (scaled-own c.args.b (common_frac c.args.a c.args.b) (omega (arith, c.if-a-b.true)))
