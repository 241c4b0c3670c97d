use Rattle.std.proofs.Common.{pos, ap, ◌∙◌, arith}
use Rattle.std.proofs.lemmas.Nat.{pow_below}
use Rattle.std.proofs.lemmas.Int.{to_z_pos}
use Rattle.std.specs.Int.{w128}
use Rattle.range_spans.proofs.span.small_power.Goals as goal

-- the sign bit stays clear
pub overflow_cast-result : goal.overflow_cast-result
overflow_cast-result c = let below = pow_below c.args.exponent 127 (omega arith) in omega arith

pub returns : goal.returns
returns c =
    let below = pow_below c.args.exponent 127 (omega arith) in
    to_z_pos w128 c.unsigned_power.result (omega arith) ∙ ap pos c.unsigned_power.ensures
