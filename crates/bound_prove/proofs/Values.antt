-- The least need that covers what processing a state may take.
use Rattle.std.proofs.Common.{arith}
use Rattle.bound_prove.specs.declared.need.Need.{Need}
use Rattle.bound_prove.specs.Needs.{in_turn, either, Covers}

-- what covers two needs covers either
pub covers_both : {x : Need} (y z : Need) → Covers x y → Covers x z → Covers x (either y z)
unfolding either
covers_both y z h k = record { depth = omega (arith, h.depth, k.depth); steps = omega (arith, h.steps, k.steps) }

-- one piece of work and then either of two takes no more than either of both ways
pub turn_even : (x y z : Need) → Covers (either (in_turn x y) (in_turn x z)) (in_turn x (either y z))
unfolding in_turn either
turn_even x y z = record { depth = omega arith; steps = omega arith }
