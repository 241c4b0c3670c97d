use Rattle.std.proofs.Common.{arith}
use Rattle.c_loops.proofs.Lists.{other-words}
use Rattle.c_loops.proofs.functions.are_words.Goals as goal

pub returns-in_default : goal.returns-in_default
returns-in_default c = other-words c.args.types.now (λ e. absurd (omega (arith, e, c.in_default.len_below)))

pub returns-in_default-2 : goal.returns-in_default-2
returns-in_default-2 c = other-words c.args.types.now (λ e. absurd (omega (arith, e, c.in_default.len_at_least)))
