use Rattle.std.proofs.Common.{arith}
use Rattle.c_bare.proofs.Written.{all-needless}
use Rattle.c_bare.proofs.search.are_needless.Goals as goal

pub returns : goal.returns
returns c =
    λ holds gs are. all-needless c.args.flags.now c.args.functions.now gs c.loop-number.number (omega arith)
    c.loop-number.invariant are
