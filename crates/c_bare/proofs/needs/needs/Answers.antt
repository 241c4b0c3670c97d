use Rattle.std.proofs.Common.{◌∙◌}
use Rattle.c_subset.specs.Lines.{lines_in}
use Rattle.c_bare.proofs.Lines.{need-is}
use Rattle.c_bare.proofs.needs.needs.Goals as goal

pub returns : goal.returns
returns c =
    λ b e. c.lines_need.ensures
    ∙ need-is c.args.flags.now c.args.of c.args.local b (lines_in c.args.lines.now) e
