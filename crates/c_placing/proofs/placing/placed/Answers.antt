use Rattle.std.proofs.Common.{map, ap, ◌∙◌}
use Rattle.c_placing.specs.PlacedLines.{placed_line}
use Rattle.c_placing.specs.Placing.{placed}
use Rattle.c_placing.proofs.PlacedLemmas.{placed-lines}
use Rattle.c_placing.proofs.placing.placed.Goals as goal

pub returns : goal.returns
returns c =
    λ b is. c.in_ok-tree_of.ensures (placed c.args.base b)
    (c.in_ok-lines.ensures ∙ ap (map (placed_line c.args.base)) is ∙ placed-lines c.args.base b)
