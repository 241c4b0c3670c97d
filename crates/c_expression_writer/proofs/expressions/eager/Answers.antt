use Rattle.std.proofs.Common.{refl, ap, ◌∙◌}
use Rattle.c_functions.specs.Translation.{eager_flat, sort_in}
use Rattle.c_expression_writer.specs.Written.{seen}
use Rattle.c_expression_writer.proofs.LeafLemmas.{nothing_twice}
use Rattle.c_expression_writer.proofs.expressions.eager.Goals as goal

pub returns : goal.returns
returns c K lines =
    nothing_twice K lines
    (eager_flat c.args.op c.args.left.sort c.args.right.sort (seen c.args.left) (seen c.args.right)) _ _ refl
    c.in_ok-operator.ensures refl (c.sort_in-sort.ensures.sort ∙ ap sort_in c.binary_sort.ensures.sort)
    c.sort_in-sort.ensures.narrow
