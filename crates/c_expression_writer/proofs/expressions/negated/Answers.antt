use Rattle.std.proofs.Common.{refl}
use Rattle.c_expression_writer.specs.Written.{negative_of}
use Rattle.c_expression_writer.proofs.LeafLemmas.{nothing_written}
use Rattle.c_expression_writer.proofs.expressions.negated.Goals as goal

pub returns : goal.returns
returns c K lines =
    nothing_written K lines (negative_of c.args.inner) _ _ refl c.in_ok-negation.ensures refl
    c.sort_of_negative.ensures.sort c.sort_of_negative.ensures.narrow
