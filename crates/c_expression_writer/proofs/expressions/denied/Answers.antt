use Rattle.std.proofs.Common.{refl}
use Rattle.c_expression_writer.specs.Written.{denial_of}
use Rattle.c_expression_writer.proofs.LeafLemmas.{nothing_written}
use Rattle.c_expression_writer.proofs.expressions.denied.Goals as goal

pub returns : goal.returns
returns c K lines = nothing_written K lines (denial_of c.args.inner) _ _ refl c.in_ok-bang.ensures refl refl tt
