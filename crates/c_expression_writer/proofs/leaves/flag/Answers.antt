use Rattle.std.proofs.Common.{FitsSigned, refl, ◌∙◌, rules}
use Rattle.std.proofs.lemmas.Int.{to_z-of_z}
use Rattle.std.specs.Int.{w128}
use Rattle.c_expression_writer.proofs.LeafLemmas.{flag_written}
use Rattle.c_expression_writer.proofs.leaves.flag.Goals as goal

pub returns : goal.returns
returns c K lines =
    let fits : FitsSigned w128 c.flag_constant.result = search rules in
    flag_written K lines c.args.next c.args.flag _ _
    (to_z-of_z w128 c.flag_constant.result fits ∙ c.flag_constant.ensures) refl refl refl tt
