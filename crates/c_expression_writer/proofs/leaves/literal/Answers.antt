use Rattle.std.proofs.Common.{FitsSigned, refl, ap, ◌∙◌, rules}
use Rattle.std.proofs.lemmas.Int.{to_z-of_z}
use Rattle.std.specs.Int.{w128}
use Rattle.c_functions.specs.Translation.{sort_in}
use Rattle.c_expression_writer.proofs.LeafLemmas.{literal_written}
use Rattle.c_expression_writer.proofs.leaves.literal.Goals as goal

pub returns : goal.returns
returns c K lines =
    let fits : FitsSigned w128 c.args.number.mantissa = search rules in
    literal_written K lines c.args.next c.args.number c.sort_in-sort.result c.literal_width.result _ _ c.requires
    (c.sort_in-sort.ensures.sort ∙ ap sort_in c.literal_sort.ensures.sort) c.literal_width.ensures
    (to_z-of_z w128 c.args.number.mantissa fits) refl refl refl c.sort_in-sort.ensures.narrow
