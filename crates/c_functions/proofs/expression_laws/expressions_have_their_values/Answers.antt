use Rattle.c_functions.proofs.TranslationEnds.{ends_as_value}
use Rattle.c_functions.proofs.expression_laws.expressions_have_their_values.Goals as goal

pub returns : goal.returns
returns c = ends_as_value
