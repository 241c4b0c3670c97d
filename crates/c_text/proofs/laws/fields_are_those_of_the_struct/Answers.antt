use Rattle.c_text.proofs.TypeLemmas.{types_of_fields, names_of_fields}
use Rattle.c_text.proofs.laws.fields_are_those_of_the_struct.Goals as goal

pub returns-clause-types : goal.returns-clause-types
returns-clause-types c = types_of_fields

pub returns-clause-names : goal.returns-clause-names
returns-clause-names c = names_of_fields
