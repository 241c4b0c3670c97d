use Rattle.c_file.proofs.CodeLemmas.{same_trees, same_names_of}
use Rattle.c_file.proofs.StructLemmas.{struct_same}
use Rattle.c_file.proofs.laws.the_struct_of_the_header_is_that_of_the_source.Goals as goal

pub returns : goal.returns
returns c chart b b' k k' tags tags' origins origins' T T' limits limits' room room' s one two outputs notes has =
    struct_same k k' T T' limits limits' room room' (same_trees one two) (same_names_of one two) s
    outputs notes has
