-- The fields of the struct.
use Rattle.std.specs.Prelude.{List, map}
use Rattle.c_subset.specs.declared.trees.CType.{CType}
use Rattle.c_subset.specs.Meaning.{CValue}
use Rattle.c_functions.specs.Plans.{Shape}
use Rattle.c_functions.specs.Starts.{first_values}

-- the types of fields, which are those of their first values
abbrev pub struct_types : Shape → List CType
struct_types K = map (λ (x : CValue). x.type) (first_values K)
