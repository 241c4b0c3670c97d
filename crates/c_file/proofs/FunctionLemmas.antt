-- The functions of a file.
use Rattle.std.proofs.Common.{◌≡◌, ◌+◌, ◌<◌, ℕ, suc, List, [], ◌∷◌, length, Some, slice_get, slice_index_or, refl, sym}
use Rattle.std.proofs.Common.{ap, ◌∙◌, arith}
use Rattle.std.proofs.lemmas.Option.{slice_get-get_or}
use Rattle.code_language.specs.Code.{code_of}
use Rattle.c_subset.specs.Trees.{Function, End}
use Rattle.c_subset.specs.Lines.{IsFunction}
use Rattle.c_subset.specs.declared.trees.Function as declared
use Rattle.c_subset.specs.declared.trees.CType.TheVariants.{Truth}
use Rattle.c_functions.specs.declared.function_offsets.TheConstants.{OTHER_FUNCTIONS}
use Rattle.c_shape.specs.FileShapes.{shape_seen}
use Rattle.c_passes.specs.Passed.{functions_in, written_file}
use Rattle.c_passes.proofs.FunctionLemmas.{function_is, passed_count}
use Rattle.c_passes.proofs.StandLemmas.{stands}
use Rattle.c_file.specs.declared.made.Made.{Made}
use Rattle.c_file.specs.Made.{IsMade, functions_of}

-- what stands where there is no function
pub no_function : Function
no_function = record { result = Truth; parameters = []; body = End }

-- eleven functions come after those of procedures
pub functions_count : (made : Made) → IsMade made → made.shape.procs + OTHER_FUNCTIONS ≡ length (functions_of made)
unfolding functions_of
functions_count made is =
    passed_count (shape_seen made.shape) (code_of made.code.now) is.shape made.functions.items is.passed.made
    is.passed.are
    (stands (shape_seen made.shape) (written_file (shape_seen made.shape) (code_of made.code.now)) is.passed.made
    is.passed.passed).count

-- as many
pub functions_made : (made : Made) → IsMade made → length made.functions.items ≡ length (functions_of made)
unfolding functions_of
functions_made made is = sized made.functions.items
  where
    sized : (fs : List declared.Function) → length fs ≡ length (functions_in fs)
    sized [] = refl
    sized (f ∷ fs) = ap suc (sized fs)

-- there is a function of the code for each
pub function_made : (made : Made) → IsMade made → (i : ℕ) (f d : declared.Function) → i < length (functions_of made)
    → f ≡ slice_index_or made.functions.items i d → (g : Function) → slice_get (functions_of made) i ≡ Some g
    → IsFunction f g
unfolding functions_of
function_made made is i f d within f_is g at =
    function_is made.functions.items is.passed.made.functions is.passed.are i f
    (slice_get-get_or made.functions.items i d (omega (arith, within, functions_made made is))
    ∙ ap (λ (x : declared.Function). Some x) (sym f_is)) g at
