-- Which function of a file has a number.
use Rattle.std.specs.Prelude.{◌≡◌, ℕ, List, [], ◌∷◌, Some, slice_get}
use Rattle.code_language.specs.Code.{Code}
use Rattle.c_subset.specs.Helpers.{floor_function}
use Rattle.c_subset.specs.Lines.{IsFunction}
use Rattle.c_subset.specs.Trees.{Function, File}
use Rattle.c_subset.specs.declared.trees.Function as declared_function
use Rattle.c_subset.specs.declared.trees.Width.TheVariants.{W8, W16, W32, W64, W128}
use Rattle.c_functions.specs.Files.{shape_of, home_function, noted_c}
use Rattle.c_functions.specs.Layout.{on_c, bare_c}
use Rattle.c_functions.specs.Plans.{Shape, layout}
use Rattle.c_functions.specs.Starts.{init_c, start_c, react_c}

-- the shape is that of the code, with its own tests, bounds and room for outputs
abbrev pub IsShapeOf : Shape → Code → Type 0
IsShapeOf K k = K ≡ shape_of k K.tests K.bounds K.outputs

-- the functions after those of the procedures
abbrev pub later_functions : Shape → ℕ → ℕ → List Function
later_functions K start react =
    home_function K (on_c K.tree (layout K) K.numbers) ∷ home_function K (bare_c K.tree (layout K) K.numbers)
    ∷ noted_c K ∷ floor_function W8 ∷ floor_function W16 ∷ floor_function W32 ∷ floor_function W64
    ∷ floor_function W128 ∷ init_c K ∷ start_c K start ∷ react_c K react ∷ []

-- the function of the code is that with a number among these
pub record IsAt (gs : List Function) (n : ℕ) (f : declared_function.Function) : Type 0 where
  pub function : Function
  pub there : slice_get gs n ≡ Some function
  pub is : IsFunction f function

-- the function of the code is that with a number in the file
abbrev pub HasFunction : File → ℕ → declared_function.Function → Type 0
HasFunction file n f = IsAt file.functions n f
