-- Files in which bodies stand in place of calls.
use Rattle.std.specs.Prelude.{ℕ, List}
use Rattle.c_subset.specs.declared.trees.Function as declared_function
use Rattle.c_subset.specs.Trees.{Function, File}
use Rattle.c_bare.specs.Bare.{AreFunctions}
use Rattle.c_inlined.specs.Inlined.{FileIsInlined, with_function}

module _ (file : File) where
  -- A file that is made of that one: in some functions, one after the other, calls are replaced by bodies
  pub data IsInlinedFile : File → Type 0 where
    -- in none
    AsItIs : IsInlinedFile file
    -- in one more
    Further : (p : ℕ) (f' : Function) (made : File) → IsInlinedFile made → FileIsInlined made p f'
        → IsInlinedFile (with_function made p f')

  -- these functions of the code are those of such a file
  pub record AreInlined (functions : List declared_function.Function) : Type 0 where
    pub made : File
    pub inlined : IsInlinedFile made
    pub are : AreFunctions functions made.functions
