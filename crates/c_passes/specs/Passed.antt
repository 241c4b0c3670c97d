-- A file of C that is made of another one by passes.
use Rattle.std.specs.Prelude.{◌≡◌, ◌≤◌, ℕ, nat_lt, Bool, false, List, map, if◌then◌else◌}
use Rattle.flow_base.specs.Lists.{items_of}
use Rattle.code_language.specs.Code.{Code}
use Rattle.c_subset.specs.declared.trees.Function as declared_function
use Rattle.c_subset.specs.Trees.{Function, File}
use Rattle.c_subset.specs.Lines.{lines_in}
use Rattle.c_trees.specs.Reading.{statements_of}
use Rattle.c_functions.specs.Writer.{plans_of}
use Rattle.c_functions.specs.Plans.{Shape, react_function}
use Rattle.c_functions.specs.Starts.{file_of}
use Rattle.c_decided.specs.Decided.{Plan}
use Rattle.c_decided.specs.Made.{FileIsMade}
use Rattle.c_decided_runs.specs.Runs.{IsBetween}
use Rattle.c_loops.specs.Loops.{looped, with_loops}
use Rattle.c_bare.specs.Needs.{is_bare}
use Rattle.c_bare.specs.Bare.{AreFunctions, AreNeedless, with_bare}
use Rattle.c_unread.specs.Unread.{with_trimmed}
use Rattle.c_pruned.specs.Pruned.{with_pruned}
use Rattle.c_inlined.specs.Inlined.{FileIsInlined, with_function}

-- ---- functions of the code

-- the function of the code as statements
abbrev pub function_of : declared_function.Function → Function
function_of f = record {
  result = f.result;
  parameters = items_of f.parameters;
  body = statements_of (lines_in (items_of f.lines));
}

-- functions of the code
abbrev pub functions_in : List declared_function.Function → List Function
functions_in fs = map function_of fs

-- ---- the file of code

-- as it is written for a struct of this shape
abbrev pub written_file : Shape → Code → File
written_file K k = file_of k K.tests K.bounds K.outputs (plans_of k)

-- ---- passes

-- one of the first so many functions is a loop where it may be
abbrev pub looped_below : ℕ → ℕ → Function → Function
looped_below n p f = if nat_lt p n then looped p f else f

module _ (K : Shape) (file : File) where
  -- A file that is made of that one by passes, one after the other. Each function keeps its number
  pub data IsPassed : File → Type 0 where
    -- none
    AsItIs : IsPassed file
    -- tests go that are decided by what is known where they stand, by a plan that fits together between events
    Decided : (P : Plan) (before made : File) → IsPassed before → FileIsMade P before made → IsBetween K P
        → IsPassed made
    -- the first so many functions, none that is called from outside, are loops where they may be
    Looped : (n : ℕ) (made : File) → IsPassed made → n ≤ K.procs → IsPassed (with_loops n made)
    -- functions with a flag, which need no parameter, have none; the reaction keeps its event
    Bared : (flags : List Bool) (made : File) → IsPassed made → AreNeedless flags made.functions
        → is_bare flags (react_function K) ≡ false → IsPassed (with_bare flags made)
    -- sets of locals that nothing reads are gone
    Trimmed : (made : File) → IsPassed made → IsPassed (with_trimmed made)
    -- parts of an `if` that nobody needs are gone
    Pruned : (made : File) → IsPassed made → IsPassed (with_pruned made)
    -- in one function bodies of other functions stand in place of calls of them
    Inlined : (p : ℕ) (f : Function) (made : File) → IsPassed made → FileIsInlined made p f
        → IsPassed (with_function made p f)

  -- these functions of the code are those of such a file
  pub record ArePassed (functions : List declared_function.Function) : Type 0 where
    pub made : File
    pub passed : IsPassed made
    pub are : AreFunctions functions made.functions
