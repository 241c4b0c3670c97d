-- What holds of a file that is made of another one by passes.
use Rattle.std.specs.Prelude.{◌≡◌, ◌≤◌, ◌⊎◌, ℕ, List, [], ◌∷◌, Option, Some, length, slice_get}
use Rattle.flow_base.specs.declared.bounds.Bounds.{Bounds}
use Rattle.actions.specs.declared.expr.Value.{Value}
use Rattle.actions.specs.Runs.{EventWithInputs, Moment, AreInputValues}
use Rattle.code_language.specs.Code.{Code}
use Rattle.code_language.specs.WellFormed.{IsCode}
use Rattle.c_subset.specs.declared.trees.CType.TheVariants.{Truth}
use Rattle.c_subset.specs.declared.trees.Width.{Width}
use Rattle.c_subset.specs.Trees.{Function, File}
use Rattle.c_subset.specs.Meaning.{bits, Store}
use Rattle.c_functions.specs.Files.{shape_of}
use Rattle.c_functions.specs.Plans.{Shape, Tests, word, init_function, start_function, react_function}
use Rattle.c_functions.specs.Starts.{HasShape, AllGiven, RunsOn, Refuses, file_of}
use Rattle.c_functions.specs.Writer.{plans_of}
use Rattle.c_decided_runs.specs.Runs.{RefusesAtOnce}
use Rattle.c_passes.specs.Passed.{IsPassed}

-- a function with a number has the result that it had in the file, and its parameters or none; the reaction has its own
pub record HasHead (K : Shape) (file : File) (f : ℕ) (g : Function) : Type 0 where
  pub function : Function
  pub there : slice_get file.functions f ≡ Some function
  pub result : g.result ≡ function.result
  pub parameters : (g.parameters ≡ function.parameters) ⊎ (g.parameters ≡ [])
  pub reaction : f ≡ react_function K → g.parameters ≡ function.parameters

-- A file stands for another one: it has the same struct and as many functions, with these results and parameters; from
-- a struct of its type it runs as the other one does over events that can be given and values of inputs, and it refuses
-- what that refuses at once.
pub record StandsFor (K : Shape) (file made : File) : Type 0 where
  pub fields : made.fields ≡ file.fields
  pub rows : made.rows ≡ file.rows
  pub count : length made.functions ≡ length file.functions
  pub heads : (f : ℕ) (g : Function) → slice_get made.functions f ≡ Some g → HasHead K file f g
  pub runs : (int : Width) (s : Store) (given : List (Option Value)) (events : List EventWithInputs)
      (moments : List Moment) → HasShape K s → AreInputValues K.names 0 given → AllGiven K.names events
      → RunsOn K file int s given events moments → RunsOn K made int s given events moments
  pub refuses : (int : Width) → RefusesAtOnce K file int → RefusesAtOnce K made int

-- the functions that are called from outside have these results and parameters
pub record HasOutside (K : Shape) (file : File) : Type 0 where
  pub init : (g : Function) → slice_get file.functions (init_function K) ≡ Some g
      → (g.result ≡ Truth) × (g.parameters ≡ [])
  pub start : (g : Function) → slice_get file.functions (start_function K) ≡ Some g
      → (g.result ≡ Truth) × (g.parameters ≡ [])
  pub react : (g : Function) → slice_get file.functions (react_function K) ≡ Some g
      → (g.result ≡ Truth) × (g.parameters ≡ word ∷ [])

-- ---- what is claimed

-- each file that is made by passes of the one of code has them
abbrev pub PassedFilesHaveOutside : Type 0
PassedFilesHaveOutside = (k : Code) (T : Tests) (limits : Bounds) (room : ℕ) (made : File)
    → IsPassed (shape_of k T limits room) (file_of k T limits room (plans_of k)) made
    → HasOutside (shape_of k T limits room) made

-- each file that is made by passes of the one of well-formed code refuses what is to be refused
abbrev pub PassedFilesRefuse : Type 0
PassedFilesRefuse = (k : Code) (T : Tests) (limits : Bounds) (room : ℕ) (made : File) (int : Width) → IsCode k
    → bits int ≤ 32 → IsPassed (shape_of k T limits room) (file_of k T limits room (plans_of k)) made
    → Refuses (shape_of k T limits room) made int

-- each file that is made by passes stands for the one of which it is made
abbrev pub PassedFilesStand : Type 0
PassedFilesStand = (K : Shape) (file made : File) → IsPassed K file made → StandsFor K file made
