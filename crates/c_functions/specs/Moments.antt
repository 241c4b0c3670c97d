-- When the struct shows a moment of a run of code, and when a call of a procedure's function ends as code.
use Rattle.std.specs.Prelude.{◌≡◌, ◌<◌, ◌≤◌, ℕ, ◌++◌, pos, List, [], ◌∷◌, length, Option, Some, None, true}
use Rattle.flow_base.specs.declared.bounds.Bounds.{Bounds}
use Rattle.flow_base.specs.declared.fault.Fault.{Fault}
use Rattle.flow_base.specs.declared.fault.Fault.TheVariants as faults
use Rattle.actions.specs.Runs.{Moment}
use Rattle.actions.specs.Work.{Now}
use Rattle.code_language.specs.Code.{Code, fetch}
use Rattle.code_language.specs.Instrs.{Unless, Result, Ret}
use Rattle.code_language.specs.Machine.{CodeState}
use Rattle.code_language.specs.Reactions.{Leads, program_of}
use Rattle.c_subset.specs.Trees.{Function, File}
use Rattle.c_subset.specs.declared.trees.Width.{Width}
use Rattle.c_subset.specs.Meaning.{CValue, Store}
use Rattle.c_subset.specs.Running.{Returns, call}
use Rattle.c_functions.specs.Statements.{CMemory}
use Rattle.c_functions.specs.Runs.{Stands}
use Rattle.c_functions.specs.Plans.{Shape, Tests, event_number, word, bad}
use Rattle.c_functions.specs.Files.{Represents, shape_of}

-- the results of code, and those that it tests, are below the number that tells a fault
pub record HasSmallResults (k : Code) : Type 0 where
  pub returned : (p i r : ℕ) → fetch k.procedures p i ≡ Some (Ret r) → r < bad
  pub tested : (p i j r : ℕ) → fetch k.procedures p i ≡ Some (Unless j (Result r)) → r < bad

-- a run may end so: without a fault, by one that isn't of a bound, or by that of a bound that is tested
unfoldable pub MayEnd : Tests → Option Fault → Type 0
MayEnd T None = Unit {0}
MayEnd T (Some faults.Depth) = T.depth ≡ true
MayEnd T (Some faults.Steps) = T.steps ≡ true
MayEnd T (Some (faults.Overflow v)) = Unit {0}
MayEnd T (Some faults.Zero) = Unit {0}

-- a run may end in that moment: so, and where out[] has room for what was emitted
pub record MayEndIn (T : Tests) (room : ℕ) (moment : Moment) : Type 0 where
  pub fault : MayEnd T moment.fault
  pub outputs : length moment.world.outputs ≤ room

-- a file begins with these functions
pub record BeginsWith (file : File) (functions : List Function) : Type 0 where
  pub later : List Function
  pub is : file.functions ≡ functions ++ later

-- the struct shows a moment: some memory stands for its world, and the struct shows that memory and the fault
pub record ShowsMoment (K : Shape) (moment : Moment) (s : Store) : Type 0 where
  pub memory : CMemory
  pub stands : Stands K.tree K.numbers memory moment.world
  pub represents : Represents K moment.fault memory s

-- what is returned tells whether there was a fault
abbrev pub TellsFault : Option Fault → ℕ → Type 0
TellsFault None r = r < bad
TellsFault (Some x) r = r ≡ bad

-- a number as a word
abbrev pub word_of : ℕ → CValue
word_of n = record { type = word; value = pos n }

-- the arguments of a procedure's function: event, depth, base, home and last result
abbrev pub arguments_c : ℕ → ℕ → ℕ → ℕ → ℕ → List CValue
arguments_c e d b h r =
    word_of e ∷ word_of d ∷ word_of b ∷ word_of h ∷ word_of r ∷ []

-- code leads to a moment, and the call of the procedure's function returns, tells whether there was a fault, and leaves
-- a struct that shows the moment
pub record EndsAsCode (k : Code) (T : Tests) (b : Bounds) (room : ℕ) (file : File) (int : Width) (fuel p : ℕ)
    (now : Now) (start : CodeState) (s : Store) : Type 0 where
  pub moment : Moment
  pub leads : Leads (program_of k b) start moment
  pub after : Store
  pub result : ℕ
  pub gives : call file int fuel p (arguments_c (event_number k.names now.event) now.depth 0 0 0) s
      ≡ Returns after (word_of result)
  pub shows : ShowsMoment (shape_of k T b room) moment after
  pub tells : TellsFault moment.fault result
