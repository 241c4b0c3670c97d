-- What a call of a function is compared with: procedures over a tree, and plans that are written for them.
use Rattle.std.specs.Prelude.{◌≡◌, ℕ, length}
use Rattle.flow_base.specs.declared.bounds.Bounds.{Bounds}
use Rattle.active_config.specs.Tree.{Tree, state_count}
use Rattle.code_language.specs.Code.{Procedures}
use Rattle.code_language.specs.Machine.{Program}
use Rattle.c_functions.specs.States.{Numbers}
use Rattle.c_functions.specs.Statements.{Block}
use Rattle.c_functions.specs.Meaning.{Sums, CProgram}
use Rattle.c_functions.specs.Written.{AreWritten}
use Rattle.c_functions.specs.Runs.{Agree}

-- numbers of states, bounds, sums and plans: the numbers tell children apart, each state is composed, the sums are those
-- of code, and the plans are written for the procedures
pub record Planned (t : Tree) (k : Procedures) : Type 0 where
  pub numbers : ℕ → ℕ
  pub bounds : Bounds
  pub sums : Sums
  pub bodies : ℕ → Block
  pub apart : Numbers t numbers
  pub composed : length t.comps ≡ state_count t
  pub agree : Agree t numbers sums
  pub written : AreWritten t numbers k bodies

-- the code
abbrev pub code_in : {t : Tree} {k : Procedures} → Planned t k → Program
code_in {t = t} {k = k} P = record { tree = t; bounds = P.bounds; procedures = k }

-- the C program
abbrev pub program_in : {t : Tree} {k : Procedures} → Planned t k → CProgram
program_in {t = t} P =
    record { sums = P.sums; tree = t; numbers = P.numbers; bounds = P.bounds; bodies = P.bodies }
