-- What well-formed code says of its instructions.
use Rattle.std.specs.Prelude.{◌≡◌, true}
use Rattle.code_language.specs.Instrs.{Cond, Instr}
use Rattle.code_language.specs.WellFormed.{Known, cond_known, cond_typed, instr_known, instr_typed, instr_keeps}
use Rattle.c_functions.specs.Plans.{Shape}

-- what instructions may name
abbrev pub known_in : Shape → Known
known_in K = record { tree = K.tree; names = K.names; procs = K.procs }

-- a condition names what is there, and its types are right
pub record IsFineTest (K : Shape) (x : Cond) : Type 0 where
  pub known : cond_known (known_in K) x ≡ true
  pub typed : cond_typed (known_in K) x ≡ true

-- an instruction names what is there, its types are right, and it keeps only what can be remembered
pub record IsFine (K : Shape) (x : Instr) : Type 0 where
  pub known : instr_known (known_in K) x ≡ true
  pub typed : instr_typed (known_in K) x ≡ true
  pub keeps : instr_keeps (known_in K) x ≡ true
