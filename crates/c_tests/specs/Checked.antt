-- What the check of tests finds of a procedure.
use Rattle.std.specs.Prelude.{◌≡◌, ℕ, List, Some, true, false, slice_get}
use Rattle.code_language.specs.Code.{Code}
use Rattle.code_language.specs.Instrs.{Instr}
use Rattle.c_functions.specs.Failing.{can_fail}
use Rattle.c_functions.specs.Plans.{Tests}

-- none of the instructions can fail
abbrev pub NoneCanFail : Tests → Code → List Instr → Type 0
NoneCanFail T k is =
    (j : ℕ) (x : Instr) → slice_get is j ≡ Some x → can_fail T k.names k.procedures.react x ≡ false

-- the result of procedure p is tested where one of its instructions can fail
abbrev pub IsProcedureRight : Tests → Code → ℕ → List Instr → Type 0
IsProcedureRight T k p is =
    (j : ℕ) (x : Instr) → slice_get is j ≡ Some x → can_fail T k.names k.procedures.react x ≡ true → T.after p ≡ true
