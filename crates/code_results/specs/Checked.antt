-- What is checked of a plan of results procedure by procedure.
use Rattle.std.specs.Prelude.{◌≡◌, ℕ, List, true, Some, slice_get}
use Rattle.code_language.specs.Code.{Procedures}
use Rattle.code_language.specs.Instrs.{Instr}
use Rattle.code_results.specs.Results.{may_be}
use Rattle.code_results.specs.Folded.{ResultPlan, IsRight}

-- each of the instructions of procedure p is right, whatever the last result is
abbrev pub AreRight : ResultPlan → Procedures → ℕ → List Instr → Type 0
AreRight P k p is = (i : ℕ) (x : Instr) → slice_get is i ≡ Some x → (r : ℕ)
    → may_be (P.place p i).results r ≡ true → IsRight P k p i r x
