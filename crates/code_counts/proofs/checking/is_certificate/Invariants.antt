use Rattle.std.proofs.Common.{◌≡◌, ◌<◌, ℕ, List, Some, slice_get}
use Rattle.code_language.specs.Code.{code_of}
use Rattle.code_language.specs.Instrs as forms
use Rattle.code_counts.specs.Rows.{numbers_of}
use Rattle.code_counts.proofs.Each.{AreEnough}
use Rattle.code_counts.proofs.checking.is_certificate.Given as goal

-- the numbers are enough in the procedures so far
abbrev pub invariant-loop-proc : goal.invariant-loop-proc
invariant-loop-proc l = (p : ℕ) → p < l.proc → (is : List forms.Instr)
    → slice_get (code_of l.code).procedures.procs p ≡ Some is
    → AreEnough l.counted (numbers_of l.rows) (code_of l.code).procedures.react p is
