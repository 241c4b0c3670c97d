use Rattle.std.proofs.Common.{◌≡◌, ◌<◌, ℕ, Some, slice_get}
use Rattle.code_language.specs.Code.{instrs_of}
use Rattle.code_language.specs.Instrs as forms
use Rattle.code_counts.specs.Certificate.{IsEnough}
use Rattle.code_counts.specs.Rows.{numbers_of}
use Rattle.code_counts.proofs.checking.are_enough.Given as goal

-- the numbers are enough at the places so far
abbrev pub invariant-loop-place : goal.invariant-loop-place
invariant-loop-place l = (i : ℕ) → i < l.place → (x : forms.Instr) → slice_get (instrs_of l.instrs) i ≡ Some x
    → IsEnough l.counted (numbers_of l.rows) l.react l.proc i x
