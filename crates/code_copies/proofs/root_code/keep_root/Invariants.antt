use Rattle.std.proofs.Common.{◌≡◌, ◌<◌, ℕ, Some}
use Rattle.std.specs.Prelude.{slice_get}
use Rattle.code_language.specs.Code.{instr_of}
use Rattle.code_language.specs.Instrs.{Clear}
use Rattle.code_language.specs.declared.instr.Instr.{Instr}
use Rattle.code_copies.proofs.root_code.keep_root.Given as goal

-- no instruction so far makes the root inactive
abbrev pub invariant-loop-instr : goal.invariant-loop-instr
invariant-loop-instr l = (i : ℕ) → i < l.instr-index → (x : Instr) → slice_get l.instrs i ≡ Some x
    → instr_of x ≡ Clear 0 → ⊥
