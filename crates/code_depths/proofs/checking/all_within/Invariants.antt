use Rattle.std.proofs.Common.{◌≡◌, ◌<◌, ℕ, List, Some, slice_get}
use Rattle.code_language.specs.Code.{code_of}
use Rattle.code_language.specs.Instrs as forms
use Rattle.code_depths.specs.Depths.{NamesWithin, level_of}
use Rattle.code_depths.proofs.checking.all_within.Given as goal

-- what the procedures so far name is within their levels
abbrev pub invariant-loop-proc : goal.invariant-loop-proc
invariant-loop-proc l = (p : ℕ) → p < l.proc → (is : List forms.Instr)
    → slice_get (code_of l.code).procedures.procs p ≡ Some is
    → (i : ℕ) (x : forms.Instr) → slice_get is i ≡ Some x → NamesWithin l.levels (level_of l.levels p) x
