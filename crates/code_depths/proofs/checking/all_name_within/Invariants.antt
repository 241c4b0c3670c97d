use Rattle.std.proofs.Common.{◌≡◌, ◌<◌, ℕ, Some, slice_get}
use Rattle.code_language.specs.Code.{instrs_of}
use Rattle.code_language.specs.Instrs as forms
use Rattle.code_depths.specs.Depths.{NamesWithin}
use Rattle.code_depths.proofs.checking.all_name_within.Given as goal

-- what those so far name is within the level
abbrev pub invariant-loop-instr : goal.invariant-loop-instr
invariant-loop-instr l = (i : ℕ) → i < l.instr-index → (x : forms.Instr) → slice_get (instrs_of l.instrs) i ≡ Some x
    → NamesWithin l.levels l.level x
