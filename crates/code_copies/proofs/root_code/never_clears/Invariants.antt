use Rattle.std.proofs.Common.{◌≡◌, ◌<◌, ℕ, Some}
use Rattle.std.specs.Prelude.{slice_get}
use Rattle.flow_base.specs.Lists.{items_of}
use Rattle.flow_base.specs.declared.list.List as Items
use Rattle.code_language.specs.declared.instr.Instr.{Instr}
use Rattle.code_copies.proofs.RootChecks.{NoneClears}
use Rattle.code_copies.proofs.root_code.never_clears.Given as goal

-- no procedure so far makes the root inactive
abbrev pub invariant-loop-instrs : goal.invariant-loop-instrs
invariant-loop-instrs l = (p : ℕ) → p < l.instrs-index → (own : Items.List Instr)
    → slice_get (items_of l.code.procs) p ≡ Some own → NoneClears (items_of own)
