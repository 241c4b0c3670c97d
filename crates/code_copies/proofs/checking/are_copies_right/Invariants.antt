use Rattle.std.proofs.Common.{◌≡◌, ◌<◌, ℕ, Some}
use Rattle.std.specs.Prelude.{slice_get}
use Rattle.code_language.specs.Code.{code_of}
use Rattle.code_copies.specs.Views.{copy_of, plan_of}
use Rattle.code_copies.specs.Made.{CopyIsRight}
use Rattle.code_copies.specs.declared.plan.ProcedureCopy.{ProcedureCopy}
use Rattle.code_copies.proofs.checking.are_copies_right.Given as goal

-- the copies so far are right
abbrev pub invariant-loop-copy : goal.invariant-loop-copy
invariant-loop-copy l = (i : ℕ) → i < l.copy-index → (c : ProcedureCopy)
    → slice_get l.plan.copies.items i ≡ Some c → CopyIsRight (plan_of l.plan) (code_of l.code) (copy_of l.plan.sets.items c)
