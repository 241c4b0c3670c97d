use Rattle.std.proofs.Common.{◌<◌, ℕ}
use Rattle.code_language.specs.Code.{code_of, instructions}
use Rattle.code_notes.specs.Checked.{AreRight}
use Rattle.code_notes.specs.Views.{plan_of}
use Rattle.code_notes.proofs.checking.is_right.Given as goal

-- so far each procedure is right
abbrev pub invariant-loop-proc : goal.invariant-loop-proc
invariant-loop-proc l = (p : ℕ) → p < l.proc
    → AreRight (plan_of l.plan) p (instructions (code_of l.raw).procedures p)
