use Rattle.std.proofs.Common.{◌<◌, ℕ}
use Rattle.code_language.specs.Code.{code_of, instructions}
use Rattle.code_notes.specs.Checked.{AreOf}
use Rattle.code_notes.specs.Views.{plan_of}
use Rattle.code_notes.proofs.played.are_all_of.Given as goal

-- so far each new procedure that stands for a `Play` is told to be of its procedure
abbrev pub invariant-loop-proc : goal.invariant-loop-proc
invariant-loop-proc l = (p : ℕ) → p < l.proc
    → AreOf (plan_of l.plan) l.plan.played.items p (instructions (code_of l.raw).procedures p)
