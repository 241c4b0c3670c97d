use Rattle.std.proofs.Common.{◌≡◌, ◌<◌, ℕ, Some}
use Rattle.std.specs.Prelude.{slice_get}
use Rattle.code_language.specs.Code.{code_of}
use Rattle.code_notes.specs.Checked.{StandsFor}
use Rattle.code_notes.specs.Views.{plan_of}
use Rattle.code_notes.proofs.played.stand_for_plays.Given as goal

-- so far each new procedure stands for a `Play` of its procedure
abbrev pub invariant-loop-player : goal.invariant-loop-player
invariant-loop-player l = (q : ℕ) → q < l.player → (p : ℕ) → slice_get l.plan.played.items q ≡ Some p
    → StandsFor (plan_of l.plan) (code_of l.raw).procedures q p
