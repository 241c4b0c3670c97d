use Rattle.std.proofs.Common.{◌≡◌, ◌<◌, ℕ, Some}
use Rattle.std.specs.Prelude.{slice_get}
use Rattle.code_language.specs.Code.{instrs_of}
use Rattle.code_language.specs.Instrs.{Play}
use Rattle.code_notes.specs.Views.{place_in}
use Rattle.code_notes.proofs.played.are_of.Given as goal

-- so far each new procedure that stands for a `Play` is told to be of this one
abbrev pub invariant-loop-place : goal.invariant-loop-place
invariant-loop-place l = (i : ℕ) → i < l.place → (q : ℕ) → slice_get (instrs_of l.instrs) i ≡ Some Play
    → (place_in l.plan l.proc i).player ≡ Some q → slice_get l.plan.played.items q ≡ Some l.proc
