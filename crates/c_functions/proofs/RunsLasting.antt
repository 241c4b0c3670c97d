-- A call of well-formed code ends, where it has more fuel than the run of the code takes steps.
use Rattle.std.proofs.Common.{◌≡◌, ℕ, zero, suc, ◌≤◌, refl, ap, ◌∙◌, subst, arith}
use Rattle.flow_base.specs.declared.bounds.Bounds.{Bounds}
use Rattle.code_language.specs.Code.{Code}
use Rattle.code_language.specs.Machine.{Program, CodeState, Next, Going, and_then, run}
use Rattle.code_language.specs.Reactions.{program_of}
use Rattle.code_language.specs.WellFormed.{IsCode}
use Rattle.code_language.specs.Ahead.{IsOver}
use Rattle.code_language.specs.Moments.{IsMoment}
use Rattle.code_language.specs.Reach.{ReachesIn}
use Rattle.c_functions.specs.Statements.{Out, Fell, Left, Failed, Starved, Wrong}
use Rattle.c_functions.specs.Runs.{GoesFor, EndsWith, EndsAsCode}
use Rattle.c_functions.proofs.RunsStays.{never_stuck}

-- a run of no more steps than were made goes on
still_going : (C : Program) (least steps : ℕ) (m m' : CodeState) → least ≤ steps → ReachesIn C steps m m'
    → run C least m ≡ Going
still_going C zero steps m m' le way = refl
still_going C (suc least) zero m m' le way = absurd (omega (arith, le))
still_going C (suc least) (suc steps) m m' le way =
    ap (λ (x : Next). and_then x (run C least)) way.1
    ∙ still_going C least steps way.0 m' (omega (arith, le)) way.2

-- a run that is over by then doesn't go on so long
not_for : (C : Program) (least : ℕ) (m : CodeState) → IsOver (run C least m) → GoesFor C least m → ⊥
not_for C least m over goes = subst IsOver (still_going C least goes.steps m goes.last goes.enough goes.by) over

-- so a call from outside ends as code
pub ends_as_code : (k : Code) (n : ℕ → ℕ) (b : Bounds) (least : ℕ) (start : CodeState) (o : Out) → IsCode k
    → IsMoment k b start
    → IsOver (run (program_of k b) least start) → EndsWith (program_of k b) n least start o → EndsAsCode
    (program_of k b) n start o
ends_as_code k n b least start (Fell m l) is moment over h = h
ends_as_code k n b least start (Left m r) is moment over h = h
ends_as_code k n b least start (Failed m x) is moment over h = h
ends_as_code k n b least start Starved is moment over h = not_for (program_of k b) least start over h
ends_as_code k n b least start Wrong is moment over h = never_stuck k b start is moment h
