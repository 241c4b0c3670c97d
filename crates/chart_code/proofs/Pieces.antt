-- The test of a life, and small steps that several kinds of procedures share.
use Rattle.std.proofs.Common.{◌≡◌, ℕ, true, false, List, ◌∷◌, Some, ap, ◌∙◌}
use Rattle.active_config.specs.Marks.{is_on, is_bare}
use Rattle.actions.specs.World.{World, Life, On, Bare, lives}
use Rattle.actions.specs.Work.{Run, Ended, Now}
use Rattle.sos_rules.proofs.Keeps.{Finishes, ended, faulted, unfinished}
use Rattle.code_language.specs.Code.{fetch}
use Rattle.code_language.specs.Machine.{Program, Frame, CodeState, machine, next, past}
use Rattle.code_language.specs.Instrs as instrs
use Rattle.code_language.specs.Reach.{Reaches, Arrives, MeetsAim, returns, Any}
use Rattle.code_language.proofs.Joins.{meets_end, Leaves, Leaving}
use Rattle.code_language.proofs.Tests.{yes_on_home, no_on_home, yes_bare_home, no_bare_home}
use Rattle.chart_code.specs.StateProcedures.{life_test, state_of_life}

module _ {C : Program} {w : World} {now : Now} {r : ℕ} {f : Frame} {fs : List Frame} {k : ℕ} where
  -- the test of a life, where it holds
  pub yes_life : (life : Life) → f.home ≡ state_of_life life
      → fetch C.procedures f.proc f.place ≡ Some (instrs.Unless k (life_test life)) → lives C.tree life w.marks ≡ true
      → Reaches C (machine w now r (f ∷ fs)) (machine w now r (next f ∷ fs))
  yes_life (On s) q h e = yes_on_home h (ap (λ x. is_on x w.marks) q ∙ e)
  yes_life (Bare s) q h e = yes_bare_home h (ap (λ x. is_bare C.tree x w.marks) q ∙ e)

  -- and where it doesn't hold
  pub no_life : (life : Life) → f.home ≡ state_of_life life
      → fetch C.procedures f.proc f.place ≡ Some (instrs.Unless k (life_test life)) → lives C.tree life w.marks ≡ false
      → Reaches C (machine w now r (f ∷ fs)) (machine w now r (past f k ∷ fs))
  no_life (On s) q h e = no_on_home h (ap (λ x. is_on x w.marks) q ∙ e)
  no_life (Bare s) q h e = no_bare_home h (ap (λ x. is_bare C.tree x w.marks) q ∙ e)

-- any result at the end
pub done : {A : Type 0} {C : Program} {m : CodeState} {w : World} {now : Now} {fs : List Frame} {a : A} (x : ℕ)
    → Reaches C m (machine w now x fs) → MeetsAim C m (returns now fs Any) (Ended a w)
done x s = meets_end (record { number = x; good = tt }) s

-- the same after a piece of work
pub then_done : {A : Type 0} {C : Program} {m : CodeState} {w : World} {now : Now} {fs : List Frame} {a : A} (x : ℕ)
    → Reaches C m (machine w now x fs) → Arrives C m (returns now fs Any) a w
then_done x s = record { facts = record { number = x; good = tt }; reached = s }

-- what work keeps, as the calculus takes it
leaving_of : {A : Type 0} (P : World → Type 0) (r : Run A) → Finishes P r → Leaving P r
leaving_of P r (ended a w h) = h
leaving_of P r (faulted x w h) = tt
leaving_of P r unfinished = tt

-- the same, of what keeps P
pub keeping : {A : Type 0} {P : World → Type 0} {r : Run A} → Finishes P r → Leaves P r
keeping {P = P} {r = r} h = record { by = leaving_of P r h }
