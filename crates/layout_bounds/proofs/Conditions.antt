-- The conditions that the procedures of a chart test, and the pieces of code that test them.
use Rattle.std.proofs.Common.{◌≡◌, ℕ, ◌<◌, true, List, refl, arith}
use Rattle.std.proofs.lemmas.Bool.{lt-ltb}
use Rattle.active_config.specs.Tree.{state_count}
use Rattle.actions.specs.World.{Life, On, Bare}
use Rattle.code_language.specs.Instrs.{Cond, Instr}
use Rattle.code_language.specs.Instrs as instrs
use Rattle.code_language.specs.Sound.{IsProc}
use Rattle.code_language.specs.WellFormed.{Known, cond_known, cond_typed, cond_keeps, can_be_kept}
use Rattle.chart_code.specs.StateProcedures.{require, refuse, unless_found, life_test}
use Rattle.layout_bounds.proofs.Instructions.{IsCond, some, ret, pass, unless, skip}

module _ (K : Known) where
  -- whether the home is active
  pub on_home_is : IsCond K instrs.OnHome
  unfolding cond_known cond_typed cond_keeps
  on_home_is = record { known = refl; typed = refl; keeps = refl }

  -- whether the home is bare
  pub bare_home_is : IsCond K instrs.BareHome
  unfolding cond_known cond_typed cond_keeps
  bare_home_is = record { known = refl; typed = refl; keeps = refl }

  -- whether a life holds
  pub life_is : (life : Life) → IsCond K (life_test life)
  life_is (On s) = on_home_is
  life_is (Bare s) = bare_home_is

  -- what the last result is
  pub result_is : (r : ℕ) → IsCond K (instrs.Result r)
  unfolding cond_known cond_typed cond_keeps
  result_is r = record { known = refl; typed = refl; keeps = refl }

  -- whether a state is active
  pub on_is : (s : ℕ) → s < state_count K.tree → IsCond K (instrs.On s)
  unfolding cond_known cond_typed cond_keeps
  on_is s lt = record { known = lt-ltb s (state_count K.tree) lt; typed = refl; keeps = refl }

  -- whether a state is bare
  pub bare_is : (s : ℕ) → s < state_count K.tree → IsCond K (instrs.Bare s)
  unfolding cond_known cond_typed cond_keeps
  bare_is s lt = record { known = lt-ltb s (state_count K.tree) lt; typed = refl; keeps = refl }

  -- whether a state is remembered, which its parent is able to
  pub last_is : (s : ℕ) → s < state_count K.tree → can_be_kept K.tree s ≡ true → IsCond K (instrs.Last s)
  unfolding cond_known cond_typed cond_keeps
  last_is s lt can = record { known = lt-ltb s (state_count K.tree) lt; typed = refl; keeps = can }

module _ {K : Known} {p : ℕ} {rest : List Instr} where
  -- what goes on where a condition holds
  pub require_is : (c : Cond) → IsCond K c → IsProc K p rest → IsProc K p (require c rest)
  require_is c is h = unless 1 c is (omega arith) (skip 1 (omega (arith, some h)) (ret 1 h))

  -- what goes on where it doesn't hold
  pub refuse_is : (c : Cond) → IsCond K c → IsProc K p rest → IsProc K p (refuse c rest)
  refuse_is c is h = unless 1 c is (omega (arith, some h)) (ret 1 h)

  -- what goes on where a search found nothing
  pub unless_found_is : IsProc K p rest → IsProc K p (unless_found rest)
  unless_found_is h =
      unless 1 (instrs.Result 2) (result_is K 2) (omega arith) (skip 1 (omega (arith, some h)) (pass h))
