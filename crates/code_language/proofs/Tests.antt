-- What each condition of `Unless` does to a run, where it holds and where it doesn't.
use Rattle.std.proofs.Common.{◌≡◌, ℕ, true, false, List, ◌∷◌, Some, Ok, Err, ap}
use Rattle.std.specs.Prelude.{◌==◌}
use Rattle.flow_base.specs.declared.fault.Fault.{Fault}
use Rattle.active_config.specs.Marks.{is_on, is_bare, is_last}
use Rattle.actions.specs.Exprs.{Expr}
use Rattle.actions.specs.World.{World}
use Rattle.actions.specs.Changes.{truth_of}
use Rattle.actions.specs.Work.{Now, is_event}
use Rattle.code_language.specs.Code.{fetch}
use Rattle.code_language.specs.Machine.{Program, Frame, machine, next, past, holds}
use Rattle.code_language.specs.Instrs as instrs
use Rattle.code_language.specs.Reach.{Reaches, Falls}
use Rattle.code_language.proofs.Steps.{go_unless_true, go_unless_false, fall_unless}

-- a test where it holds, and where it doesn't
module _ {C : Program} {w : World} {now : Now} {r : ℕ} {f : Frame} {fs : List Frame} {k : ℕ} where
  -- a state is active
  pub yes_on : {x : ℕ} → fetch C.procedures f.proc f.place ≡ Some (instrs.Unless k (instrs.On x))
      → is_on x w.marks ≡ true → Reaches C (machine w now r (f ∷ fs)) (machine w now r (next f ∷ fs))
  unfolding holds
  yes_on h e = go_unless_true h (ap Ok e)

  -- a state isn't active
  pub no_on : {x : ℕ} → fetch C.procedures f.proc f.place ≡ Some (instrs.Unless k (instrs.On x))
      → is_on x w.marks ≡ false → Reaches C (machine w now r (f ∷ fs)) (machine w now r (past f k ∷ fs))
  unfolding holds
  no_on h e = go_unless_false h (ap Ok e)

  -- a state is bare
  pub yes_bare : {x : ℕ} → fetch C.procedures f.proc f.place ≡ Some (instrs.Unless k (instrs.Bare x))
      → is_bare C.tree x w.marks ≡ true → Reaches C (machine w now r (f ∷ fs)) (machine w now r (next f ∷ fs))
  unfolding holds
  yes_bare h e = go_unless_true h (ap Ok e)

  -- a state isn't bare
  pub no_bare : {x : ℕ} → fetch C.procedures f.proc f.place ≡ Some (instrs.Unless k (instrs.Bare x))
      → is_bare C.tree x w.marks ≡ false → Reaches C (machine w now r (f ∷ fs)) (machine w now r (past f k ∷ fs))
  unfolding holds
  no_bare h e = go_unless_false h (ap Ok e)

  -- the home is active
  pub yes_on_home : fetch C.procedures f.proc f.place ≡ Some (instrs.Unless k instrs.OnHome)
      → is_on f.home w.marks ≡ true → Reaches C (machine w now r (f ∷ fs)) (machine w now r (next f ∷ fs))
  unfolding holds
  yes_on_home h e = go_unless_true h (ap Ok e)

  -- the home isn't active
  pub no_on_home : fetch C.procedures f.proc f.place ≡ Some (instrs.Unless k instrs.OnHome)
      → is_on f.home w.marks ≡ false → Reaches C (machine w now r (f ∷ fs)) (machine w now r (past f k ∷ fs))
  unfolding holds
  no_on_home h e = go_unless_false h (ap Ok e)

  -- the home is bare
  pub yes_bare_home : fetch C.procedures f.proc f.place ≡ Some (instrs.Unless k instrs.BareHome)
      → is_bare C.tree f.home w.marks ≡ true → Reaches C (machine w now r (f ∷ fs)) (machine w now r (next f ∷ fs))
  unfolding holds
  yes_bare_home h e = go_unless_true h (ap Ok e)

  -- the home isn't bare
  pub no_bare_home : fetch C.procedures f.proc f.place ≡ Some (instrs.Unless k instrs.BareHome)
      → is_bare C.tree f.home w.marks ≡ false → Reaches C (machine w now r (f ∷ fs)) (machine w now r (past f k ∷ fs))
  unfolding holds
  no_bare_home h e = go_unless_false h (ap Ok e)

  -- the last result is that number
  pub yes_result : {x : ℕ} → fetch C.procedures f.proc f.place ≡ Some (instrs.Unless k (instrs.Result x))
      → (r == x) ≡ true → Reaches C (machine w now r (f ∷ fs)) (machine w now r (next f ∷ fs))
  unfolding holds
  yes_result h e = go_unless_true h (ap Ok e)

  -- the last result isn't that number
  pub no_result : {x : ℕ} → fetch C.procedures f.proc f.place ≡ Some (instrs.Unless k (instrs.Result x))
      → (r == x) ≡ false → Reaches C (machine w now r (f ∷ fs)) (machine w now r (past f k ∷ fs))
  unfolding holds
  no_result h e = go_unless_false h (ap Ok e)

  -- the event is the current one
  pub yes_current : {x : ℕ} → fetch C.procedures f.proc f.place ≡ Some (instrs.Unless k (instrs.Current x))
      → is_event x now.event ≡ true → Reaches C (machine w now r (f ∷ fs)) (machine w now r (next f ∷ fs))
  unfolding holds
  yes_current h e = go_unless_true h (ap Ok e)

  -- the event isn't the current one
  pub no_current : {x : ℕ} → fetch C.procedures f.proc f.place ≡ Some (instrs.Unless k (instrs.Current x))
      → is_event x now.event ≡ false → Reaches C (machine w now r (f ∷ fs)) (machine w now r (past f k ∷ fs))
  unfolding holds
  no_current h e = go_unless_false h (ap Ok e)

  -- the expression is true
  pub yes_test : {x : Expr} → fetch C.procedures f.proc f.place ≡ Some (instrs.Unless k (instrs.Test x))
      → truth_of x w ≡ Ok true → Reaches C (machine w now r (f ∷ fs)) (machine w now r (next f ∷ fs))
  unfolding holds
  yes_test h e = go_unless_true h (e)

  -- the expression isn't true
  pub no_test : {x : Expr} → fetch C.procedures f.proc f.place ≡ Some (instrs.Unless k (instrs.Test x))
      → truth_of x w ≡ Ok false → Reaches C (machine w now r (f ∷ fs)) (machine w now r (past f k ∷ fs))
  unfolding holds
  no_test h e = go_unless_false h (e)

  -- the expression is a fault
  pub fall_test : {x : Expr} {y : Fault} → fetch C.procedures f.proc f.place ≡ Some (instrs.Unless k (instrs.Test x))
      → truth_of x w ≡ Err y → Falls C (machine w now r (f ∷ fs)) w y
  unfolding holds
  fall_test h e = fall_unless h e

  -- the parent remembers the state
  pub yes_last : {x : ℕ} → fetch C.procedures f.proc f.place ≡ Some (instrs.Unless k (instrs.Last x))
      → is_last C.tree x w.marks ≡ true → Reaches C (machine w now r (f ∷ fs)) (machine w now r (next f ∷ fs))
  unfolding holds
  yes_last h e = go_unless_true h (ap Ok e)

  -- the parent doesn't remember the state
  pub no_last : {x : ℕ} → fetch C.procedures f.proc f.place ≡ Some (instrs.Unless k (instrs.Last x))
      → is_last C.tree x w.marks ≡ false → Reaches C (machine w now r (f ∷ fs)) (machine w now r (past f k ∷ fs))
  unfolding holds
  no_last h e = go_unless_false h (ap Ok e)
