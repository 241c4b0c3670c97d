-- The procedures of blocks and of guards are sound.
use Rattle.std.proofs.Common.{ℕ, ◌<◌, List, [], ◌∷◌, Some, refl, ap, arith}
use Rattle.std.specs.Prelude.{◌&&◌}
use Rattle.std.proofs.lemmas.Bool.{lt-ltb, and_from}
use Rattle.active_config.specs.Tree.{state_count}
use Rattle.actions.specs.declared.names.EventKind.TheVariants as events
use Rattle.actions.specs.Exprs.{Expr, Stmt, Assign, Send, SendTo, Emit}
use Rattle.actions.specs.World.{Life}
use Rattle.checked_chart.specs.Chart.{Chart}
use Rattle.checked_chart.specs.Valid.{IsValid, CanAssign, IsEventOf, AreStmts, HasGuard}
use Rattle.code_language.specs.Instrs.{Instr}
use Rattle.code_language.specs.Instrs as instrs
use Rattle.code_language.specs.Sound.{IsProc}
use Rattle.code_language.specs.WellFormed.{Known, instr_known, skips_within, calls_lower, instr_typed, instr_keeps}
use Rattle.code_language.specs.WellFormed.{is_event, is_state, is_proc, is_output, is_local}
use Rattle.chart_code.specs.Numbers.{Numbers}
use Rattle.chart_code.specs.StateProcedures.{life_test, block_code, guard_code}
use Rattle.layout_bounds.specs.Sound.{known}
use Rattle.layout_bounds.proofs.Instructions.{in_front, ret_alone, ret, unless}
use Rattle.layout_bounds.proofs.Expressions.{guard_is, assign_known, assign_typed, event_known, event_typed}
use Rattle.layout_bounds.proofs.Conditions.{life_is, require_is}

module _ (c : Chart) (valid : IsValid c) (N : Numbers) (n p : ℕ) where
  -- what the code knows
  abbrev K : Known
  K = known c n

  -- an assignment
  assign : {rest : List Instr} (v : ℕ) (e : Expr) → CanAssign c.names v e → IsProc K p rest
      → IsProc K p (instrs.Assign v e ∷ rest)
  unfolding skips_within calls_lower instr_keeps
  assign v e is h =
      in_front (instrs.Assign v e) (record {
        known = assign_known c n valid.state_names v e is;
        within = refl;
        lower = refl;
        typed = assign_typed c n valid.state_names v e is;
        keeps = refl;
      }) h

  -- an output event
  emit : {rest : List Instr} (e : ℕ) → IsEventOf c.names e events.Output → IsProc K p rest
      → IsProc K p (instrs.Emit e ∷ rest)
  unfolding instr_known skips_within calls_lower instr_typed instr_keeps
  emit e is h =
      in_front (instrs.Emit e) (record {
        known = event_known c n valid.state_names e is.decl is.declared;
        within = refl;
        lower = refl;
        typed = event_typed c n valid.state_names is_output e is.decl is.declared (ap is_output is.kind_is);
        keeps = refl;
      }) h

  -- an event to the whole chart
  send : {rest : List Instr} (e : ℕ) → IsEventOf c.names e events.Local → IsProc K p rest
      → IsProc K p (instrs.Send e ∷ rest)
  unfolding instr_known skips_within calls_lower instr_typed instr_keeps
  send e is h =
      in_front (instrs.Send e) (record {
        known = event_known c n valid.state_names e is.decl is.declared;
        within = refl;
        lower = refl;
        typed = event_typed c n valid.state_names is_local e is.decl is.declared (ap is_local is.kind_is);
        keeps = refl;
      }) h

  -- an event to a state
  send_to : {rest : List Instr} (e s q : ℕ) → IsEventOf c.names e events.Local → s < state_count c.tree → q < n
      → IsProc K p rest → IsProc K p (instrs.SendTo e s q ∷ rest)
  unfolding instr_known skips_within calls_lower instr_typed instr_keeps
  send_to e s q is lt named h =
      in_front (instrs.SendTo e s q) (record {
        known = and_from (is_event K e) (is_state K s && is_proc K q)
            (event_known c n valid.state_names e is.decl is.declared)
            (and_from (is_state K s) (is_proc K q) (lt-ltb s (state_count c.tree) lt) (lt-ltb q n named));
        within = refl;
        lower = refl;
        typed = event_typed c n valid.state_names is_local e is.decl is.declared (ap is_local is.kind_is);
        keeps = refl;
      }) h

  -- a block
  pub block_is : (life : Life) (ss : List Stmt) → AreStmts c ss
      → ((s : ℕ) → s < state_count c.tree → N.process s < n) → IsProc K p (block_code N (life_test life) ss)
  block_is life [] are named = ret_alone K p 1
  block_is life (Assign v e ∷ rest) are named = assign v e are.0 (block_is life rest are.1 named)
  block_is life (Emit e ∷ rest) are named = emit e are.0 (block_is life rest are.1 named)
  block_is life (Send e ∷ rest) are named =
      send e are.0 (require_is (life_test life) (life_is K life) (block_is life rest are.1 named))
  block_is life (SendTo e s ∷ rest) are named =
      send_to e s (N.process s) are.0.0 are.0.1 (named s are.0.1)
      (require_is (life_test life) (life_is K life) (block_is life rest are.1 named))

  -- a guard
  pub guard_code_is : (e : Expr) → HasGuard c (Some e) → IsProc K p (guard_code e)
  guard_code_is e is =
      unless 1 (instrs.Test e) (guard_is c n valid.state_names e is) (omega arith) (ret 1 (ret_alone K p 0))
