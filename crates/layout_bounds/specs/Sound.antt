-- The procedures of a chart are sound in code that knows the chart's states and names.
use Rattle.std.specs.Prelude.{◌<◌, ℕ, List, ◌∷◌, Some, IfSome}
use Rattle.active_config.specs.Tree.{state_count, comp_of}
use Rattle.actions.specs.Exprs.{Expr, Stmt}
use Rattle.actions.specs.World.{Life}
use Rattle.checked_chart.specs.Chart.{Chart, Trans, is_remembered, may_return}
use Rattle.checked_chart.specs.Valid.{AreStmts, HasGuard, AreTrans}
use Rattle.code_language.specs.Instrs.{Begin}
use Rattle.code_language.specs.Sound.{IsProc}
use Rattle.code_language.specs.WellFormed.{Known}
use Rattle.chart_code.specs.ListProcedures.{Search, list_code, junction_code}
use Rattle.chart_code.specs.Numbers.{Numbers, TransNumbers}
use Rattle.chart_code.specs.StateProcedures.{life_test, end_code, block_code, guard_code, leave_code, exit_code}
use Rattle.chart_code.specs.StateProcedures.{enter_code, defaults_code, arrive_code, take_code, process_code}
use Rattle.layout_bounds.specs.Calls.{LeaveCalls, ExitCalls, EnterCalls, DefaultsCalls, ArriveCalls, TakeCalls}
use Rattle.layout_bounds.specs.Calls.{ProcessCalls, ListCalls, ListNames}

-- what code of n procedures knows that has the states and the names of a chart
abbrev pub known : Chart → ℕ → Known
known c n = record { tree = c.tree; names = c.names; procs = n }

-- as procedure p of n each procedure of a state is sound, where what it calls is lower; a block also names the
-- procedures that process states
pub record SoundStates (c : Chart) (N : Numbers) (n p : ℕ) : Type 0 where
  pub end_mark : IsProc (known c n) p end_code
  pub block : (life : Life) (ss : List Stmt) → AreStmts c ss
      → ((s : ℕ) → s < state_count c.tree → N.process s < n)
      → IsProc (known c n) p (block_code N (life_test life) ss)
  pub guard : (e : Expr) → HasGuard c (Some e) → IsProc (known c n) p (guard_code e)
  pub leave : (s : ℕ) → s < state_count c.tree → LeaveCalls c.tree N (λ q. q < p) s
      → IsProc (known c n) p (leave_code N c.tree s (comp_of c.tree s))
  pub exit : (s : ℕ) → s < state_count c.tree → ExitCalls c.tree N (λ q. q < p) s
      → IsProc (known c n) p (exit_code N s)
  pub enter : (s d : ℕ) → s < state_count c.tree → EnterCalls c.tree N (λ q. q < p) s
      → IsProc (known c n) p (enter_code N c.tree s d (is_remembered c s))
  pub defaults : (s : ℕ) → s < state_count c.tree → DefaultsCalls c.tree N (λ q. q < p) s
      → IsProc (known c n) p (defaults_code N s (may_return c s))
  pub arrive : (s d : ℕ) → s < state_count c.tree → ArriveCalls c.tree N (λ q. q < p) s d
      → IsProc (known c n) p (arrive_code N c.tree s d)
  pub take : (s d : ℕ) → TakeCalls c.tree N (λ q. q < p) s d → IsProc (known c n) p (take_code N s d)
  pub process : (s : ℕ) → s < state_count c.tree → ProcessCalls c.tree N (λ q. q < p) s
      → IsProc (known c n) p (process_code N c.tree s)

-- and so is the procedure of a list, and that of a junction whose end procedure is lower, where what the transitions
-- note and visit is among the n procedures
pub record SoundLists (c : Chart) (n p : ℕ) : Type 0 where
  pub list : (S : Search) (ts : List Trans) (qs : List TransNumbers) → AreTrans c ts
      → ListCalls S (λ q. q < p) ts qs → ListNames S (λ q. q < n) ts qs
      → IsProc (known c n) p (Begin ∷ list_code S ts qs)
  pub junction : (S : Search) (ts : List Trans) (qs : List TransNumbers) → AreTrans c ts
      → ListCalls S (λ q. q < p) ts qs → ListNames S (λ q. q < n) ts qs → IfSome S.end (λ q. q < p)
      → IsProc (known c n) p (junction_code S ts qs)
