-- How high the procedures of each kind are: no higher than m, where each procedure that they call is lower than m. The
-- heights of procedures are those that h says.
use Rattle.std.specs.Prelude.{◌≡◌, ◌<◌, ◌≤◌, ℕ, List, ◌∷◌, IfSome}
use Rattle.active_config.specs.Tree.{comp_of}
use Rattle.actions.specs.Exprs.{Expr, Stmt}
use Rattle.checked_chart.specs.Chart.{Chart, Trans, is_remembered, may_return}
use Rattle.code_language.specs.Instrs.{Cond, Begin}
use Rattle.code_language.specs.Measures.{height_by}
use Rattle.chart_code.specs.ListProcedures.{Search, list_code, junction_code}
use Rattle.chart_code.specs.Numbers.{Numbers, TransNumbers}
use Rattle.chart_code.specs.StateProcedures.{end_code, block_code, guard_code, leave_code, exit_code, enter_code}
use Rattle.chart_code.specs.StateProcedures.{defaults_code, arrive_code, take_code, process_code}
use Rattle.layout_bounds.specs.Calls.{LeaveCalls, ExitCalls, EnterCalls, DefaultsCalls, ArriveCalls, TakeCalls}
use Rattle.layout_bounds.specs.Calls.{ProcessCalls, ListCalls}

-- the procedures of states; those of blocks and of guards call none
pub record StateHeights (c : Chart) (N : Numbers) (h : ℕ → ℕ) : Type 0 where
  pub end_mark : height_by h end_code ≡ 0
  pub block : (alive : Cond) (ss : List Stmt) → height_by h (block_code N alive ss) ≡ 0
  pub guard : (e : Expr) → height_by h (guard_code e) ≡ 0
  pub leave : (s m : ℕ) → LeaveCalls c.tree N (λ q. h q < m) s
      → height_by h (leave_code N c.tree s (comp_of c.tree s)) ≤ m
  pub exit : (s m : ℕ) → ExitCalls c.tree N (λ q. h q < m) s → height_by h (exit_code N s) ≤ m
  pub enter : (s d m : ℕ) → EnterCalls c.tree N (λ q. h q < m) s
      → height_by h (enter_code N c.tree s d (is_remembered c s)) ≤ m
  pub defaults : (s m : ℕ) → DefaultsCalls c.tree N (λ q. h q < m) s
      → height_by h (defaults_code N s (may_return c s)) ≤ m
  pub arrive : (s d m : ℕ) → ArriveCalls c.tree N (λ q. h q < m) s d
      → height_by h (arrive_code N c.tree s d) ≤ m
  pub take : (s d m : ℕ) → TakeCalls c.tree N (λ q. h q < m) s d → height_by h (take_code N s d) ≤ m
  pub process : (s m : ℕ) → ProcessCalls c.tree N (λ q. h q < m) s → height_by h (process_code N c.tree s) ≤ m

-- the procedures of lists
pub record ListHeights (h : ℕ → ℕ) : Type 0 where
  pub list : (S : Search) (ts : List Trans) (qs : List TransNumbers) (m : ℕ) → ListCalls S (λ q. h q < m) ts qs
      → height_by h (Begin ∷ list_code S ts qs) ≤ m
  pub junction : (S : Search) (ts : List Trans) (qs : List TransNumbers) (m : ℕ)
      → ListCalls S (λ q. h q < m) ts qs → IfSome S.end (λ q. h q < m) → height_by h (junction_code S ts qs) ≤ m
