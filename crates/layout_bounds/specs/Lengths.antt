-- How many instructions the procedures of each kind have.
use Rattle.std.specs.Prelude.{◌≡◌, ◌+◌, ◌*◌, ◌<◌, ◌≤◌, ℕ, List, ◌∷◌, length}
use Rattle.active_config.specs.Tree.{state_count, comp_of, children_of}
use Rattle.actions.specs.Exprs.{Expr, Stmt}
use Rattle.checked_chart.specs.Chart.{Chart, Trans, is_remembered, may_return}
use Rattle.code_language.specs.Instrs.{Cond, Begin}
use Rattle.chart_code.specs.ListProcedures.{Search, list_code, junction_code}
use Rattle.chart_code.specs.Numbers.{Numbers, TransNumbers}
use Rattle.chart_code.specs.StateProcedures.{end_code, block_code, guard_code, leave_code, exit_code, enter_code}
use Rattle.chart_code.specs.StateProcedures.{defaults_code, arrive_code, take_code, process_code}

-- the procedures of states, by the number of statements or of children
pub record StateLengths (c : Chart) (N : Numbers) : Type 0 where
  pub end_mark : length end_code ≡ 1
  pub block : (alive : Cond) (ss : List Stmt) → length (block_code N alive ss) ≤ 4 * length ss + 1
  pub guard : (e : Expr) → length (guard_code e) ≡ 3
  pub leave : (s : ℕ)
      → length (leave_code N c.tree s (comp_of c.tree s)) ≤ 3 * length (children_of c.tree s) + 1
  pub exit : (s : ℕ) → length (exit_code N s) ≡ 11
  pub enter : (s d : ℕ) → s < state_count c.tree
      → length (enter_code N c.tree s d (is_remembered c s)) ≤ length (children_of c.tree s) + 13
  pub defaults : (s : ℕ)
      → length (defaults_code N s (may_return c s)) ≤ 3 * length (children_of c.tree s) + 3
  pub arrive : (s d : ℕ) → length (arrive_code N c.tree s d) ≤ 7
  pub take : (s d : ℕ) → length (take_code N s d) ≡ 3
  pub process : (s : ℕ) → length (process_code N c.tree s) ≤ 5 * length (children_of c.tree s) + 14

-- the procedures of lists, by the number of transitions
pub record ListLengths : Type 0 where
  pub list : (S : Search) (ts : List Trans) (qs : List TransNumbers)
      → length (Begin ∷ list_code S ts qs) ≤ 9 * length ts + 2
  pub junction : (S : Search) (ts : List Trans) (qs : List TransNumbers)
      → length (junction_code S ts qs) ≤ 9 * length ts + 3
