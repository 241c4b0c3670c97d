-- How much work the procedures of each kind are, by the work of those that they call. The works of procedures are those
-- that w says; a share is what the procedure of a child is counted with, its own instructions among it.
use Rattle.std.specs.Prelude.{◌≡◌, ◌+◌, ◌*◌, ◌≤◌, ℕ, List, [], ◌∷◌, length, Option, None, Some, IfSome}
use Rattle.std.specs.List.{sum_by}
use Rattle.active_config.specs.Tree.{parent_of, comp_of, children_of}
use Rattle.actions.specs.Exprs.{Expr, Stmt}
use Rattle.checked_chart.specs.declared.parts.ListKind.TheVariants.{Outer, Inner}
use Rattle.checked_chart.specs.Chart.{Chart, Trans, is_remembered, may_return}
use Rattle.code_language.specs.Instrs.{Cond, Begin}
use Rattle.code_language.specs.Measures.{work_by}
use Rattle.chart_code.specs.Kinds.{IsPath}
use Rattle.chart_code.specs.ListProcedures.{Search, list_code, junction_code}
use Rattle.chart_code.specs.Numbers.{Numbers, TransNumbers, condition_of, first_of_parts, other_parts}
use Rattle.chart_code.specs.StateProcedures.{end_code, block_code, guard_code, leave_code, exit_code, enter_code}
use Rattle.chart_code.specs.StateProcedures.{defaults_code, arrive_code, take_code, process_code}
use Rattle.layout_bounds.specs.Calls.{DefaultsCalls, ArriveCalls, EachTrans, FiringCalls}

-- ---- states

-- each child's procedure of entering, on whatever path, has its share with one instruction of its own
abbrev pub EnterShares : Chart → Numbers → (ℕ → ℕ) → (ℕ → ℕ) → ℕ → Type 0
EnterShares c N w share s =
    (x d : ℕ) → parent_of c.tree x ≡ Some s → IsPath c.tree x d → w (N.enter x d) + 1 ≤ share x

-- each child's procedure of a kind has its share with so many instructions of its own
abbrev pub ChildShares : Chart → (ℕ → ℕ) → (ℕ → ℕ) → (ℕ → ℕ) → ℕ → ℕ → Type 0
ChildShares c w number share own s = (x : ℕ) → parent_of c.tree x ≡ Some s → w (number x) + own ≤ share x

-- the procedures of states
pub record StateWorks (c : Chart) (N : Numbers) (w : ℕ → ℕ) : Type 0 where
  pub end_mark : work_by w end_code ≡ 1
  pub block : (alive : Cond) (ss : List Stmt) → work_by w (block_code N alive ss) ≤ 3 * length ss + 1
  pub guard : (e : Expr) → work_by w (guard_code e) ≡ 2
  pub leave : (s : ℕ) (share : ℕ → ℕ) → ChildShares c w N.exit share 3 s
      → work_by w (leave_code N c.tree s (comp_of c.tree s)) ≤ sum_by share (children_of c.tree s) + 1
  pub exit : (s : ℕ) → work_by w (exit_code N s) ≤ w (N.leave s) + w (N.exit_action s) + 9
  pub enter : (s d m : ℕ) (share : ℕ → ℕ) → w (N.defaults s) ≤ m → EnterShares c N w share s
      → sum_by share (children_of c.tree s) ≤ m
      → work_by w (enter_code N c.tree s d (is_remembered c s)) ≤ w (N.entry s) + m + 11
  pub defaults : (s m : ℕ) → DefaultsCalls c.tree N (λ q. w q ≤ m) s
      → work_by w (defaults_code N s (may_return c s)) ≤ length (children_of c.tree s) + m + 3
  pub arrive : (s d m : ℕ) → ArriveCalls c.tree N (λ q. w q ≤ m) s d → work_by w (arrive_code N c.tree s d) ≤ m + 6
  pub take : (s d : ℕ) → work_by w (take_code N s d) ≤ w (N.leave s) + w (N.arrive s d) + 3
  pub process : (s : ℕ) (share : ℕ → ℕ) → ChildShares c w N.process share 4 s
      → work_by w (process_code N c.tree s)
      ≤ w (N.search s Outer) + w (N.during s) + w (N.search s Inner) + sum_by share (children_of c.tree s) + 11

-- ---- lists

-- the work of a procedure, and none where there is none
abbrev pub work_if : (ℕ → ℕ) → Option ℕ → ℕ
work_if w None = 0
work_if w (Some q) = w q

-- the works of the guards and of the condition actions of a list
unfoldable pub tests_work : Search → (ℕ → ℕ) → List Trans → List TransNumbers → ℕ
tests_work S w [] qs = 0
tests_work S w (t ∷ ts) qs =
    work_if w (first_of_parts qs).guard + work_if w (condition_of S.kind (first_of_parts qs))
    + tests_work S w ts (other_parts qs)

-- no firing of a list has more work than m
abbrev pub FiringsWithin : Search → (ℕ → ℕ) → ℕ → List Trans → List TransNumbers → Type 0
FiringsWithin S w m ts qs = EachTrans (λ t q. FiringCalls S (λ p. w p ≤ m) t.dest) ts qs

-- the procedures of lists: eight instructions for each transition and a few more, all guards and condition actions, and
-- one firing or end
pub record ListWorks (w : ℕ → ℕ) : Type 0 where
  pub list : (S : Search) (ts : List Trans) (qs : List TransNumbers) (m : ℕ) → FiringsWithin S w m ts qs
      → work_by w (Begin ∷ list_code S ts qs) ≤ 8 * length ts + tests_work S w ts qs + m + 2
  pub junction : (S : Search) (ts : List Trans) (qs : List TransNumbers) (m : ℕ) → FiringsWithin S w m ts qs
      → IfSome S.end (λ q. w q ≤ m)
      → work_by w (junction_code S ts qs) ≤ 8 * length ts + tests_work S w ts qs + m + 3
