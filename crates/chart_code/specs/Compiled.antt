-- Code in which the procedures of a chart stand at their numbers.
use Rattle.std.specs.Prelude.{◌≡◌, ◌<◌, ℕ, List, [], ◌∷◌, Option, Some, None}
use Rattle.active_config.specs.Tree.{state_count, comp_of}
use Rattle.actions.specs.Exprs.{Expr, Stmt}
use Rattle.checked_chart.specs.declared.parts.ListKind.{ListKind}
use Rattle.checked_chart.specs.Chart.{Chart, Trans, node, list_of, junction, life_of, is_remembered, may_return}
use Rattle.checked_chart.specs.Reached.{links_of, Reached}
use Rattle.code_language.specs.Code.{Procedures}
use Rattle.code_language.specs.Instrs.{Cond}
use Rattle.code_language.specs.Instrs as instrs
use Rattle.code_language.specs.Reach.{HasAt}
use Rattle.chart_code.specs.Kinds.{IsPath}
use Rattle.chart_code.specs.ListProcedures.{Search, search_of, list_code, junction_code}
use Rattle.chart_code.specs.Numbers.{Numbers, TransNumbers, ListNumbers, condition_of, first_of_parts}
use Rattle.chart_code.specs.Numbers.{other_parts}
use Rattle.chart_code.specs.StateProcedures.{life_test, end_code, block_code, guard_code, leave_code, exit_code}
use Rattle.chart_code.specs.StateProcedures.{enter_code, defaults_code, arrive_code, take_code, process_code}

-- the procedures of the states stand at their numbers, and those of a start and of a reaction are among them
pub record Compiled (c : Chart) (k : Procedures) (N : Numbers) : Type 0 where
  pub react : k.react ≡ N.process 0
  pub start : k.start ≡ N.enter 0 0
  pub end_mark : HasAt k N.end_mark 0 end_code
  pub entry : (s : ℕ) → s < state_count c.tree → HasAt k (N.entry s) 0 (block_code N instrs.BareHome (node c s).entry)
  pub during : (s : ℕ) → s < state_count c.tree
      → HasAt k (N.during s) 0 (block_code N instrs.OnHome (node c s).during)
  pub exit_action : (s : ℕ) → s < state_count c.tree
      → HasAt k (N.exit_action s) 0 (block_code N instrs.BareHome (node c s).exit)
  pub leave : (s : ℕ) → s < state_count c.tree → HasAt k (N.leave s) 0 (leave_code N c.tree s (comp_of c.tree s))
  pub exit : (s : ℕ) → s < state_count c.tree → HasAt k (N.exit s) 0 (exit_code N s)
  pub enter : (s d : ℕ) → IsPath c.tree s d → HasAt k (N.enter s d) 0 (enter_code N c.tree s d (is_remembered c s))
  pub defaults : (s : ℕ) → s < state_count c.tree → HasAt k (N.defaults s) 0 (defaults_code N s (may_return c s))
  pub arrive : (s d : ℕ) → IsPath c.tree s d → HasAt k (N.arrive s d) 0 (arrive_code N c.tree s d)
  pub take : (s d : ℕ) → IsPath c.tree s d → HasAt k (N.take s d) 0 (take_code N s d)
  pub process : (s : ℕ) → s < state_count c.tree → HasAt k (N.process s) 0 (process_code N c.tree s)

-- ---- the parts of transitions

-- a guard has a procedure, of which G holds
abbrev pub GuardBy : (ℕ → Expr → Type 0) → Option Expr → Option ℕ → Type 0
GuardBy G None None = Unit {0}
GuardBy G None (Some q) = ⊥
GuardBy G (Some e) None = ⊥
GuardBy G (Some e) (Some q) = G q e

-- an action that isn't empty has a procedure, of which A holds
abbrev pub PartBy : (ℕ → List Stmt → Type 0) → List Stmt → Option ℕ → Type 0
PartBy A [] None = Unit {0}
PartBy A [] (Some q) = ⊥
PartBy A (s ∷ ss) None = ⊥
PartBy A (s ∷ ss) (Some q) = A q (s ∷ ss)

-- the procedure of an action with this test of its life
abbrev pub BlockAt : Procedures → Numbers → Cond → ℕ → List Stmt → Type 0
BlockAt k N alive q ss = HasAt k q 0 (block_code N alive ss)

-- the procedures of a transition stand at their numbers
pub record PartsAt (k : Procedures) (N : Numbers) (S : Search) (t : Trans) (q : TransNumbers) : Type 0 where
  pub guard : GuardBy (λ q e. HasAt k q 0 (guard_code e)) t.guard q.guard
  pub condition : PartBy (BlockAt k N (life_test (life_of S.state S.kind))) t.condition (condition_of S.kind q)
  pub action : PartBy (BlockAt k N instrs.BareHome) t.action q.action

-- the procedures of the transitions of a list stand at their numbers
abbrev pub EachAt : Procedures → Numbers → Search → List Trans → List TransNumbers → Type 0
EachAt k N S [] qs = Unit {0}
EachAt k N S (t ∷ ts) qs = PartsAt k N S t (first_of_parts qs) × EachAt k N S ts (other_parts qs)

-- ---- lists

-- the procedures of a list of a state stand at their numbers, with those of the junctions that are reached from it
pub record ListCompiled (c : Chart) (k : Procedures) (N : Numbers) (M : ListNumbers) (s : ℕ) (kind : ListKind)
    (S : Search) : Type 0 where
  pub list : HasAt k (N.search s kind) 0 (instrs.Begin ∷ list_code S (list_of c s kind) (M.parts s kind))
  pub parts : EachAt k N S (list_of c s kind) (M.parts s kind)
  pub junctions : (j : ℕ) → Reached (links_of c) (list_of c s kind) j
      → HasAt k (S.junction j) 0 (junction_code S (junction c j) (M.junction_parts j))
  pub junction_parts : (j : ℕ) → Reached (links_of c) (list_of c s kind) j
      → EachAt k N S (junction c j) (M.junction_parts j)

-- the procedures of all lists stand at their numbers
pub record ListsCompiled (c : Chart) (k : Procedures) (N : Numbers) (M : ListNumbers) : Type 0 where
  pub by : (s : ℕ) (kind : ListKind) → s < state_count c.tree
      → ListCompiled c k N M s kind (search_of N M c.tree s kind)
