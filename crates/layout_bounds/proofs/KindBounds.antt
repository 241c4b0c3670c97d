-- What holds of each kind of procedure holds of all of a chart, and what the bound of each kind's number is.
use Rattle.std.proofs.Common.{◌≡◌, ℕ, ◌+◌, ◌<◌, ◌≤◌, true, List, [], ◌∷◌, ◌++◌, length, Option}
use Rattle.std.proofs.Common.{Some, None}
use Rattle.std.specs.Prelude.{slice_index}
use Rattle.std.specs.List.{AllByRecursion}
use Rattle.active_config.specs.Tree.{state_count}
use Rattle.actions.specs.Exprs.{Expr, Stmt}
use Rattle.checked_chart.specs.declared.parts.ListKind.{ListKind}
use Rattle.checked_chart.specs.Chart.{Chart, Trans, list_of, junction}
use Rattle.checked_chart.specs.Valid.{IsValid}
use Rattle.code_language.specs.Instrs.{Instr}
use Rattle.code_language.specs.Measures.{reckon}
use Rattle.code_language.proofs.Reckoned.{IsMeasure}
use Rattle.chart_code.specs.Kinds.{IsPath}
use Rattle.chart_code.specs.Numbers.{Numbers}
use Rattle.chart_code.specs.Ends.{end_of}
use Rattle.chart_code.specs.ReachedJunctions.{has, reached}
use Rattle.chart_code.specs.Keys.{Key, EndMark, Entry, During, ExitAction, Guard, ConditionOn, ConditionBare, Action}
use Rattle.chart_code.specs.Keys.{Leave, Exit, Arrive, ListOf, JunctionOf, Defaults, Take, Enter, Process}
use Rattle.chart_code.specs.Keys.{guard_keys, condition_keys, action_keys, trans_keys}
use Rattle.chart_code.specs.Places.{numbers}
use Rattle.chart_code.specs.Bodies.{body, procedures_of}
use Rattle.chart_code.proofs.EachFrom.{EachFrom, from_append}
use Rattle.chart_code.proofs.EndsLemmas.{path_range}
use Rattle.chart_code.proofs.Every.{Every, every}
use Rattle.chart_code.proofs.ListStands.{list_stands}
use Rattle.chart_code.proofs.StateStands.{StandsAt, end_mark_stands, entry_stands, during_stands, exit_action_stands}
use Rattle.chart_code.proofs.StateStands.{leave_stands, exit_stands, defaults_stand, processing_stands}
use Rattle.chart_code.proofs.StateStands.{enter_stands, arrive_stands}
use Rattle.layout_bounds.proofs.KeyBounds.{bound_at, at_key, all_bounded}

-- ---- each procedure of the code

-- R holds of all that procedures of a chart are of
pub record OfEach (c : Chart) (R : Key → Type 0) : Type 0 where
  pub end_mark : R EndMark
  pub entry : (s : ℕ) → s < state_count c.tree → R (Entry s)
  pub during : (s : ℕ) → s < state_count c.tree → R (During s)
  pub exit_action : (s : ℕ) → s < state_count c.tree → R (ExitAction s)
  pub guard : (e : Expr) → R (Guard e)
  pub condition_on : (ss : List Stmt) → R (ConditionOn ss)
  pub condition_bare : (ss : List Stmt) → R (ConditionBare ss)
  pub action : (ss : List Stmt) → R (Action ss)
  pub leave : (s : ℕ) → s < state_count c.tree → R (Leave s)
  pub exit : (s : ℕ) → s < state_count c.tree → R (Exit s)
  pub arrive : (s d : ℕ) → s < state_count c.tree → s ≤ d → d < end_of c.tree s → R (Arrive s d)
  pub search : (s : ℕ) (kind : ListKind) → s < state_count c.tree → R (ListOf s kind)
  pub junction : (s : ℕ) (kind : ListKind) (j : ℕ) → s < state_count c.tree
      → has (reached c (list_of c s kind)) j ≡ true → R (JunctionOf s kind j)
  pub defaults : (s : ℕ) → s < state_count c.tree → R (Defaults s)
  pub take : (s d : ℕ) → s < state_count c.tree → s ≤ d → d < end_of c.tree s → R (Take s d)
  pub enter : (s d : ℕ) → s < state_count c.tree → s ≤ d → d < end_of c.tree s → R (Enter s d)
  pub process : (s : ℕ) → s < state_count c.tree → R (Process s)

-- nothing is asked of transitions
all_units : (ts : List Trans) → AllByRecursion (λ t. Unit {0}) ts
all_units [] = tt
all_units (t ∷ ts) = (tt, all_units ts)

module _ (c : Chart) (R : Key → Type 0) (K : OfEach c R) where
  -- the same at whatever number
  abbrev P : ℕ → Key → Type 0
  P p key = R key

  -- a guard
  of_guard : (p : ℕ) (o : Option Expr) → EachFrom P p (guard_keys o)
  of_guard p None = tt
  of_guard p (Some e) = (K.guard e, tt)

  -- a condition action
  of_condition : (p : ℕ) (ss : List Stmt) → EachFrom P p (condition_keys ss)
  of_condition p [] = tt
  of_condition p (s ∷ ss) = (K.condition_on (s ∷ ss), (K.condition_bare (s ∷ ss), tt))

  -- a transition action
  of_action : (p : ℕ) (ss : List Stmt) → EachFrom P p (action_keys ss)
  of_action p [] = tt
  of_action p (s ∷ ss) = (K.action (s ∷ ss), tt)

  -- the parts of a transition
  of_parts : (t : Trans) (p : ℕ) → EachFrom P p (trans_keys t)
  of_parts t p =
      let guard = guard_keys t.guard in
      let condition = condition_keys t.condition in
      let action = action_keys t.action in
      from_append P p guard (condition ++ action) (of_guard p t.guard)
      (from_append P (p + length guard) condition action (of_condition (p + length guard) t.condition)
      (of_action (p + length guard + length condition) t.action))

  -- all kinds
  of_every : Every c (λ t. Unit {0}) P
  of_every = record {
    end_mark = K.end_mark;
    entry = K.entry;
    during = K.during;
    exit_action = K.exit_action;
    lists = λ s kind lt. all_units (list_of c s kind);
    junctions = λ j lt. all_units (junction c j);
    parts = λ t p u. of_parts t p;
    leave = K.leave;
    exit = K.exit;
    arrive = K.arrive;
    search = K.search;
    junction = K.junction;
    defaults = K.defaults;
    take = K.take;
    enter = K.enter;
    process = K.process;
  }

  -- so it holds of what stands at a number
  pub of_layout : IsValid c → (p : ℕ) (key : Key) → StandsAt c p key → R key
  of_layout valid p key e = every c valid (λ t. Unit {0}) P of_every p key e

-- ---- the bound of the number of each kind

module _ (c : Chart) (bound : Key → ℕ) where
  module _ (valid : IsValid c) where
    abbrev N : Numbers
    N = numbers c

    -- the end mark
    pub end_mark_bound : bound_at c bound N.end_mark ≡ bound EndMark
    end_mark_bound = at_key c bound N.end_mark EndMark (end_mark_stands c)

    -- where a state is entered on the way to one at or below it
    pub enter_bound : (s d : ℕ) → IsPath c.tree s d → bound_at c bound (N.enter s d) ≡ bound (Enter s d)
    enter_bound s d path =
        let range = path_range c.tree valid.tree s d path in
        at_key c bound (N.enter s d) (Enter s d) (enter_stands c s path.state valid.tree d range.0 range.1)

    -- where a firing arrives in it
    pub arrive_bound : (s d : ℕ) → s < state_count c.tree → s ≤ d → d < end_of c.tree s
        → bound_at c bound (N.arrive s d) ≡ bound (Arrive s d)
    arrive_bound s d lt low high =
        at_key c bound (N.arrive s d) (Arrive s d) (arrive_stands c s lt valid.tree d low high)

    module _ (s : ℕ) (lt : s < state_count c.tree) where
      -- the actions of a state
      pub entry_bound : bound_at c bound (N.entry s) ≡ bound (Entry s)
      entry_bound = at_key c bound (N.entry s) (Entry s) (entry_stands c s lt)

      pub during_bound : bound_at c bound (N.during s) ≡ bound (During s)
      during_bound = at_key c bound (N.during s) (During s) (during_stands c s lt)

      pub exit_action_bound : bound_at c bound (N.exit_action s) ≡ bound (ExitAction s)
      exit_action_bound = at_key c bound (N.exit_action s) (ExitAction s) (exit_action_stands c s lt)

      -- where its children are left, and where it is left
      pub leave_bound : bound_at c bound (N.leave s) ≡ bound (Leave s)
      leave_bound = at_key c bound (N.leave s) (Leave s) (leave_stands c s lt)

      pub exit_bound : bound_at c bound (N.exit s) ≡ bound (Exit s)
      exit_bound = at_key c bound (N.exit s) (Exit s) (exit_stands c s lt)

      -- where it is entered by default, and processed
      pub defaults_bound : bound_at c bound (N.defaults s) ≡ bound (Defaults s)
      defaults_bound = at_key c bound (N.defaults s) (Defaults s) (defaults_stand c s lt)

      pub process_bound : bound_at c bound (N.process s) ≡ bound (Process s)
      process_bound = at_key c bound (N.process s) (Process s) (processing_stands c s lt)

      -- a list of it
      pub search_bound : (kind : ListKind) → bound_at c bound (N.search s kind) ≡ bound (ListOf s kind)
      search_bound kind = at_key c bound (N.search s kind) (ListOf s kind) (list_stands c s kind lt)

    -- ---- the whole

    -- where each kind keeps its bound by those that it calls, each procedure of the code keeps that of its number
    pub bounded : (F : (ℕ → ℕ) → List Instr → ℕ) → IsMeasure F
        → OfEach c (λ key. F (bound_at c bound) (body c key) ≤ bound key) → (p : ℕ)
        → slice_index (reckon F [] (procedures_of c).procs) p ≤ bound_at c bound p
    bounded F measure K p =
        all_bounded c bound F measure
        (of_layout c (λ key. F (bound_at c bound) (body c key) ≤ bound key) K valid) p
