-- Each kind of procedure keeps its bound by those that it calls.
use Rattle.std.proofs.Common.{◌≡◌, ℕ, ◌+◌, ◌*◌, ◌<◌, ◌≤◌, true, List, Some, refl, arith}
use Rattle.std.specs.Prelude.{IfSome}
use Rattle.flow_base.specs.declared.chart_limits.TheConstants.{STATE_DEPTH_LIMIT}
use Rattle.active_config.specs.Tree.{parent_of, state_count}
use Rattle.active_config.proofs.PathLemmas.{is_at_or_below-same}
use Rattle.actions.specs.Exprs.{Expr, Stmt}
use Rattle.checked_chart.specs.declared.parts.ListKind.{ListKind}
use Rattle.checked_chart.specs.declared.parts.ListKind.TheVariants.{Outer, Inner, Default}
use Rattle.checked_chart.specs.Chart.{Chart, node, list_of, junction}
use Rattle.checked_chart.specs.Homes.{home_of}
use Rattle.checked_chart.specs.Valid.{IsValid}
use Rattle.checked_chart.proofs.Trees.{IsChild, child_is}
use Rattle.code_language.specs.Instrs as instrs
use Rattle.code_language.specs.Measures.{height_by}
use Rattle.chart_code.specs.Kinds.{IsPath, IsDestination}
use Rattle.chart_code.specs.ListProcedures.{context_of, search_of}
use Rattle.chart_code.specs.Numbers.{Numbers, ListNumbers}
use Rattle.chart_code.specs.Ends.{end_of}
use Rattle.chart_code.specs.ReachedJunctions.{has, reached}
use Rattle.chart_code.specs.Keys.{Key, Guard, Leave, Exit, Arrive, ListOf, JunctionOf, Defaults, Take, Enter}
use Rattle.chart_code.specs.Keys.{Process}
use Rattle.chart_code.specs.Places.{numbers, list_numbers}
use Rattle.chart_code.specs.Bodies.{body}
use Rattle.chart_code.proofs.StateStands.{StandsAt}
use Rattle.layout_bounds.specs.Heights.{StateHeights, ListHeights}
use Rattle.layout_bounds.specs.HeightBounds.{rank, search_height, height_bound}
use Rattle.layout_bounds.proofs.StateHeights.{state_heights}
use Rattle.layout_bounds.proofs.ListHeights.{list_heights}
use Rattle.layout_bounds.proofs.KeyBounds.{bound_at, at_key}
use Rattle.layout_bounds.proofs.KindBounds.{OfEach, end_mark_bound, enter_bound, arrive_bound}
use Rattle.layout_bounds.proofs.KindBounds.{entry_bound, during_bound, exit_action_bound, leave_bound, exit_bound}
use Rattle.layout_bounds.proofs.KindBounds.{defaults_bound, process_bound, search_bound}
use Rattle.layout_bounds.proofs.CalledKeys.{fire_key, condition_key, fire_stands, is_reached, list_calls, junction_calls}
use Rattle.layout_bounds.proofs.Ranks.{rank_most, child_rank, arrive_here, arrive_below, arrive_between}

module _ (c : Chart) (valid : IsValid c) where
  abbrev N : Numbers
  N = numbers c

  abbrev M : ListNumbers
  M = list_numbers c

  -- the bound of what a procedure is of
  abbrev bound : Key → ℕ
  bound = height_bound c.tree

  -- the bound of a number
  abbrev at : ℕ → ℕ
  at = bound_at c bound

  -- a key's procedure keeps the key's bound
  abbrev Keeps : Key → Type 0
  Keeps key = height_by at (body c key) ≤ bound key

  -- how high each kind is by those that it calls
  states : StateHeights c N at
  states = state_heights c valid N at

  lists : ListHeights at
  lists = list_heights at

  -- ---- states

  -- a child, and its rank
  child : (s x : ℕ) → parent_of c.tree x ≡ Some s → IsChild c.tree s x
  child s x up = child_is c.tree valid.tree s x up

  -- children are left
  of_leave : (s : ℕ) → Keeps (Leave s)
  of_leave s = states.leave s (2 * rank c.tree s) (λ x up.
      omega (arith, exit_bound c bound valid x (child s x up).within, child_rank c valid s x up))

  -- a state is left
  of_exit : (s : ℕ) → s < state_count c.tree → Keeps (Exit s)
  of_exit s lt = states.exit s (2 * rank c.tree s + 1) (record {
    leave = omega (arith, leave_bound c bound valid s lt);
    exit_action = omega (arith, exit_action_bound c bound valid s lt);
  })

  -- it is entered
  of_enter : (s d : ℕ) → s < state_count c.tree → Keeps (Enter s d)
  of_enter s d lt = states.enter s d (4 * rank c.tree s + 4) (record {
    entry = omega (arith, entry_bound c bound valid s lt);
    defaults = omega (arith, defaults_bound c bound valid s lt);
    child = λ x e up path. omega (arith, enter_bound c bound valid x e path, child_rank c valid s x up);
  })

  -- a child itself is entered
  child_path : (s x : ℕ) → parent_of c.tree x ≡ Some s → IsPath c.tree x x
  child_path s x up = record { state = (child s x up).within; below = is_at_or_below-same c.tree x x refl }

  -- by default
  of_defaults : (s : ℕ) → s < state_count c.tree → Keeps (Defaults s)
  of_defaults s lt = states.defaults s (4 * rank c.tree s + 3) (record {
    search = omega (arith, search_bound c bound valid s lt Default);
    child = λ x up. omega (arith, enter_bound c bound valid x x (child_path s x up), child_rank c valid s x up);
  })

  -- a firing arrives in it
  of_arrive : (s d : ℕ) → s < state_count c.tree → Keeps (Arrive s d)
  of_arrive s d lt = states.arrive s d (bound (Arrive s d)) (record {
    defaults = λ e. omega (arith, defaults_bound c bound valid s lt, arrive_here c.tree s d e);
    child = λ x ne up path. omega (
      arith,
      enter_bound c bound valid x d path,
      child_rank c valid s x up,
      (arrive_between c.tree s d).0,
    );
  })

  -- it takes a firing
  of_take : (s d : ℕ) → s < state_count c.tree → s ≤ d → d < end_of c.tree s → Keeps (Take s d)
  of_take s d lt low high = states.take s d (4 * rank c.tree s + 5) (record {
    leave = omega (arith, leave_bound c bound valid s lt);
    arrive = omega (arith, arrive_bound c bound valid s d lt low high, (arrive_between c.tree s d).1);
  })

  -- it is processed
  of_process : (s : ℕ) → s < state_count c.tree → Keeps (Process s)
  of_process s lt = states.process s (4 * STATE_DEPTH_LIMIT + 7 + rank c.tree s) (record {
    outer = omega (arith, search_bound c bound valid s lt Outer);
    during = omega (arith, during_bound c bound valid s lt);
    inner = omega (arith, search_bound c bound valid s lt Inner);
    child = λ x up.
        omega (arith, process_bound c bound valid x (child s x up).within, child_rank c valid s x up);
  })

  -- ---- lists

  -- what a list calls for a destination is lower than the list
  fire_low : (s : ℕ) (kind : ListKind) (d : ℕ) → IsDestination c.tree s kind d
      → bound (fire_key c.tree s kind d) < search_height c.tree s kind
  fire_low s Outer d to = omega (arith, rank_most c.tree (home_of c.tree s Outer d))
  fire_low s Inner d to = omega (arith, rank_most c.tree s)
  fire_low s Default d to = omega (arith, arrive_below c.tree s d to.below)

  -- the same at its number
  fires : (s : ℕ) (kind : ListKind) (d : ℕ) → IsDestination c.tree s kind d
      → at ((context_of N c.tree s kind).fire d) < search_height c.tree s kind
  fires s kind d to =
      omega (
        arith,
        at_key c bound ((context_of N c.tree s kind).fire d) (fire_key c.tree s kind d)
            (fire_stands c valid s kind d to),
        fire_low s kind d to,
      )

  -- some height
  search_some : (s : ℕ) (kind : ListKind) → 0 < search_height c.tree s kind
  search_some s Outer = omega arith
  search_some s Inner = omega arith
  search_some s Default = omega arith

  -- what stands there has no height
  guards : (s : ℕ) (kind : ListKind) (p : ℕ) (e : Expr) → StandsAt c p (Guard e) → at p < search_height c.tree s kind
  guards s kind p e stands = omega (arith, at_key c bound p (Guard e) stands, search_some s kind)

  -- nor this
  condition_flat : (kind : ListKind) (ss : List Stmt) → bound (condition_key kind ss) ≡ 0
  condition_flat Outer ss = omega arith
  condition_flat Inner ss = omega arith
  condition_flat Default ss = omega arith

  conditions : (s : ℕ) (kind : ListKind) (p : ℕ) (ss : List Stmt) → StandsAt c p (condition_key kind ss)
      → at p < search_height c.tree s kind
  conditions s kind p ss stands =
      omega (arith, at_key c bound p (condition_key kind ss) stands, condition_flat kind ss, search_some s kind)

  -- the end mark is lower, where a list may come to it
  ends : (s : ℕ) (kind : ListKind) → IfSome (context_of N c.tree s kind).end (λ p. at p < search_height c.tree s kind)
  ends s Outer = omega (arith, end_mark_bound c bound valid)
  ends s Inner = omega (arith, end_mark_bound c bound valid)
  ends s Default = tt

  -- a list
  of_search : (s : ℕ) (kind : ListKind) → s < state_count c.tree → Keeps (ListOf s kind)
  of_search s kind lt =
      lists.list (search_of N M c.tree s kind) (list_of c s kind) (M.parts s kind) (search_height c.tree s kind)
      (list_calls c valid s kind lt (λ p. at p < search_height c.tree s kind) (fires s kind) (guards s kind)
      (conditions s kind))

  -- a junction that is reached from it
  of_junction : (s : ℕ) (kind : ListKind) (j : ℕ) → s < state_count c.tree
      → has (reached c (list_of c s kind)) j ≡ true → Keeps (JunctionOf s kind j)
  of_junction s kind j lt h =
      lists.junction (search_of N M c.tree s kind) (junction c j) (M.junction_parts j) (search_height c.tree s kind)
      (junction_calls c valid s kind lt (λ p. at p < search_height c.tree s kind) (fires s kind) (guards s kind)
      (conditions s kind) j (is_reached c valid s kind j h))
      (ends s kind)

  -- ---- all kinds

  -- each kind keeps its bound
  pub each_keeps : OfEach c Keeps
  each_keeps = record {
    end_mark = omega (arith, states.end_mark);
    entry = λ s lt. omega (arith, states.block instrs.BareHome (node c s).entry);
    during = λ s lt. omega (arith, states.block instrs.OnHome (node c s).during);
    exit_action = λ s lt. omega (arith, states.block instrs.BareHome (node c s).exit);
    guard = λ e. omega (arith, states.guard e);
    condition_on = λ ss. omega (arith, states.block instrs.OnHome ss);
    condition_bare = λ ss. omega (arith, states.block instrs.BareHome ss);
    action = λ ss. omega (arith, states.block instrs.BareHome ss);
    leave = λ s lt. of_leave s;
    exit = of_exit;
    arrive = λ s d lt low high. of_arrive s d lt;
    search = of_search;
    junction = of_junction;
    defaults = of_defaults;
    take = of_take;
    enter = λ s d lt low high. of_enter s d lt;
    process = of_process;
  }
