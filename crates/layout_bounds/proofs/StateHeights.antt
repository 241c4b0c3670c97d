-- How high the procedures of states are.
use Rattle.std.proofs.Common.{◌≡◌, ℕ, ◌<◌, ◌≤◌, Bool, true, false, List, [], ◌∷◌, reverse, Option}
use Rattle.std.proofs.Common.{Some, None, refl, arith}
use Rattle.std.specs.Prelude.{◌==◌}
use Rattle.std.specs.List.{AllByRecursion}
use Rattle.active_config.specs.declared.comp.Comp.{Comp}
use Rattle.active_config.specs.declared.comp.Comp.TheVariants.{Leaf, Or, And}
use Rattle.active_config.specs.Tree.{parent_of, comp_of, children_of}
use Rattle.actions.specs.Exprs.{Expr, Stmt, Assign, Send, SendTo, Emit}
use Rattle.checked_chart.specs.Chart.{Chart, is_remembered, may_return}
use Rattle.checked_chart.specs.Homes.{child_toward, path_in}
use Rattle.checked_chart.specs.Valid.{IsValid}
use Rattle.sos_rules.proofs.MarkedStates.{all_reverse}
use Rattle.code_language.specs.Instrs.{Cond, Instr}
use Rattle.code_language.specs.Measures.{rise, height_by}
use Rattle.chart_code.specs.Numbers.{Numbers}
use Rattle.chart_code.specs.StateProcedures.{end_code, block_code, guard_code, active_code, each_code, leave_code}
use Rattle.chart_code.specs.StateProcedures.{exit_code, toward_code, enters_code, parent_test, inside_code}
use Rattle.chart_code.specs.StateProcedures.{keep_code, active_entry_code, entry_code, enter_code, return_code}
use Rattle.chart_code.specs.StateProcedures.{search_code, defaults_code, arrive_code, take_code}
use Rattle.chart_code.specs.StateProcedures.{active_child_code, regions_code, children_code, process_code}
use Rattle.layout_bounds.specs.Calls.{LeaveCalls, ExitCalls, EnterCalls, DefaultsCalls, ArriveCalls, TakeCalls}
use Rattle.layout_bounds.specs.Calls.{ProcessCalls}
use Rattle.layout_bounds.specs.Heights.{StateHeights}
use Rattle.layout_bounds.proofs.Children.{on_children, on_returns, to_defaults, to_child, entering, regions}

module _ (c : Chart) (valid : IsValid c) (N : Numbers) (h : ℕ → ℕ) where
  -- the end mark calls nothing
  end_height : height_by h end_code ≡ 0
  unfolding height_by rise
  end_height = omega arith

  -- nor does a block
  block_height : (alive : Cond) (ss : List Stmt) → height_by h (block_code N alive ss) ≡ 0
  unfolding height_by rise
  block_height alive [] = omega arith
  block_height alive (Assign v e ∷ ss) = omega (arith, block_height alive ss)
  block_height alive (Emit e ∷ ss) = omega (arith, block_height alive ss)
  block_height alive (Send e ∷ ss) = omega (arith, block_height alive ss)
  block_height alive (SendTo e s ∷ ss) = omega (arith, block_height alive ss)

  -- nor does a guard
  guard_height : (e : Expr) → height_by h (guard_code e) ≡ 0
  unfolding height_by rise
  guard_height e = omega arith

  module _ (m : ℕ) where
    -- ---- leaving

    -- the active one of these states is left
    active_height : (xs : List ℕ) → AllByRecursion (λ x. h (N.exit x) < m) xs → height_by h (active_code N.exit xs) ≤ m
    unfolding height_by rise
    active_height [] all = omega arith
    active_height (x ∷ xs) all = omega (arith, all.0, active_height xs all.1)

    -- each of them is
    each_height : (xs : List ℕ) → AllByRecursion (λ x. h (N.exit x) < m) xs → height_by h (each_code N.exit xs) ≤ m
    unfolding height_by rise
    each_height [] all = omega arith
    each_height (x ∷ xs) all = omega (arith, all.0, each_height xs all.1)

    -- leaving, by how the state is composed
    leave_height : (s : ℕ) (o : Comp) → LeaveCalls c.tree N (λ q. h q < m) s → height_by h (leave_code N c.tree s o) ≤ m
    unfolding height_by rise
    leave_height s Leaf calls = omega arith
    leave_height s Or calls =
        active_height (children_of c.tree s) (on_children c valid (λ x. h (N.exit x) < m) s (λ x lt up. calls x up))
    leave_height s And calls =
        each_height (reverse (children_of c.tree s)) (all_reverse (λ x. h (N.exit x) < m) (children_of c.tree s)
        (on_children c valid (λ x. h (N.exit x) < m) s (λ x lt up. calls x up)))

    -- a state is left
    exit_height : (s : ℕ) → ExitCalls c.tree N (λ q. h q < m) s → height_by h (exit_code N s) ≤ m
    unfolding height_by rise
    exit_height s calls = omega (arith, calls.leave, calls.exit_action)

    -- ---- entering

    -- along a path
    toward_by : (s d : ℕ) (here : Bool) (way : Option ℕ) → (here ≡ true → h (N.defaults s) < m)
        → (here ≡ false → (x : ℕ) → way ≡ Some x → h (N.enter x d) < m) → height_by h (toward_code N s d here way) ≤ m
    unfolding height_by rise
    toward_by s d true way end on = omega (arith, end refl)
    toward_by s d false None end on = omega arith
    toward_by s d false (Some x) end on = omega (arith, on refl x refl)

    -- the same from what is called
    toward_height : (s d : ℕ) → ArriveCalls c.tree N (λ q. h q < m) s d
        → height_by h (toward_code N s d (s == d) (child_toward c.tree s d)) ≤ m
    toward_height s d calls =
        toward_by s d (s == d) (child_toward c.tree s d) (to_defaults c valid N (λ q. h q < m) s d calls)
        (to_child c valid N (λ q. h q < m) s d calls)

    -- each child of an AND
    enters_height : (d : ℕ) (xs : List ℕ) → AllByRecursion (λ x. h (N.enter x (path_in c.tree x d)) < m) xs
        → height_by h (enters_code N c.tree d xs) ≤ m
    unfolding height_by rise
    enters_height d [] all = omega arith
    enters_height d (x ∷ xs) all = omega (arith, all.0, enters_height d xs all.1)

    -- what is inside
    inside_height : (s d : ℕ) (o : Comp) → EnterCalls c.tree N (λ q. h q < m) s
        → height_by h (inside_code N c.tree s d o) ≤ m
    unfolding height_by rise
    inside_height s d Leaf calls = omega arith
    inside_height s d Or calls = toward_height s d (entering c valid N (λ q. h q < m) s d calls)
    inside_height s d And calls =
        enters_height d (children_of c.tree s) (regions c valid N (λ q. h q < m) s d calls)

    -- a parent's test
    parent_height : (up : Option ℕ) (rest : List Instr) → height_by h (parent_test c.tree up rest) ≤ height_by h rest
    unfolding height_by rise
    parent_height None rest = omega arith
    parent_height (Some q) rest = omega arith

    -- what a parent remembers
    keep_height : (on : Bool) (s : ℕ) (rest : List Instr) → height_by h (keep_code on s rest) ≤ height_by h rest
    unfolding height_by rise
    keep_height true s rest = omega arith
    keep_height false s rest = omega arith

    -- a state is entered
    enter_height : (s d : ℕ) → EnterCalls c.tree N (λ q. h q < m) s
        → height_by h (enter_code N c.tree s d (is_remembered c s)) ≤ m
    unfolding height_by rise
    enter_height s d calls =
        omega (
          arith,
          parent_height (parent_of c.tree s) (entry_code N c.tree s d (is_remembered c s)),
          keep_height (is_remembered c s) s (active_entry_code N c.tree s d),
          calls.entry,
          inside_height s d (comp_of c.tree s) calls,
        )

    -- the child that is remembered
    return_height : (xs : List ℕ) (rest : List Instr) → AllByRecursion (λ x. h (N.enter x x) < m) xs
        → height_by h rest ≤ m → height_by h (return_code N xs rest) ≤ m
    unfolding height_by rise
    return_height [] rest all low = low
    return_height (x ∷ xs) rest all low = omega (arith, all.0, return_height xs rest all.1 low)

    -- the default list
    search_height : (s : ℕ) → DefaultsCalls c.tree N (λ q. h q < m) s → height_by h (search_code N s) ≤ m
    unfolding height_by rise
    search_height s calls = omega (arith, calls.search)

    -- an OR is entered by default
    defaults_height : (s : ℕ) → DefaultsCalls c.tree N (λ q. h q < m) s
        → height_by h (defaults_code N s (may_return c s)) ≤ m
    unfolding height_by rise
    defaults_height s calls =
        omega (
          arith,
          return_height (may_return c s) (search_code N s)
              (on_returns c valid (λ x. h (N.enter x x) < m) s (λ x lt can up. calls.child x up))
              (search_height s calls),
        )

    -- ---- firing

    -- arriving
    arrive_height : (s d : ℕ) → ArriveCalls c.tree N (λ q. h q < m) s d → height_by h (arrive_code N c.tree s d) ≤ m
    unfolding height_by rise
    arrive_height s d calls = omega (arith, toward_height s d calls)

    -- a firing
    take_height : (s d : ℕ) → TakeCalls c.tree N (λ q. h q < m) s d → height_by h (take_code N s d) ≤ m
    unfolding height_by rise
    take_height s d calls = omega (arith, calls.leave, calls.arrive)

    -- ---- processing

    -- the active child of an OR
    active_child_height : (s : ℕ) (xs : List ℕ) → AllByRecursion (λ x. h (N.process x) < m) xs
        → height_by h (active_child_code N s xs) ≤ m
    unfolding height_by rise
    active_child_height s [] all = omega arith
    active_child_height s (x ∷ xs) all = omega (arith, all.0, active_child_height s xs all.1)

    -- the active children of an AND
    regions_height : (xs : List ℕ) → AllByRecursion (λ x. h (N.process x) < m) xs → height_by h (regions_code N xs) ≤ m
    unfolding height_by rise
    regions_height [] all = omega arith
    regions_height (x ∷ xs) all = omega (arith, all.0, regions_height xs all.1)

    -- the children, by how the state is composed
    children_height : (s : ℕ) (o : Comp) → AllByRecursion (λ x. h (N.process x) < m) (children_of c.tree s)
        → height_by h (children_code N c.tree s o) ≤ m
    unfolding height_by rise
    children_height s Leaf all = omega arith
    children_height s Or all = active_child_height s (children_of c.tree s) all
    children_height s And all = regions_height (children_of c.tree s) all

    -- a state is processed
    process_height : (s : ℕ) → ProcessCalls c.tree N (λ q. h q < m) s → height_by h (process_code N c.tree s) ≤ m
    unfolding height_by rise
    process_height s calls =
        omega (
          arith,
          calls.outer,
          calls.during,
          calls.inner,
          children_height s (comp_of c.tree s)
              (on_children c valid (λ x. h (N.process x) < m) s (λ x lt up. calls.child x up)),
        )

  -- all of them
  pub state_heights : StateHeights c N h
  state_heights = record {
    end_mark = end_height;
    block = block_height;
    guard = guard_height;
    leave = λ s m. leave_height m s (comp_of c.tree s);
    exit = λ s m. exit_height m s;
    enter = λ s d m. enter_height m s d;
    defaults = λ s m. defaults_height m s;
    arrive = λ s d m. arrive_height m s d;
    take = λ s d m. take_height m s d;
    process = λ s m. process_height m s;
  }
