-- How much work the procedures of states are.
use Rattle.std.proofs.Common.{◌≡◌, ℕ, ◌+◌, ◌*◌, ◌≤◌, List, [], ◌∷◌, length, reverse}
use Rattle.std.proofs.Common.{refl, arith}
use Rattle.std.specs.List.{AllByRecursion, sum_by}
use Rattle.std.proofs.lemmas.List.Sorted.{sum_by-IsPermutation, IsPermutation-reverse}
use Rattle.std.proofs.lemmas.List.Sums.{sum_by-cons}
use Rattle.active_config.specs.declared.comp.Comp.{Comp}
use Rattle.active_config.specs.declared.comp.Comp.TheVariants.{Leaf, Or, And}
use Rattle.active_config.specs.Tree.{comp_of, children_of}
use Rattle.actions.specs.Exprs.{Expr, Stmt, Assign, Send, SendTo, Emit}
use Rattle.checked_chart.specs.declared.parts.ListKind.TheVariants.{Outer, Inner}
use Rattle.checked_chart.specs.Chart.{Chart, may_return}
use Rattle.checked_chart.specs.Valid.{IsValid}
use Rattle.sos_rules.proofs.MarkedStates.{all_reverse}
use Rattle.code_language.specs.Instrs.{Cond, Instr}
use Rattle.code_language.specs.Measures.{work_from, lefts, work_by}
use Rattle.chart_code.specs.Numbers.{Numbers}
use Rattle.chart_code.specs.StateProcedures.{end_code, block_code, guard_code, active_code, each_code, leave_code}
use Rattle.chart_code.specs.StateProcedures.{exit_code, return_code, search_code}
use Rattle.chart_code.specs.StateProcedures.{defaults_code, arrive_code, take_code}
use Rattle.chart_code.specs.StateProcedures.{active_child_code, regions_code, children_code, process_code}
use Rattle.layout_bounds.specs.Calls.{DefaultsCalls, ArriveCalls}
use Rattle.layout_bounds.specs.Works.{ChildShares, StateWorks}
use Rattle.layout_bounds.proofs.Children.{on_children, on_returns, returns_few}
use Rattle.layout_bounds.proofs.EnterWorks.{toward_work, enter_work}

module _ (c : Chart) (valid : IsValid c) (N : Numbers) (w : ℕ → ℕ) where
  -- the end mark is one instruction
  end_work : work_by w end_code ≡ 1
  unfolding work_by lefts work_from
  end_work = refl

  -- three instructions for each statement, and a return
  block_work : (alive : Cond) (ss : List Stmt) → work_by w (block_code N alive ss) ≤ 3 * length ss + 1
  unfolding work_by lefts work_from
  block_work alive [] = omega arith
  block_work alive (Assign v e ∷ ss) = omega (arith, block_work alive ss)
  block_work alive (Emit e ∷ ss) = omega (arith, block_work alive ss)
  block_work alive (Send e ∷ ss) = omega (arith, block_work alive ss)
  block_work alive (SendTo e s ∷ ss) = omega (arith, block_work alive ss)

  -- a test and a return
  guard_work : (e : Expr) → work_by w (guard_code e) ≡ 2
  unfolding work_by lefts work_from
  guard_work e = refl

  -- ---- leaving

  module _ (share : ℕ → ℕ) where
    -- the active one of these states is left
    active_work : (xs : List ℕ) → AllByRecursion (λ x. w (N.exit x) + 3 ≤ share x) xs
        → work_by w (active_code N.exit xs) ≤ sum_by share xs + 1
    unfolding work_by lefts work_from
    active_work [] all = omega arith
    active_work (x ∷ xs) all = omega (arith, all.0, active_work xs all.1, sum_by-cons share x xs)

    -- each of them is
    each_work : (xs : List ℕ) → AllByRecursion (λ x. w (N.exit x) + 3 ≤ share x) xs
        → work_by w (each_code N.exit xs) ≤ sum_by share xs + 1
    unfolding work_by lefts work_from
    each_work [] all = omega arith
    each_work (x ∷ xs) all = omega (arith, all.0, each_work xs all.1, sum_by-cons share x xs)

    -- leaving, by how the state is composed
    leave_work : (s : ℕ) (o : Comp) → ChildShares c w N.exit share 3 s
        → work_by w (leave_code N c.tree s o) ≤ sum_by share (children_of c.tree s) + 1
    unfolding work_by lefts work_from
    leave_work s Leaf shares = omega arith
    leave_work s Or shares =
        active_work (children_of c.tree s)
        (on_children c valid (λ x. w (N.exit x) + 3 ≤ share x) s (λ x lt up. shares x up))
    leave_work s And shares =
        let xs = children_of c.tree s in
        let all = on_children c valid (λ x. w (N.exit x) + 3 ≤ share x) s (λ x lt up. shares x up) in
        omega (
          arith,
          each_work (reverse xs) (all_reverse (λ x. w (N.exit x) + 3 ≤ share x) xs all),
          sum_by-IsPermutation share xs (reverse xs) (IsPermutation-reverse xs),
        )

  -- a state is left
  exit_work : (s : ℕ) → work_by w (exit_code N s) ≤ w (N.leave s) + w (N.exit_action s) + 9
  unfolding work_by lefts work_from
  exit_work s = omega arith

  -- ---- entering by default

  -- at most one of the children is entered again
  return_work : (m : ℕ) (xs : List ℕ) (rest : List Instr) → AllByRecursion (λ x. w (N.enter x x) ≤ m) xs
      → work_by w rest ≤ m + 2 → work_by w (return_code N xs rest) ≤ length xs + m + 2
  unfolding work_by lefts work_from
  return_work m [] rest all low = omega (arith, low)
  return_work m (x ∷ xs) rest all low = omega (arith, all.0, return_work m xs rest all.1 low)

  -- the default list
  search_work : (s m : ℕ) → DefaultsCalls c.tree N (λ q. w q ≤ m) s → work_by w (search_code N s) ≤ m + 2
  unfolding work_by lefts work_from
  search_work s m calls = omega (arith, calls.search)

  -- an OR is entered by default
  defaults_work : (s m : ℕ) → DefaultsCalls c.tree N (λ q. w q ≤ m) s
      → work_by w (defaults_code N s (may_return c s)) ≤ length (children_of c.tree s) + m + 3
  unfolding work_by lefts work_from
  defaults_work s m calls =
      omega (
        arith,
        return_work m (may_return c s) (search_code N s)
            (on_returns c valid (λ x. w (N.enter x x) ≤ m) s (λ x lt can up. calls.child x up)) (search_work s m calls),
        returns_few c valid s,
      )

  -- ---- firing

  -- arriving
  arrive_work : (s d m : ℕ) → ArriveCalls c.tree N (λ q. w q ≤ m) s d → work_by w (arrive_code N c.tree s d) ≤ m + 6
  unfolding work_by lefts work_from
  arrive_work s d m calls = omega (arith, toward_work c valid N w s d m calls)

  -- a firing
  take_work : (s d : ℕ) → work_by w (take_code N s d) ≤ w (N.leave s) + w (N.arrive s d) + 3
  unfolding work_by lefts work_from
  take_work s d = omega arith

  -- ---- processing

  module _ (share : ℕ → ℕ) where
    -- the active child of an OR
    active_child_work : (s : ℕ) (xs : List ℕ) → AllByRecursion (λ x. w (N.process x) + 4 ≤ share x) xs
        → work_by w (active_child_code N s xs) ≤ sum_by share xs + 1
    unfolding work_by lefts work_from
    active_child_work s [] all = omega arith
    active_child_work s (x ∷ xs) all = omega (arith, all.0, active_child_work s xs all.1, sum_by-cons share x xs)

    -- the active children of an AND
    regions_work : (xs : List ℕ) → AllByRecursion (λ x. w (N.process x) + 4 ≤ share x) xs
        → work_by w (regions_code N xs) ≤ sum_by share xs + 1
    unfolding work_by lefts work_from
    regions_work [] all = omega arith
    regions_work (x ∷ xs) all = omega (arith, all.0, regions_work xs all.1, sum_by-cons share x xs)

    -- the children, by how the state is composed
    children_work : (s : ℕ) (o : Comp) → AllByRecursion (λ x. w (N.process x) + 4 ≤ share x) (children_of c.tree s)
        → work_by w (children_code N c.tree s o) ≤ sum_by share (children_of c.tree s) + 1
    unfolding work_by lefts work_from
    children_work s Leaf all = omega arith
    children_work s Or all = active_child_work s (children_of c.tree s) all
    children_work s And all = regions_work (children_of c.tree s) all

    -- a state is processed
    process_work : (s : ℕ) → ChildShares c w N.process share 4 s
        → work_by w (process_code N c.tree s)
        ≤ w (N.search s Outer) + w (N.during s) + w (N.search s Inner) + sum_by share (children_of c.tree s) + 11
    unfolding work_by lefts work_from
    process_work s shares =
        omega (
          arith,
          children_work s (comp_of c.tree s)
              (on_children c valid (λ x. w (N.process x) + 4 ≤ share x) s (λ x lt up. shares x up)),
        )

  -- all of them
  pub state_works : StateWorks c N w
  state_works = record {
    end_mark = end_work;
    block = block_work;
    guard = guard_work;
    leave = λ s share. leave_work share s (comp_of c.tree s);
    exit = exit_work;
    enter = λ s d m share. enter_work c valid N w share s d m;
    defaults = defaults_work;
    arrive = arrive_work;
    take = take_work;
    process = λ s share. process_work share s;
  }
