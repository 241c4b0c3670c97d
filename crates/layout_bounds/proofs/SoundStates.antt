-- The procedures of states are sound: those that leave them, enter them, fire and process them.
use Rattle.std.proofs.Common.{◌≡◌, ℕ, ◌<◌, Bool, true, false, List, [], ◌∷◌, reverse, Option, Some, None, refl}
use Rattle.std.proofs.Common.{arith}
use Rattle.std.specs.Prelude.{◌==◌}
use Rattle.std.specs.List.{AllByRecursion}
use Rattle.active_config.specs.declared.comp.Comp.{Comp}
use Rattle.active_config.specs.declared.comp.Comp.TheVariants.{Leaf, Or, And}
use Rattle.active_config.specs.Tree.{state_count, parent_of, comp_of, children_of}
use Rattle.checked_chart.specs.declared.parts.ListKind.TheVariants.{Outer, Inner, Default}
use Rattle.checked_chart.specs.Chart.{Chart, is_remembered, may_return}
use Rattle.checked_chart.specs.Homes.{child_toward, path_in}
use Rattle.checked_chart.specs.Valid.{IsValid}
use Rattle.checked_chart.proofs.Trees.{parent_below}
use Rattle.sos_rules.specs.Parts.{Out}
use Rattle.sos_rules.proofs.MarkedStates.{all_reverse}
use Rattle.code_language.specs.Instrs.{Instr}
use Rattle.code_language.specs.Instrs as instrs
use Rattle.code_language.specs.Sound.{IsProc}
use Rattle.code_language.specs.WellFormed.{Known, can_be_kept}
use Rattle.chart_code.specs.Numbers.{Numbers}
use Rattle.chart_code.specs.StateProcedures.{active_code, each_code, leave_code, exit_code}
use Rattle.chart_code.specs.StateProcedures.{toward_code, enters_code, takes_test}
use Rattle.chart_code.specs.StateProcedures.{parent_test, inside_code, keep_code, enter_code, return_code}
use Rattle.chart_code.specs.StateProcedures.{defaults_code, arrive_code, take_code}
use Rattle.chart_code.specs.StateProcedures.{active_child_code, regions_code, children_code, process_code}
use Rattle.chart_code.specs.StateProcedures.{went_result}
use Rattle.layout_bounds.specs.Calls.{LeaveCalls, ExitCalls, EnterCalls, DefaultsCalls, ArriveCalls, TakeCalls}
use Rattle.layout_bounds.specs.Calls.{ProcessCalls}
use Rattle.layout_bounds.specs.Sound.{known, SoundStates}
use Rattle.layout_bounds.proofs.Instructions.{IsCond, some, ret_alone, ret, pass, play, unless, skip, home, mark}
use Rattle.layout_bounds.proofs.Instructions.{clear, keep, call}
use Rattle.layout_bounds.proofs.Conditions.{on_home_is, bare_home_is, result_is, on_is, bare_is, last_is}
use Rattle.layout_bounds.proofs.Conditions.{require_is, refuse_is, unless_found_is}
use Rattle.layout_bounds.proofs.Children.{remembered_kept, on_children, on_returns, to_defaults, to_child, entering}
use Rattle.layout_bounds.proofs.Children.{regions}
use Rattle.layout_bounds.proofs.SoundBlocks.{block_is, guard_code_is}

module _ (c : Chart) (valid : IsValid c) (N : Numbers) (n p : ℕ) (there : p < n) where
  -- what the code knows
  abbrev K : Known
  K = known c n

  -- ---- leaving

  -- the active one of these states is left
  active_is : (xs : List ℕ) → AllByRecursion (λ x. (x < state_count c.tree) × (N.exit x < p)) xs
      → IsProc K p (active_code N.exit xs)
  active_is [] all = ret_alone K p 1
  active_is (x ∷ xs) all =
      let rest = active_is xs all.1 in
      unless 2 (instrs.On x) (on_is K x all.0.0) (omega (arith, some rest)) (call (N.exit x) there all.0.1 (ret 1 rest))

  -- each of them is
  each_is : (xs : List ℕ) → AllByRecursion (λ x. (x < state_count c.tree) × (N.exit x < p)) xs
      → IsProc K p (each_code N.exit xs)
  each_is [] all = ret_alone K p 1
  each_is (x ∷ xs) all = call (N.exit x) there all.0.1 (each_is xs all.1)

  -- the children of a state are left, by how it is composed
  leave_by : (s : ℕ) (o : Comp) → LeaveCalls c.tree N (λ q. q < p) s → IsProc K p (leave_code N c.tree s o)
  leave_by s Leaf calls = ret_alone K p 1
  leave_by s Or calls =
      active_is (children_of c.tree s) (on_children c valid _ s (λ x lt up. (lt, calls x up)))
  leave_by s And calls =
      each_is (reverse (children_of c.tree s))
      (all_reverse _ (children_of c.tree s) (on_children c valid _ s (λ x lt up. (lt, calls x up))))

  -- a state is left
  exit_is : (s : ℕ) → s < state_count c.tree → ExitCalls c.tree N (λ q. q < p) s → IsProc K p (exit_code N s)
  exit_is s lt calls =
      home s lt (require_is instrs.OnHome (on_home_is K) (call (N.leave s) there calls.leave
      (require_is instrs.BareHome (bare_home_is K) (call (N.exit_action s) there calls.exit_action
      (clear s lt (ret_alone K p 1))))))

  -- ---- entering

  -- along a path
  toward_by : (s d : ℕ) (here : Bool) (way : Option ℕ) → (here ≡ true → N.defaults s < p)
      → (here ≡ false → (x : ℕ) → way ≡ Some x → N.enter x d < p) → IsProc K p (toward_code N s d here way)
  toward_by s d true way end on = call (N.defaults s) there (end refl) (ret_alone K p 1)
  toward_by s d false None end on = ret_alone K p 1
  toward_by s d false (Some x) end on = call (N.enter x d) there (on refl x refl) (ret_alone K p 1)

  -- the same from what is called
  toward_is : (s d : ℕ) → ArriveCalls c.tree N (λ q. q < p) s d
      → IsProc K p (toward_code N s d (s == d) (child_toward c.tree s d))
  toward_is s d calls =
      toward_by s d (s == d) (child_toward c.tree s d) (to_defaults c valid N (λ q. q < p) s d calls)
      (to_child c valid N (λ q. q < p) s d calls)

  -- each child of an AND
  enters_is : (d : ℕ) (xs : List ℕ) → AllByRecursion (λ x. N.enter x (path_in c.tree x d) < p) xs
      → IsProc K p (enters_code N c.tree d xs)
  enters_is d [] all = ret_alone K p 1
  enters_is d (x ∷ xs) all = call (N.enter x (path_in c.tree x d)) there all.0 (enters_is d xs all.1)

  -- what is inside a state
  inside_is : (s d : ℕ) (o : Comp) → EnterCalls c.tree N (λ q. q < p) s → IsProc K p (inside_code N c.tree s d o)
  inside_is s d Leaf calls = ret_alone K p 1
  inside_is s d Or calls = toward_is s d (entering c valid N (λ q. q < p) s d calls)
  inside_is s d And calls = enters_is d (children_of c.tree s) (regions c valid N (λ q. q < p) s d calls)

  -- what a parent remembers
  keep_is : {rest : List Instr} (s : ℕ) (on : Bool) → s < state_count c.tree
      → (on ≡ true → can_be_kept c.tree s ≡ true) → IsProc K p rest → IsProc K p (keep_code on s rest)
  keep_is s true lt can h = keep s lt (can refl) h
  keep_is s false lt can h = h

  -- a parent's test
  takes_is : (q : ℕ) (o : Comp) → q < state_count c.tree → IsCond K (takes_test q o)
  takes_is q Leaf lt = on_is K q lt
  takes_is q Or lt = bare_is K q lt
  takes_is q And lt = on_is K q lt

  -- a state is entered where its parent takes it
  parent_is : {rest : List Instr} (up : Option ℕ) → ((q : ℕ) → up ≡ Some q → q < state_count c.tree)
      → IsProc K p rest → IsProc K p (parent_test c.tree up rest)
  parent_is None within h = h
  parent_is (Some q) within h =
      require_is (takes_test q (comp_of c.tree q)) (takes_is q (comp_of c.tree q) (within q refl)) h

  -- the parent of a state is a state
  parent_within : (s : ℕ) → s < state_count c.tree → (q : ℕ) → parent_of c.tree s ≡ Some q → q < state_count c.tree
  parent_within s lt q up = omega (arith, lt, parent_below c.tree valid.tree q s up)

  -- a state is entered
  enter_is : (s d : ℕ) → s < state_count c.tree → EnterCalls c.tree N (λ q. q < p) s
      → IsProc K p (enter_code N c.tree s d (is_remembered c s))
  enter_is s d lt calls =
      home s lt (refuse_is instrs.OnHome (on_home_is K) (parent_is (parent_of c.tree s) (parent_within s lt)
      (mark s lt (keep_is s (is_remembered c s) lt (remembered_kept c s) (call (N.entry s) there calls.entry
      (require_is instrs.BareHome (bare_home_is K) (inside_is s d (comp_of c.tree s) calls)))))))

  -- the child that is remembered
  return_is : {rest : List Instr} (xs : List ℕ)
      → AllByRecursion (λ x. (x < state_count c.tree) × (can_be_kept c.tree x ≡ true) × (N.enter x x < p)) xs
      → IsProc K p rest → IsProc K p (return_code N xs rest)
  return_is [] all h = h
  return_is (x ∷ xs) all h =
      let rest = return_is xs all.1 h in
      unless 2 (instrs.Last x) (last_is K x all.0.0 all.0.1) (omega (arith, some rest))
      (call (N.enter x x) there all.0.2 (ret 1 rest))

  -- an OR is entered by default
  defaults_is : (s : ℕ) → s < state_count c.tree → DefaultsCalls c.tree N (λ q. q < p) s
      → IsProc K p (defaults_code N s (may_return c s))
  defaults_is s lt calls =
      home s lt (return_is (may_return c s)
      (on_returns c valid _ s (λ x within can up. (within, can, calls.child x up)))
      (call (N.search s Default) there calls.search (ret_alone K p 1)))

  -- ---- firing

  -- arriving in a state
  arrive_is : (s d : ℕ) → s < state_count c.tree → ArriveCalls c.tree N (λ q. q < p) s d
      → IsProc K p (arrive_code N c.tree s d)
  arrive_is s d lt calls =
      home s lt (play (require_is instrs.BareHome (bare_home_is K) (toward_is s d calls)))

  -- a firing
  take_is : (s d : ℕ) → TakeCalls c.tree N (λ q. q < p) s d → IsProc K p (take_code N s d)
  take_is s d calls =
      call (N.leave s) there calls.leave (call (N.arrive s d) there calls.arrive (ret_alone K p 1))

  -- ---- processing

  -- the active child of an OR
  active_child_is : (s : ℕ) (xs : List ℕ)
      → AllByRecursion (λ x. (x < state_count c.tree) × (N.process x < p)) xs → IsProc K p (active_child_code N s xs)
  active_child_is s [] all = ret_alone K p 1
  active_child_is s (x ∷ xs) all =
      let rest = active_child_is s xs all.1 in
      unless 4 (instrs.On x) (on_is K x all.0.0) (omega (arith, some rest)) (call (N.process x) there all.0.1
      (unless 1 (instrs.Result (went_result (Out s))) (result_is K (went_result (Out s))) (omega arith) (ret 1
      (pass rest))))

  -- the active children of an AND
  regions_is : (xs : List ℕ) → AllByRecursion (λ x. (x < state_count c.tree) × (N.process x < p)) xs
      → IsProc K p (regions_code N xs)
  regions_is [] all = ret_alone K p 1
  regions_is (x ∷ xs) all =
      let rest = regions_is xs all.1 in
      unless 4 (instrs.On x) (on_is K x all.0.0) (omega (arith, some rest)) (call (N.process x) there all.0.1
      (unless 1 (instrs.Result 1) (result_is K 1) (omega arith) (skip 1 (omega (arith, some rest)) (pass rest))))

  -- the children of a state, by how it is composed
  children_by : (s : ℕ) (o : Comp)
      → AllByRecursion (λ x. (x < state_count c.tree) × (N.process x < p)) (children_of c.tree s)
      → IsProc K p (children_code N c.tree s o)
  children_by s Leaf all = ret_alone K p 1
  children_by s Or all = active_child_is s (children_of c.tree s) all
  children_by s And all = regions_is (children_of c.tree s) all

  -- a state is processed
  process_is : (s : ℕ) → s < state_count c.tree → ProcessCalls c.tree N (λ q. q < p) s
      → IsProc K p (process_code N c.tree s)
  process_is s lt calls =
      home s lt (call (N.search s Outer) there calls.outer (unless_found_is (call (N.during s) there calls.during
      (require_is instrs.OnHome (on_home_is K) (call (N.search s Inner) there calls.inner (unless_found_is
      (children_by s (comp_of c.tree s) (on_children c valid _ s (λ x within up. (within, calls.child x up))))))))))

  -- all of them
  pub sound_states : SoundStates c N n p
  sound_states = record {
    end_mark = ret_alone K p 2;
    block = block_is c valid N n p;
    guard = guard_code_is c valid N n p;
    leave = λ s lt calls. leave_by s (comp_of c.tree s) calls;
    exit = exit_is;
    enter = enter_is;
    defaults = defaults_is;
    arrive = arrive_is;
    take = take_is;
    process = process_is;
  }
