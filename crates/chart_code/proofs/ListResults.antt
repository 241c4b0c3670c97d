-- The results that the procedures of lists return are below 3 + the number of states, and so are those of all
-- procedures.
use Rattle.std.proofs.Common.{◌≡◌, ℕ, zero, suc, ◌+◌, ◌<◌, ◌≤◌, List, [], ◌∷◌, ◌++◌, length, map, Option}
use Rattle.std.proofs.Common.{Some, None, refl, subst, arith}
use Rattle.std.specs.Prelude.{slice_get, slice_index_or}
use Rattle.std.specs.List.{AllByRecursion}
use Rattle.active_config.specs.Tree.{Tree, IsTree, state_count, comp_of, ancestors, is_below}
use Rattle.active_config.proofs.PathLemmas.{Path, Up, above_of_below, path_le}
use Rattle.actions.specs.Exprs.{Expr, Stmt}
use Rattle.checked_chart.specs.declared.parts.Dest.{Dest}
use Rattle.checked_chart.specs.declared.parts.Dest.TheVariants.{State, Junction}
use Rattle.checked_chart.specs.declared.parts.ListKind.{ListKind}
use Rattle.checked_chart.specs.declared.parts.ListKind.TheVariants.{Outer, Inner, Default}
use Rattle.checked_chart.specs.Chart.{Chart, Trans, node, list_of, junction, life_of, is_remembered, may_return}
use Rattle.checked_chart.specs.Homes.{common_above, or_root, home_of}
use Rattle.checked_chart.specs.Valid.{IsValid, IsTrans, IsDest, AreTrans}
use Rattle.checked_chart.proofs.PartsLemmas.{junction_valid}
use Rattle.checked_chart.proofs.Trees.{find_all}
use Rattle.code_language.specs.Code.{instructions, fetch}
use Rattle.code_language.specs.Instrs.{Cond, Instr, OnHome, BareHome}
use Rattle.chart_code.specs.ListProcedures.{Search, search_of, fired_result, dest_code, condition_code}
use Rattle.chart_code.specs.ListProcedures.{guarded_code, event_code, lead_code, trans_code, list_code}
use Rattle.chart_code.specs.ListProcedures.{empty_code}
use Rattle.chart_code.specs.ListProcedures.{junction_code}
use Rattle.chart_code.specs.Numbers.{Numbers, TransNumbers, condition_of, first_of_parts, other_parts}
use Rattle.chart_code.specs.StateProcedures.{life_test}
use Rattle.chart_code.specs.Bodies.{body, procedures_of}
use Rattle.chart_code.specs.Keys.{Key, guard_keys, condition_keys, action_keys, trans_keys, layout}
use Rattle.chart_code.specs.Places.{numbers, list_numbers}
use Rattle.chart_code.proofs.EachFrom.{EachFrom, from_append}
use Rattle.chart_code.proofs.Every.{Every, every}
use Rattle.chart_code.proofs.ReachedLemmas.{list_valid}
use Rattle.chart_code.proofs.Results.{TestBelow, ResultBelow, ResultsBelow}
use Rattle.chart_code.proofs.Results.{results_append, no, yes, ended, block_results}
use Rattle.chart_code.proofs.Results.{guard_results, leave_results, exit_results, enter_results, defaults_results}
use Rattle.chart_code.proofs.Results.{arrive_results, take_results, process_results}

-- ---- homes

-- the home of an outer list isn't after the destination
home_low : (t : Tree) → IsTree t → (s d : ℕ) → d < state_count t → home_of t s Outer d ≤ d
unfolding common_above is_below
home_low t tree s d lt = go (common_above t s d) refl
  where
    everywhere : (xs : List ℕ) → AllByRecursion (λ x. Unit {0}) xs
    everywhere [] = tt
    everywhere (x ∷ xs) = (tt, everywhere xs)

    go : (o : Option ℕ) → common_above t s d ≡ o → or_root o ≤ d
    go None e = omega arith
    go (Some a) e =
        let found = find_all (is_below t d) (λ x. Unit {0}) (ancestors t s) a (everywhere (ancestors t s)) e in
        let up = above_of_below t d a found.0 in
        let path : Path t a d = Up up.parent up.is_parent up.path in
        path_le t (state_count t) tree.pre_order d a lt path

-- what a list returns after a firing
result_low : (t : Tree) → IsTree t → (limit : ℕ) → 3 + state_count t ≤ limit → (s : ℕ) (kind : ListKind) (d : ℕ)
    → d < state_count t → fired_result t s kind d < limit
result_low t tree limit few s Outer d lt = omega (arith, home_low t tree s d lt)
result_low t tree limit few s Inner d lt = omega arith
result_low t tree limit few s Default d lt = omega arith

-- ---- lists

-- a life is no result
life_result : (limit s : ℕ) (kind : ListKind) → TestBelow limit (life_test (life_of s kind))
life_result limit s Outer = tt
life_result limit s Inner = tt
life_result limit s Default = tt

module _ (c : Chart) (limit : ℕ) (enough : 3 ≤ limit) (S : Search)
    (low : (d : ℕ) → d < state_count c.tree → S.result d < limit) where
  -- where a transition leads
  dest_results : (tag : Option ℕ) (d : Dest) → IsDest c d → ResultsBelow limit (dest_code S tag d)
  dest_results tag (State d) is = (tt, (low d is.1, tt))
  dest_results tag (Junction j) is = (tt, (tt, tt))

  condition_results : (alive : Cond) → TestBelow limit alive → (o : Option ℕ) (rest : List Instr) → ResultsBelow limit rest
      → ResultsBelow limit (condition_code alive o rest)
  condition_results alive h None rest g = g
  condition_results alive h (Some q) rest g = (tt, (h, (tt, (yes limit enough, g))))

  guarded_results : (o : Option ℕ) (rest : List Instr) → ResultsBelow limit rest → ResultsBelow limit (guarded_code o rest)
  guarded_results None rest g = g
  guarded_results (Some q) rest g = (tt, (yes limit enough, g))

  event_results : (o : Option ℕ) (rest : List Instr) → ResultsBelow limit rest → ResultsBelow limit (event_code o rest)
  event_results None rest g = g
  event_results (Some e) rest g = (tt, g)

  -- a transition
  trans_results : (t : Trans) (q : TransNumbers) → IsTrans c t → ResultsBelow limit (trans_code S t q)
  trans_results t q is =
      let alive = life_test (life_of S.state S.kind) in
      let dest = dest_code S q.action t.dest in
      let lead = lead_code S t q in
      event_results t.event (guarded_code q.guard lead) (guarded_results q.guard lead
      (condition_results alive (life_result limit S.state S.kind) (condition_of S.kind q) dest
      (dest_results q.action t.dest is.dest)))

  -- a list
  pub list_results : (ts : List Trans) (qs : List TransNumbers) → AreTrans c ts → ResultsBelow limit (list_code S ts qs)
  list_results [] qs are = (no limit enough, tt)
  list_results (t ∷ ts) qs are =
      results_append limit (trans_code S t (first_of_parts qs)) (list_code S ts (other_parts qs))
      (trans_results t (first_of_parts qs) are.0) (list_results ts (other_parts qs) are.1)

  empty_results : (o : Option ℕ) → ResultsBelow limit (empty_code o)
  empty_results None = (no limit enough, tt)
  empty_results (Some e) = (tt, (tt, (no limit enough, tt)))

  -- a junction
  pub junction_results : (ts : List Trans) (qs : List TransNumbers) → AreTrans c ts → ResultsBelow limit (junction_code S ts qs)
  junction_results [] qs are = empty_results S.end
  junction_results (t ∷ ts) qs are = list_results (t ∷ ts) qs are

-- ---- all procedures

-- what holds of each procedure holds of all
all_of : (c : Chart) (limit : ℕ) (keys : List Key) → ((p : ℕ) (key : Key) → slice_get keys p ≡ Some key → ResultsBelow limit (body c key))
    → AllByRecursion (ResultsBelow limit) (map (body c) keys)
all_of c limit [] h = tt
all_of c limit (key ∷ keys) h = (h 0 key refl, all_of c limit keys (λ p x e. h (suc p) x e))

module _ (c : Chart) (valid : IsValid c) (limit : ℕ) (few : 3 + state_count c.tree ≤ limit) where
  enough : 3 ≤ limit
  enough = omega arith

  abbrev N : Numbers
  N = numbers c

  abbrev Fine : ℕ → Key → Type 0
  Fine p key = ResultsBelow limit (body c key)

  -- the parts of a transition
  each_guard : (p : ℕ) (o : Option Expr) → EachFrom Fine p (guard_keys o)
  each_guard p None = tt
  each_guard p (Some e) = (guard_results limit enough c.tree N e, tt)

  each_condition : (p : ℕ) (ss : List Stmt) → EachFrom Fine p (condition_keys ss)
  each_condition p [] = tt
  each_condition p (s ∷ ss) =
      (block_results limit enough c.tree N OnHome tt (s ∷ ss), (block_results limit enough c.tree N BareHome tt (s ∷ ss), tt))

  each_action : (p : ℕ) (ss : List Stmt) → EachFrom Fine p (action_keys ss)
  each_action p [] = tt
  each_action p (s ∷ ss) = (block_results limit enough c.tree N BareHome tt (s ∷ ss), tt)

  each_part : (t : Trans) (p : ℕ) → IsTrans c t → EachFrom Fine p (trans_keys t)
  each_part t p is =
      from_append Fine p (guard_keys t.guard) (condition_keys t.condition ++ action_keys t.action)
      (each_guard p t.guard)
      (from_append Fine (p + length (guard_keys t.guard)) (condition_keys t.condition) (action_keys t.action)
      (each_condition (p + length (guard_keys t.guard)) t.condition)
      (each_action (p + length (guard_keys t.guard) + length (condition_keys t.condition)) t.action))

  -- what a list shares
  abbrev of_list : ℕ → ListKind → Search
  of_list s kind = search_of N (list_numbers c) c.tree s kind

  low : (s : ℕ) (kind : ListKind) (d : ℕ) → d < state_count c.tree → (of_list s kind).result d < limit
  low s kind d lt = result_low c.tree valid.tree limit few s kind d lt

  -- the number of a state and three more
  small : (s : ℕ) → s < state_count c.tree → suc (suc (suc s)) < limit
  small s lt = omega arith

  -- each kind
  each_kind : Every c (IsTrans c) Fine
  each_kind = record {
    end_mark = (ended limit enough, tt);
    entry = λ s lt. block_results limit enough c.tree N BareHome tt (node c s).entry;
    during = λ s lt. block_results limit enough c.tree N OnHome tt (node c s).during;
    exit_action = λ s lt. block_results limit enough c.tree N BareHome tt (node c s).exit;
    lists = λ s kind lt. list_valid c valid s kind;
    junctions = λ j lt. junction_valid c valid j;
    parts = each_part;
    leave = λ s lt. leave_results limit enough c.tree N s (comp_of c.tree s);
    exit = λ s lt. exit_results limit enough c.tree N s;
    arrive = λ s d lt from to. arrive_results limit enough c.tree N s d;
    search = λ s kind lt. (
      tt,
      list_results c limit enough (of_list s kind) (low s kind) (list_of c s kind) ((list_numbers c).parts s kind)
          (list_valid c valid s kind),
    );
    junction = λ s kind j lt h.
        junction_results c limit enough (of_list s kind) (low s kind) (junction c j) ((list_numbers c).junction_parts j)
        (junction_valid c valid j);
    defaults = λ s lt. defaults_results limit enough c.tree N s (may_return c s);
    take = λ s d lt from to. take_results limit enough c.tree N s d;
    enter = λ s d lt from to. enter_results limit enough c.tree N s d (is_remembered c s);
    process = λ s lt. process_results limit enough c.tree N s (small s lt);
  }

  -- all of them
  pub layout_results : AllByRecursion (ResultsBelow limit) (map (body c) (layout c))
  layout_results = all_of c limit (layout c) (λ p key e. every c valid (IsTrans c) Fine each_kind p key e)

  -- ---- a place of a procedure

  -- what stands at a place of a procedure whose results are below the limit
  at_place : (is : List Instr) (i : ℕ) (x : Instr) → ResultsBelow limit is → slice_get is i ≡ Some x
      → ResultBelow limit x
  at_place [] i x h e = absurd cc
  at_place (y ∷ is) zero x h e = let same : y ≡ x = cc in subst (λ z. ResultBelow limit z) same h.0
  at_place (y ∷ is) (suc i) x h e = at_place is i x h.1 e

  -- a procedure among such ones, and none
  at_number : (procs : List (List Instr)) (p : ℕ) → AllByRecursion (ResultsBelow limit) procs
      → ResultsBelow limit (slice_index_or procs p [])
  at_number [] p h = tt
  at_number (is ∷ procs) zero h = h.0
  at_number (is ∷ procs) (suc p) h = at_number procs p h.1

  -- the results of each instruction of the code
  pub results_below : (p i : ℕ) (x : Instr) → fetch (procedures_of c) p i ≡ Some x → ResultBelow limit x
  unfolding fetch instructions procedures_of
  results_below p i x e =
      at_place (slice_index_or (map (body c) (layout c)) p []) i x
      (at_number (map (body c) (layout c)) p layout_results) e
