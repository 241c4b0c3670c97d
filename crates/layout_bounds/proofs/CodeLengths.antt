-- No procedure has too many instructions.
use Rattle.std.proofs.Common.{◌≡◌, ℕ, suc, ◌+◌, ◌<◌, ◌≤◌, Bool, true, false, List, [], ◌∷◌, ◌++◌, length, map, Option}
use Rattle.std.proofs.Common.{Some, None, refl, arith}
use Rattle.std.specs.Prelude.{slice_get, nat_lt, ◌||◌}
use Rattle.std.specs.List.{list_any, range_with_len}
use Rattle.std.proofs.lemmas.Bool.Decides.{nat_tests}
use Rattle.std.proofs.lemmas.List.FromFn.{length-range_with_len}
use Rattle.std.proofs.lemmas.List.Sums.{length-filter, count_by-le-length, get_or-le-sum_by}
use Rattle.active_config.specs.Tree.{state_count, is_child, children_below, children_of}
use Rattle.actions.specs.Exprs.{Expr, Stmt}
use Rattle.checked_chart.specs.declared.parts.ListKind.{ListKind}
use Rattle.checked_chart.specs.declared.parts.ListKind.TheVariants.{Outer, Inner, Default}
use Rattle.checked_chart.specs.Chart.{Chart, Trans, node, no_node, list_of, junction, junction_count}
use Rattle.checked_chart.specs.Counts.{node_transitions, transition_count}
use Rattle.checked_chart.specs.Valid.{IsValid, IsTrans, IsBlock}
use Rattle.checked_chart.proofs.PartsLemmas.{node_valid, junction_valid}
use Rattle.code_language.specs.declared.limits.TheConstants.{INSTR_LIMIT}
use Rattle.code_language.specs.Instrs.{OnHome, BareHome, Instr}
use Rattle.chart_code.specs.ListProcedures.{search_of}
use Rattle.chart_code.specs.Numbers.{Numbers, ListNumbers}
use Rattle.chart_code.specs.Bodies.{body, procedures_of}
use Rattle.chart_code.specs.Keys.{Key, JunctionOf, guard_keys, condition_keys, action_keys, trans_keys, layout}
use Rattle.chart_code.specs.Places.{numbers, list_numbers}
use Rattle.chart_code.specs.ReachedJunctions.{has, reached}
use Rattle.chart_code.proofs.EachFrom.{EachFrom, from_append}
use Rattle.chart_code.proofs.Every.{Every, every}
use Rattle.chart_code.proofs.ReachedLemmas.{are_reached, reached_within, list_valid}
use Rattle.layout_bounds.specs.Lengths.{StateLengths, ListLengths}
use Rattle.layout_bounds.proofs.StateLengths.{state_lengths}
use Rattle.layout_bounds.proofs.ListLengths.{list_lengths}

-- a number within a limit isn't over it
pub not_over : (limit n : ℕ) → n ≤ limit → nat_lt limit n ≡ false
not_over limit n le = grind (arith, nat_tests)

-- neither of two tests holds
pub neither : (a b : Bool) → a ≡ false → b ≡ false → (a || b) ≡ false
neither false b e f = f
neither true b e f = absurd cc

-- no procedure is too long where each key's is short enough
none_long : (c : Chart) (keys : List Key)
    → ((k : ℕ) (key : Key) → slice_get keys k ≡ Some key → length (body c key) ≤ INSTR_LIMIT)
    → list_any (λ (is : List Instr). nat_lt INSTR_LIMIT (length is)) (map (body c) keys) ≡ false
none_long c [] h = refl
none_long c (key ∷ keys) h =
    neither (nat_lt INSTR_LIMIT (length (body c key))) _ (not_over INSTR_LIMIT (length (body c key)) (h 0 key refl))
    (none_long c keys (λ k x e. h (suc k) x e))

module _ (c : Chart) (valid : IsValid c) where
  abbrev N : Numbers
  N = numbers c

  abbrev M : ListNumbers
  M = list_numbers c

  abbrev m : ℕ
  m = state_count c.tree

  -- a procedure of the code is short enough
  abbrev IsShort : ℕ → Key → Type 0
  IsShort p key = length (body c key) ≤ INSTR_LIMIT

  -- how long those of states are
  states : StateLengths c N
  states = state_lengths c valid N

  -- how long those of lists are
  lists : ListLengths
  lists = list_lengths

  -- ---- what they are long by

  -- a state has no more children than there are states
  children_few : (s : ℕ) → length (children_of c.tree s) ≤ m
  unfolding children_of children_below
  children_few s =
      omega (
        arith,
        length-filter (is_child c.tree s) (range_with_len 0 m),
        count_by-le-length (is_child c.tree s) (range_with_len 0 m),
        length-range_with_len 0 m,
      )

  -- a list has no more transitions than the chart
  list_few : (s : ℕ) (kind : ListKind) → s < m → length (list_of c s kind) ≤ transition_count c
  unfolding node
  list_few s kind lt = omega (arith, at kind, all)
    where
      all : node_transitions (node c s) ≤ transition_count c
      all =
          let there : s < length c.nodes = omega (arith, lt, valid.nodes_sized) in
          omega (arith, get_or-le-sum_by node_transitions c.nodes s no_node there)

      at : (kind : ListKind) → length (list_of c s kind) ≤ node_transitions (node c s)
      at Outer = omega arith
      at Inner = omega arith
      at Default = omega arith

  -- nor has a junction's list
  junction_few : (j : ℕ) → j < junction_count c → length (junction c j) ≤ transition_count c
  unfolding junction junction_count
  junction_few j lt =
      omega (arith, get_or-le-sum_by (λ (list : List Trans). length list) c.junctions j [] lt)

  -- ---- the parts of transitions

  -- a guard
  each_guard : (p : ℕ) (o : Option Expr) → EachFrom IsShort p (guard_keys o)
  each_guard p None = tt
  each_guard p (Some e) = (omega (arith, states.guard e), tt)

  -- a condition action
  each_condition : (p : ℕ) (ss : List Stmt) → IsBlock c ss → EachFrom IsShort p (condition_keys ss)
  each_condition p [] h = tt
  each_condition p (s ∷ ss) h =
      (omega (arith, states.block OnHome (s ∷ ss), h.few), (omega (arith, states.block BareHome (s ∷ ss), h.few), tt))

  -- a transition action
  each_action : (p : ℕ) (ss : List Stmt) → IsBlock c ss → EachFrom IsShort p (action_keys ss)
  each_action p [] h = tt
  each_action p (s ∷ ss) h = (omega (arith, states.block BareHome (s ∷ ss), h.few), tt)

  -- those of a transition
  each_part : (t : Trans) (p : ℕ) → IsTrans c t → EachFrom IsShort p (trans_keys t)
  each_part t p is =
      from_append IsShort p (guard_keys t.guard) (condition_keys t.condition ++ action_keys t.action)
      (each_guard p t.guard)
      (from_append IsShort (p + length (guard_keys t.guard)) (condition_keys t.condition) (action_keys t.action)
      (each_condition (p + length (guard_keys t.guard)) t.condition is.condition)
      (each_action (p + length (guard_keys t.guard) + length (condition_keys t.condition)) t.action is.action))

  -- ---- each kind

  -- a junction that is reached from a list
  junction_is : (s : ℕ) (kind : ListKind) (j : ℕ) → s < m → has (reached c (list_of c s kind)) j ≡ true
      → IsShort (M.junction s kind j) (JunctionOf s kind j)
  junction_is s kind j lt h =
      let list = list_of c s kind in
      let are = list_valid c valid s kind in
      let there = reached_within c valid list are j (((are_reached c valid list are).exact j).0 h) in
      omega (
        arith,
        lists.junction (search_of N M c.tree s kind) (junction c j) (M.junction_parts j),
        junction_few j there,
        valid.limits.transitions,
      )

  -- each kind of procedure is short enough
  each_is : Every c (IsTrans c) IsShort
  each_is = record {
    end_mark = omega (arith, states.end_mark);
    entry = λ s lt. omega (arith, states.block BareHome (node c s).entry, (node_valid c valid s).entry.few);
    during = λ s lt. omega (arith, states.block OnHome (node c s).during, (node_valid c valid s).during.few);
    exit_action = λ s lt. omega (arith, states.block BareHome (node c s).exit, (node_valid c valid s).exit.few);
    lists = λ s kind lt. list_valid c valid s kind;
    junctions = λ j lt. junction_valid c valid j;
    parts = each_part;
    leave = λ s lt. omega (arith, states.leave s, children_few s, valid.limits.states);
    exit = λ s lt. omega (arith, states.exit s);
    arrive = λ s d lt low high. omega (arith, states.arrive s d);
    search = λ s kind lt.
        omega (
          arith,
          lists.list (search_of N M c.tree s kind) (list_of c s kind) (M.parts s kind),
          list_few s kind lt,
          valid.limits.transitions,
        );
    junction = junction_is;
    defaults = λ s lt. omega (arith, states.defaults s, children_few s, valid.limits.states);
    take = λ s d lt low high. omega (arith, states.take s d);
    enter = λ s d lt low high. omega (arith, states.enter s d lt, children_few s, valid.limits.states);
    process = λ s lt. omega (arith, states.process s, children_few s, valid.limits.states);
  }

  -- no procedure of the code is too long
  pub code_short : list_any (λ (is : List Instr). nat_lt INSTR_LIMIT (length is)) (procedures_of c).procs ≡ false
  unfolding procedures_of
  code_short = none_long c (layout c) (λ k key e. every c valid (IsTrans c) IsShort each_is k key e)
