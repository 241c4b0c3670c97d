-- Each procedure of the code is sound, and so all are.
use Rattle.std.proofs.Common.{◌≡◌, ℕ, suc, ◌+◌, ◌-◌, ◌<◌, ◌≤◌, true, List, [], ◌∷◌, ◌++◌, length, map, Option, Some}
use Rattle.std.proofs.Common.{None, refl, sym, ap, subst, arith}
use Rattle.std.specs.Prelude.{slice_get}
use Rattle.std.proofs.lemmas.Option.{slice_get_within}
use Rattle.active_config.specs.Tree.{state_count}
use Rattle.actions.specs.Exprs.{Expr, Stmt}
use Rattle.actions.specs.World.{On, Bare}
use Rattle.checked_chart.specs.declared.parts.ListKind.{ListKind}
use Rattle.checked_chart.specs.Chart.{Chart, Trans, node, list_of, junction}
use Rattle.checked_chart.specs.Reached.{links_of, Reached}
use Rattle.checked_chart.specs.Valid.{IsValid, IsTrans, HasGuard, AreStmts}
use Rattle.checked_chart.proofs.PartsLemmas.{node_valid, junction_valid}
use Rattle.code_language.specs.Sound.{IsProc, AreProcs}
use Rattle.code_language.specs.WellFormed.{Known, known_of}
use Rattle.chart_code.specs.ListProcedures.{search_of}
use Rattle.chart_code.specs.Numbers.{Numbers, ListNumbers}
use Rattle.chart_code.specs.Bodies.{body, procedures_of, code_of_chart}
use Rattle.chart_code.specs.Ends.{end_of, below_count}
use Rattle.chart_code.specs.Keys.{Key, guard_keys, condition_keys, ListOf, JunctionOf, action_keys, trans_keys}
use Rattle.chart_code.specs.Keys.{layout}
use Rattle.chart_code.specs.Places.{total, numbers, list_numbers}
use Rattle.chart_code.specs.ReachedJunctions.{has, reached}
use Rattle.chart_code.proofs.EachFrom.{EachFrom, from_append}
use Rattle.chart_code.proofs.EndsLemmas.{end_after}
use Rattle.chart_code.proofs.Every.{Every, every}
use Rattle.chart_code.proofs.ReachedLemmas.{are_reached, list_valid}
use Rattle.chart_code.proofs.Sizes.{layout_length}
use Rattle.chart_code.proofs.Whole.{procedures_length}
use Rattle.layout_bounds.specs.Sound.{known, SoundStates, SoundLists}
use Rattle.layout_bounds.proofs.SoundStates.{sound_states}
use Rattle.layout_bounds.proofs.SoundLists.{sound_lists}
use Rattle.layout_bounds.proofs.NumberOrder.{process_low}
use Rattle.layout_bounds.proofs.StateCalls.{leave_calls, exit_calls, enter_calls, defaults_calls, arrive_calls}
use Rattle.layout_bounds.proofs.StateCalls.{take_calls, process_calls}
use Rattle.layout_bounds.proofs.ListCalls.{list_calls, list_names, junction_calls, junction_names, junction_ends}

-- the procedures of keys that are sound one by one are sound
procs_from : (c : Chart) (K : Known) (p : ℕ) (keys : List Key)
    → ((k : ℕ) (key : Key) → slice_get keys k ≡ Some key → IsProc K (p + k) (body c key))
    → AreProcs K p (map (body c) keys)
procs_from c K p [] h = tt
procs_from c K p (key ∷ keys) h = (
  let z : p + 0 ≡ p = omega arith in subst (λ i. IsProc K i (body c key)) z (h 0 key refl),
  procs_from c K (suc p) keys (λ k x e.
      let z : p + suc k ≡ suc p + k = omega arith in subst (λ i. IsProc K i (body c x)) z (h (suc k) x e)),
)

module _ (c : Chart) (valid : IsValid c) where
  abbrev N : Numbers
  N = numbers c

  abbrev M : ListNumbers
  M = list_numbers c

  abbrev n : ℕ
  n = total c

  -- what the code knows
  abbrev K : Known
  K = known c n

  -- a procedure of the code is sound
  abbrev IsRight : ℕ → Key → Type 0
  IsRight p key = p < n → IsProc K p (body c key)

  -- the procedures of states
  states : (p : ℕ) → p < n → SoundStates c N n p
  states p there = sound_states c valid N n p there

  -- those of lists
  lists : (p : ℕ) → p < n → SoundLists c n p
  lists p there = sound_lists c valid n p there

  -- ---- the parts of transitions

  -- a guard
  each_guard : (p : ℕ) (o : Option Expr) → HasGuard c o → EachFrom IsRight p (guard_keys o)
  each_guard p None h = tt
  each_guard p (Some e) h = (λ there. (states p there).guard e h, tt)

  -- a condition action
  each_condition : (p : ℕ) (ss : List Stmt) → AreStmts c ss → EachFrom IsRight p (condition_keys ss)
  each_condition p [] h = tt
  each_condition p (s ∷ ss) h = (
    λ there. (states p there).block (On 0) (s ∷ ss) h (process_low c),
    (λ there. (states (suc p) there).block (Bare 0) (s ∷ ss) h (process_low c), tt),
  )

  -- a transition action
  each_action : (p : ℕ) (ss : List Stmt) → AreStmts c ss → EachFrom IsRight p (action_keys ss)
  each_action p [] h = tt
  each_action p (s ∷ ss) h = (λ there. (states p there).block (Bare 0) (s ∷ ss) h (process_low c), tt)

  -- those of a transition
  each_part : (t : Trans) (p : ℕ) → IsTrans c t → EachFrom IsRight p (trans_keys t)
  each_part t p is =
      from_append IsRight p (guard_keys t.guard) (condition_keys t.condition ++ action_keys t.action)
      (each_guard p t.guard is.guard)
      (from_append IsRight (p + length (guard_keys t.guard)) (condition_keys t.condition) (action_keys t.action)
      (each_condition (p + length (guard_keys t.guard)) t.condition is.condition.stmts)
      (each_action (p + length (guard_keys t.guard) + length (condition_keys t.condition)) t.action is.action.stmts))

  -- ---- each kind

  -- how far a state is after another one, where it stands before its end
  close : (s d : ℕ) → s < state_count c.tree → s ≤ d → d < end_of c.tree s → d - s ≤ below_count c.tree s
  close s d lt low high = omega (arith, end_after c.tree valid.tree s lt)

  -- a list
  list_is : (s : ℕ) (kind : ListKind) → s < state_count c.tree → IsRight (N.search s kind) (ListOf s kind)
  list_is s kind lt there =
      (lists (N.search s kind) there).list (search_of N M c.tree s kind) (list_of c s kind) (M.parts s kind)
      (list_valid c valid s kind) (list_calls c valid s kind lt) (list_names c valid s kind lt)

  -- a junction that is reached from it
  junction_is : (s : ℕ) (kind : ListKind) (j : ℕ) → s < state_count c.tree
      → has (reached c (list_of c s kind)) j ≡ true → IsRight (M.junction s kind j) (JunctionOf s kind j)
  junction_is s kind j lt h there =
      (lists (M.junction s kind j) there).junction (search_of N M c.tree s kind) (junction c j) (M.junction_parts j)
      (junction_valid c valid j) (junction_calls c valid s kind lt j r) (junction_names c valid s kind lt j r)
      (junction_ends c valid s kind lt j r)
    where
      r : Reached (links_of c) (list_of c s kind) j
      r = ((are_reached c valid (list_of c s kind) (list_valid c valid s kind)).exact j).0 h

  -- each kind of procedure is sound at its number
  each_is : Every c (IsTrans c) IsRight
  each_is = record {
    end_mark = λ there. (states N.end_mark there).end_mark;
    entry = λ s lt there.
        (states (N.entry s) there).block (Bare s) (node c s).entry (node_valid c valid s).entry.stmts (process_low c);
    during = λ s lt there.
        (states (N.during s) there).block (On s) (node c s).during (node_valid c valid s).during.stmts (process_low c);
    exit_action = λ s lt there.
        (states (N.exit_action s) there).block (Bare s) (node c s).exit (node_valid c valid s).exit.stmts
        (process_low c);
    lists = λ s kind lt. list_valid c valid s kind;
    junctions = λ j lt. junction_valid c valid j;
    parts = each_part;
    leave = λ s lt there. (states (N.leave s) there).leave s lt (leave_calls c valid s);
    exit = λ s lt there. (states (N.exit s) there).exit s lt (exit_calls c valid s lt);
    arrive = λ s d lt low high there. (states (N.arrive s d) there).arrive s d lt (arrive_calls c valid s d);
    search = list_is;
    junction = junction_is;
    defaults = λ s lt there. (states (N.defaults s) there).defaults s lt (defaults_calls c valid s);
    take = λ s d lt low high there.
        (states (N.take s d) there).take s d (take_calls c valid s d (close s d lt low high));
    enter = λ s d lt low high there. (states (N.enter s d) there).enter s d lt (enter_calls c valid s d lt);
    process = λ s lt there. (states (N.process s) there).process s lt (process_calls c valid s lt);
  }

  -- ---- all

  -- each procedure of the layout is sound at its place
  key_is : (p : ℕ) (key : Key) → slice_get (layout c) p ≡ Some key → IsProc K p (body c key)
  key_is p key e =
      let low = slice_get_within (layout c) p key e in
      every c valid (IsTrans c) IsRight each_is p key e (omega (arith, low, layout_length c))

  -- what the code of a chart knows
  known_is : known_of (code_of_chart c) ≡ K
  unfolding code_of_chart
  known_is = ap (λ k. known c k) (procedures_length c)

  -- the code is sound
  pub code_sound : AreProcs (known_of (code_of_chart c)) 0 (code_of_chart c).procedures.procs
  unfolding code_of_chart procedures_of
  code_sound =
      subst (λ k. AreProcs k 0 (map (body c) (layout c))) (sym known_is)
      (procs_from c K 0 (layout c) (λ k key e.
      let z : k ≡ 0 + k = omega arith in subst (λ i. IsProc K i (body c key)) z (key_is k key e)))
