-- What is declared is a table where all its tests hold.
use Rattle.std.proofs.Common.{◌≡◌, ℕ, ◌≤◌, ◌&&◌, Bool, true, false, List, [], ◌∷◌, ◌++◌, length}
use Rattle.std.proofs.Common.{map, Option, is_some, refl, sym, ap, ◌∙◌, subst, arith}
use Rattle.std.specs.Prelude.{◌↔◌, IsTrue, IfOk, Result, Ok, Err, nat_le}
use Rattle.std.specs.List.{list_all, AllByRecursion}
use Rattle.std.proofs.lemmas.Bool.{and_parts, and_from}
use Rattle.std.proofs.lemmas.Bool.Decides.{nat_tests}
use Rattle.fixed_point.specs.declared.fitting.Mode.{Mode}
use Rattle.fixed_point.specs.declared.fitting.Mode.TheVariants.{Saturate, Wrap, Error}
use Rattle.flow_base.specs.Lists.{items_of}
use Rattle.flow_base.specs.Names.{are_distinct}
use Rattle.flow_base.specs.declared.chart_limits.TheConstants.{STATE_LIMIT, VARIABLE_LIMIT}
use Rattle.chart_lexer.specs.Words.{is_name}
use Rattle.active_config.specs.Tree.{Tree, IsTree}
use Rattle.active_config.proofs.TestLemmas.{false_where}
use Rattle.actions.specs.Data.{is_mantissa_of}
use Rattle.actions.specs.declared.names.EventDecl.{EventDecl}
use Rattle.actions.specs.declared.names.Sort.{Sort}
use Rattle.actions.specs.declared.names.Sort.TheVariants.{Flag, Number}
use Rattle.actions.specs.declared.names.Var.{Var}
use Rattle.checked_chart.specs.Valid.{HasFlagMode}
use Rattle.code_language.specs.declared.code.RawCode.{RawCode}
use Rattle.code_language.specs.declared.code.RawState.{RawState}
use Rattle.code_language.specs.Acceptance.{IsShallow, AreStates, are_few, are_names, names_of_both}
use Rattle.code_language.specs.Acceptance.{is_flag_mode, has_value, is_declared, has_no_twins, has_parents}
use Rattle.code_language.specs.Code.{code_of, tree_of_states}
use Rattle.code_language.specs.Tables.{IsTable}
use Rattle.code_language.proofs.FaultLemmas.{states_counted}
use Rattle.code_language.proofs.ListLemmas.{list_all-map}
use Rattle.code_language.proofs.TableLemmas.{tree_parents}
use Rattle.code_language.proofs.SiblingLemmas.{siblings_differ, no_twins}

-- ---- the states, with two tests

-- a tree that is not too deep, with different names of siblings, has right states
pub states_are : (states : List RawState) (t : Tree) → (t ≡ tree_of_states states) × IsTree t → IsShallow t
    → has_no_twins states ≡ true → IsTrue true ↔ AreStates states
states_are states t is shallow twins = (
  λ h. record {
    tree = subst IsTree is.0 is.1;
    depth = subst IsShallow is.0 shallow;
    siblings = siblings_differ states twins;
  },
  λ (h : AreStates states). refl,
)

-- one that is too deep has no right states
pub states_deep : (states : List RawState) (t : Tree) → (t ≡ tree_of_states states) × IsTree t → (IsShallow t → ⊥)
    → IsTrue false ↔ AreStates states
states_deep states t is deep = false_where (λ (h : AreStates states). deep (subst IsShallow (sym is.0) h.depth))

-- a test that holds and fails
both_ways : (b : Bool) → b ≡ true → b ≡ false → ⊥
both_ways true t f = absurd (cc f)
both_ways false t f = absurd (cc t)

-- without their parents the states are no tree
pub no_states : (states : List RawState) → has_parents states ≡ false → IsTrue false ↔ AreStates states
no_states states h = false_where (λ (a : AreStates states). both_ways _ (tree_parents states a.tree) h)

-- and with siblings of the same name they are not right
pub no_twinned : (states : List RawState) → has_no_twins states ≡ false → IsTrue false ↔ AreStates states
no_twinned states h = false_where (λ (a : AreStates states). both_ways _ (no_twins states a.tree a.siblings) h)

-- ---- the whole table

-- a test of a limit
le_of : (a b : ℕ) → nat_le a b ≡ true → a ≤ b
le_of a b h = grind (arith, nat_tests)

-- and back
le_test : (a b : ℕ) → a ≤ b → nat_le a b ≡ true
le_test a b h = grind (arith, nat_tests)

-- three tests that all hold
and_assoc : (a b c : Bool) → (a && (b && c)) ≡ ((a && b) && c)
and_assoc true b c = refl
and_assoc false b c = refl

-- NAMEs of the data and the events in one list
all_append : (xs ys : List (List ℕ)) → list_all is_name (xs ++ ys) ≡ (list_all is_name xs && list_all is_name ys)
all_append [] ys = refl
all_append (x ∷ xs) ys = ap (λ b. is_name x && b) (all_append xs ys)
    ∙ and_assoc (is_name x) (list_all is_name xs) (list_all is_name ys)

-- first values and modes
value_of : (sort : Sort) (mode : Mode) → is_flag_mode sort mode ≡ true → sort ≡ Flag → mode ≡ Saturate
value_of Flag Saturate h e = refl
value_of Flag Wrap h e = absurd (cc h)
value_of Flag Error h e = absurd (cc h)
value_of (Number scale) mode h e = absurd (cc e)

-- and back
mode_of : (sort : Sort) (mode : Mode) → (sort ≡ Flag → mode ≡ Saturate) → is_flag_mode sort mode ≡ true
mode_of Flag Saturate h = refl
mode_of Flag Wrap h = absurd (let e = h refl in cc e)
mode_of Flag Error h = absurd (let e = h refl in cc e)
mode_of (Number scale) mode h = refl

-- first values and modes, one by one
inits_of : (vars : List Var) → list_all has_value vars ≡ true
    → AllByRecursion (λ v. IsTrue (is_mantissa_of v.sort v.init)) vars × AllByRecursion HasFlagMode vars
inits_of [] h = (tt, tt)
inits_of (v ∷ vs) h =
    let both = and_parts (has_value v) _ h in
    let here = and_parts (is_mantissa_of v.sort v.init) _ both.0 in
    let rest = inits_of vs both.1 in
    ((here.0, rest.0), (value_of v.sort v.mode here.1, rest.1))

-- and back
values_of : (vars : List Var) → AllByRecursion (λ v. IsTrue (is_mantissa_of v.sort v.init)) vars
    → AllByRecursion HasFlagMode vars → list_all has_value vars ≡ true
values_of [] h k = refl
values_of (v ∷ vs) h k =
    and_from _ _ (and_from _ _ h.0 (mode_of v.sort v.mode k.0)) (values_of vs h.1 k.1)

-- where the rest is declared, names differ and the states are right, the whole is a table
pub table_is : (raw : RawCode) → is_declared raw ≡ true
    → are_distinct (names_of_both (items_of raw.vars) (items_of raw.events)) ≡ true → AreStates (items_of raw.states)
    → IsTable (code_of raw).tree (code_of raw).names
table_is raw h distinct are =
    let states = items_of raw.states in
    let vars = items_of raw.vars in
    let events = items_of raw.events in
    let a = and_parts (are_few (length states) (length vars) (length events)) _ h in
    let b = and_parts (are_names states vars events) _ a.1 in
    let few = and_parts (nat_le (length states) STATE_LIMIT) _ a.0 in
    let fewer = and_parts (nat_le (length vars) VARIABLE_LIMIT) _ few.1 in
    let n1 = and_parts (list_all (λ (s : RawState). is_name s.name) states) _ b.0 in
    let n2 = and_parts (list_all (λ (v : Var). is_name v.name) vars) _ n1.1 in
    let values = inits_of vars b.1 in
    let count = states_counted states in
    let in_limit = le_of (length states) STATE_LIMIT few.0 in
    record {
      tree = are.tree;
      states = omega (arith, count, in_limit);
      depth = are.depth;
      vars = le_of _ _ fewer.0;
      events = le_of _ _ fewer.1;
      names = record {
        states = list_all-map is_name (λ (s : RawState). s.name) states ∙ n1.0;
        declared = all_append (map (λ (v : Var). v.name) vars) (map (λ (e : EventDecl). e.name) events)
            ∙ and_from _ _ (list_all-map is_name (λ (v : Var). v.name) vars ∙ n2.0)
            (list_all-map is_name (λ (e : EventDecl). e.name) events ∙ n2.1);
        distinct = distinct;
        siblings = are.siblings;
      };
      inits = values.0;
      flags = values.1;
    }

-- and of a table the rest is declared
pub table_declared : (raw : RawCode) → IsTable (code_of raw).tree (code_of raw).names → is_declared raw ≡ true
table_declared raw h =
    let states = items_of raw.states in
    let vars = items_of raw.vars in
    let events = items_of raw.events in
    let count = states_counted states in
    let in_limit = h.states in
    let few : length states ≤ STATE_LIMIT = omega (arith, count, in_limit) in
    let names = and_parts (list_all is_name (map (λ (v : Var). v.name) vars)) _
    (sym (all_append (map (λ (v : Var). v.name) vars) (map (λ (e : EventDecl). e.name) events)) ∙ h.names.declared) in
    and_from _ _ (and_from _ _ (le_test _ _ few) (and_from _ _ (le_test _ _ h.vars) (le_test _ _ h.events)))
    (and_from _ _ (and_from _ _ (sym (list_all-map is_name (λ (s : RawState). s.name) states) ∙ h.names.states)
    (and_from _ _ (sym (list_all-map is_name (λ (v : Var). v.name) vars) ∙ names.0)
    (sym (list_all-map is_name (λ (e : EventDecl). e.name) events) ∙ names.1)))
    (values_of vars h.inits h.flags))

-- and the states are right
pub table_states : (raw : RawCode) → IsTable (code_of raw).tree (code_of raw).names → AreStates (items_of raw.states)
table_states raw h = record { tree = h.tree; depth = h.depth; siblings = h.names.siblings }

-- where the rest isn't declared there is no table
pub no_table : (raw : RawCode) → is_declared raw ≡ false → IsTrue false ↔ IsTable (code_of raw).tree (code_of raw).names
no_table raw h =
    false_where (λ (a : IsTable (code_of raw).tree (code_of raw).names). both_ways _ (table_declared raw a) h)

-- nor where a name stands twice
pub no_distinct : (raw : RawCode) → are_distinct (names_of_both (items_of raw.vars) (items_of raw.events)) ≡ false
    → IsTrue false ↔ IsTable (code_of raw).tree (code_of raw).names
no_distinct raw h =
    false_where (λ (a : IsTable (code_of raw).tree (code_of raw).names). both_ways _ a.names.distinct h)

-- where it is declared and names differ the states decide
pub table_by_states : (raw : RawCode) (b : Bool) → is_declared raw ≡ true
    → are_distinct (names_of_both (items_of raw.vars) (items_of raw.events)) ≡ true
    → IsTrue b ↔ AreStates (items_of raw.states) → IsTrue b ↔ IsTable (code_of raw).tree (code_of raw).names
table_by_states raw b h distinct s = (
  λ e. table_is raw h distinct (s.0 e),
  λ (a : IsTable (code_of raw).tree (code_of raw).names). s.1 (table_states raw a),
)

-- the same for what a call gives
pub table_result : {T E : Type 0} (raw : RawCode) (r : Result (Option T) E) → is_declared raw ≡ true
    → are_distinct (names_of_both (items_of raw.vars) (items_of raw.events)) ≡ true
    → IfOk r (λ o. IsTrue (is_some o) ↔ AreStates (items_of raw.states))
    → IfOk r (λ o. IsTrue (is_some o) ↔ IsTable (code_of raw).tree (code_of raw).names)
table_result raw (Ok o) h distinct s = table_by_states raw (is_some o) h distinct s
table_result raw (Err e) h distinct s = tt
