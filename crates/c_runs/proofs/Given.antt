-- The chart whose inputs have other first values is valid, and the code of the chart runs as it.
use Rattle.std.proofs.Common.{◌≡◌, ◌↔◌, ℕ, zero, suc, ◌+◌, ◌<◌, List, [], ◌∷◌, ◌++◌, length, map, Option, Some, None}
use Rattle.std.proofs.Common.{slice_get, IsTrue, Ok, true, refl, sym, ap, ◌∙◌, subst, arith}
use Rattle.std.specs.List.{AllByRecursion, list_all}
use Rattle.std.specs.Option.{unwrap_or}
use Rattle.flow_base.specs.Names.{are_distinct}
use Rattle.flow_base.specs.declared.bounds.Bounds.{Bounds}
use Rattle.active_config.specs.Tree.{state_count}
use Rattle.chart_lexer.specs.Words.{is_name}
use Rattle.actions.specs.declared.expr.Value.{Value}
use Rattle.actions.specs.declared.names.EventDecl.{EventDecl}
use Rattle.actions.specs.declared.names.EventKind.{EventKind}
use Rattle.actions.specs.declared.names.Sort.{Sort}
use Rattle.actions.specs.declared.names.Var.{Var}
use Rattle.actions.specs.Data.{is_mantissa_of, HasInits, IsValueOf}
use Rattle.actions.specs.Exprs.{Expr, Stmt, Assign, Send, SendTo, Emit}
use Rattle.actions.specs.Names.{Names}
use Rattle.actions.specs.Runs.{EventWithInputs, Moment, AreInputValues}
use Rattle.actions.specs.Sorts.{Scope, scope_of, sort_of, assignment_fault}
use Rattle.actions.proofs.StoredLemmas.{mantissa_there, stored_in_range}
use Rattle.checked_chart.specs.declared.parts.Dest.{Dest}
use Rattle.checked_chart.specs.declared.parts.Dest.TheVariants.{State, Junction}
use Rattle.checked_chart.specs.declared.parts.ListKind.{ListKind}
use Rattle.checked_chart.specs.Chart.{Chart, Node, Trans, node, list_of, junction, junction_count, is_remembered}
use Rattle.checked_chart.specs.Chart.{has_history, may_return}
use Rattle.checked_chart.specs.Counts.{IsWithinLimits}
use Rattle.checked_chart.specs.Valid.{declared_names, HasNames, HasFlagMode, CanAssign, IsEventOf, IsTrigger, IsStmt}
use Rattle.checked_chart.specs.Valid.{IsBlock, HasTrigger, HasGuard, IsDest, IsTrans, AreTrans, IsNode, HasStructure}
use Rattle.checked_chart.specs.Valid.{IsValid}
use Rattle.sos_rules.specs.Reactions.{RulesRun}
use Rattle.code_language.specs.Code.{Code}
use Rattle.code_language.specs.Reactions.{CodeRun}
use Rattle.chart_code.specs.Bodies.{procedures_of, code_of_chart}
use Rattle.chart_code.specs.Compiled.{Compiled, ListsCompiled}
use Rattle.chart_code.specs.Places.{numbers, list_numbers}
use Rattle.chart_code.proofs.Runs.{same_runs}
use Rattle.chart_code.proofs.Whole.{compiled, lists_compiled}
use Rattle.c_functions.specs.Inputs.{var_with, vars_with, with_inputs}
use Rattle.c_runs.specs.Claims.{with_first}

-- ---- declarations

names-kept : (given : List (Option Value)) (vars : List Var)
    → map (λ (v : Var). v.name) (vars_with given vars) ≡ map (λ (v : Var). v.name) vars
names-kept [] vars = refl
names-kept (x ∷ given) [] = refl
names-kept (None ∷ given) (v ∷ vars) = ap (λ (l : List (List ℕ)). v.name ∷ l) (names-kept given vars)
names-kept (Some value ∷ given) (v ∷ vars) = ap (λ (l : List (List ℕ)). v.name ∷ l) (names-kept given vars)

sorts-kept : (given : List (Option Value)) (vars : List Var)
    → map (λ (v : Var). v.sort) (vars_with given vars) ≡ map (λ (v : Var). v.sort) vars
sorts-kept [] vars = refl
sorts-kept (x ∷ given) [] = refl
sorts-kept (None ∷ given) (v ∷ vars) = ap (λ (l : List Sort). v.sort ∷ l) (sorts-kept given vars)
sorts-kept (Some value ∷ given) (v ∷ vars) = ap (λ (l : List Sort). v.sort ∷ l) (sorts-kept given vars)

length-kept : (given : List (Option Value)) (vars : List Var) → length (vars_with given vars) ≡ length vars
length-kept [] vars = refl
length-kept (x ∷ given) [] = refl
length-kept (x ∷ given) (v ∷ vars) = ap suc (length-kept given vars)

-- a datum with another first value
record IsThere (given : List (Option Value)) (vars : List Var) (i : ℕ) (v : Var) : Type 0 where
  decl : Var
  there : slice_get (vars_with given vars) i ≡ Some decl
  kind : decl.kind ≡ v.kind
  sort : decl.sort ≡ v.sort

datum-there : (given : List (Option Value)) (vars : List Var) (i : ℕ) (v : Var) → slice_get vars i ≡ Some v
    → IsThere given vars i v
datum-there [] vars i v e = record { decl = v; there = e; kind = refl; sort = refl }
datum-there (x ∷ given) [] i v e = absurd cc
datum-there (None ∷ given) (u ∷ vars) zero v e = record { decl = v; there = e; kind = refl; sort = refl }
datum-there (Some value ∷ given) (u ∷ vars) zero v e =
    let same : u ≡ v = cc in record {
      decl = var_with (Some value) u;
      there = refl;
      kind = ap (λ (v : Var). v.kind) same;
      sort = ap (λ (v : Var). v.sort) same;
    }
datum-there (x ∷ given) (u ∷ vars) (suc i) v e =
    let h = datum-there given vars i v e in
    record { decl = h.decl; there = h.there; kind = h.kind; sort = h.sort }

modes-kept : (given : List (Option Value)) (vars : List Var) → AllByRecursion HasFlagMode vars
    → AllByRecursion HasFlagMode (vars_with given vars)
modes-kept [] vars all = all
modes-kept (x ∷ given) [] all = tt
modes-kept (None ∷ given) (v ∷ vars) all = (all.0, modes-kept given vars all.1)
modes-kept (Some value ∷ given) (v ∷ vars) all = (all.0, modes-kept given vars all.1)

-- a first value is one of its datum's sort
abbrev IsInit : Var → Type 0
IsInit v = IsTrue (is_mantissa_of v.sort v.init)

inits-kept : (n : Names) (given : List (Option Value)) (vars : List Var) (v : ℕ)
    → ((i : ℕ) → slice_get n.vars (v + i) ≡ slice_get vars i) → AreInputValues n v given → AllByRecursion IsInit vars
    → AllByRecursion IsInit (vars_with given vars)
inits-kept n [] vars v there values all = all
inits-kept n (x ∷ given) [] v there values all = tt
inits-kept n (None ∷ given) (u ∷ vars) v there values all = (
  all.0,
  inits-kept n given vars (v + 1)
      (λ i. let next : v + 1 + i ≡ v + suc i = omega arith in
      ap (λ (i : ℕ). slice_get n.vars i) next ∙ there (suc i))
      values all.1,
)
inits-kept n (Some value ∷ given) (u ∷ vars) v there values all =
    let plain : v + 0 ≡ v = omega arith in
    let found : Some values.0.0 ≡ Some u =
    sym values.0.1 ∙ ap (λ (i : ℕ). slice_get n.vars i) (sym plain) ∙ there 0 in
    let same : values.0.0 ≡ u = cc in
    let m = mantissa_there u.sort value (subst (λ (x : Var). IsValueOf x.sort value) same values.0.3) in (
      subst (λ (o : Option _). IsTrue (is_mantissa_of u.sort (unwrap_or o u.init))) (sym m.1)
          (stored_in_range u.sort value m.0 m.1),
      inits-kept n given vars (v + 1)
          (λ i. let next : v + 1 + i ≡ v + suc i = omega arith in
          ap (λ (i : ℕ). slice_get n.vars i) next ∙ there (suc i))
          values.1 all.1,
    )

-- ---- a chart with other first values

all-kept : {A : Type 0} (P Q : A → Type 0) (xs : List A) → ((x : A) → P x → Q x) → AllByRecursion P xs
    → AllByRecursion Q xs
all-kept P Q [] h all = tt
all-kept P Q (x ∷ xs) h all = (h x all.0, all-kept P Q xs h all.1)

module _ (given : List (Option Value)) (c : Chart) where
  abbrev c' : Chart
  c' = with_first given c

  scope-same : scope_of c.names ≡ scope_of c'.names
  scope-same =
      ap (λ (sorts : List Sort). record { sorts = sorts; states = length c.names.states })
      (sym (sorts-kept given c.names.vars))

  assign-kept : (v : ℕ) (e : Expr) → CanAssign c.names v e → CanAssign c'.names v e
  assign-kept v e h =
      let d = datum-there given c.names.vars v h.decl h.declared in record {
        expr = h.expr;
        decl = d.decl;
        declared = d.there;
        no_input = λ input. h.no_input (sym d.kind ∙ input);
        sort = h.sort;
        sorted = ap (λ (s : Scope). sort_of s e) (sym scope-same) ∙ h.sorted;
        takes = ap (λ (s : Sort). assignment_fault s h.sort) d.sort ∙ h.takes;
      }

  event-kept : (e : ℕ) (kind : EventKind) → IsEventOf c.names e kind → IsEventOf c'.names e kind
  event-kept e kind h = record { decl = h.decl; declared = h.declared; kind_is = h.kind_is }

  stmt-kept : (s : Stmt) → IsStmt c s → IsStmt c' s
  stmt-kept (Assign v e) h = assign-kept v e h
  stmt-kept (Send e) h = event-kept e _ h
  stmt-kept (SendTo e s) h = (event-kept e _ h.0, h.1)
  stmt-kept (Emit e) h = event-kept e _ h

  block-kept : (block : List Stmt) → IsBlock c block → IsBlock c' block
  block-kept block h = record { stmts = all-kept (IsStmt c) (IsStmt c') block stmt-kept h.stmts; few = h.few }

  trigger-kept : (o : Option ℕ) → HasTrigger c o → HasTrigger c' o
  trigger-kept None h = tt
  trigger-kept (Some e) h = record { decl = h.decl; declared = h.declared; no_output = h.no_output }

  guard-kept : (o : Option Expr) → HasGuard c o → HasGuard c' o
  guard-kept None h = tt
  guard-kept (Some g) h = (h.0, ap (λ (s : Scope). sort_of s g) (sym scope-same) ∙ h.1)

  dest-kept : (d : Dest) → IsDest c d → IsDest c' d
  unfolding junction_count
  dest-kept (State d) h = h
  dest-kept (Junction j) h = h

  trans-kept : (t : Trans) → IsTrans c t → IsTrans c' t
  trans-kept t h = record {
    event = trigger-kept t.event h.event;
    guard = guard-kept t.guard h.guard;
    condition = block-kept t.condition h.condition;
    action = block-kept t.action h.action;
    dest = dest-kept t.dest h.dest;
  }

  list-kept : (list : List Trans) → AreTrans c list → AreTrans c' list
  list-kept list h = all-kept (IsTrans c) (IsTrans c') list trans-kept h

  node-kept : (n : Node) → IsNode c n → IsNode c' n
  node-kept n h = record {
    entry = block-kept n.entry h.entry;
    during = block-kept n.during h.during;
    exit = block-kept n.exit h.exit;
    outer = list-kept n.outer h.outer;
    inner = list-kept n.inner h.inner;
    default = list-kept n.default h.default;
  }

  structure-kept : HasStructure c → HasStructure c'
  unfolding node junction junction_count
  structure-kept h = record {
    children = h.children;
    no_default = h.no_default;
    default = h.default;
    junctions = h.junctions;
    history = h.history;
    leads = h.leads;
  }

  limits-kept : IsWithinLimits c → IsWithinLimits c'
  unfolding node junction junction_count
  limits-kept h =
      let same = length-kept given c.names.vars in record {
        states = h.states;
        depth = h.depth;
        junctions = h.junctions;
        transitions = h.transitions;
        pairs = h.pairs;
        vars = let few = h.vars in omega (arith, same, few);
        events = h.events;
        items = let few = h.items in omega (arith, same, few);
      }

  declared-same : declared_names c'.names ≡ declared_names c.names
  declared-same =
      ap (λ (l : List (List ℕ)). l ++ map (λ (e : EventDecl). e.name) c.names.events) (names-kept given c.names.vars)

  -- it is valid
  pub valid-with : AreInputValues c.names 0 given → IsValid c → IsValid c'
  unfolding node
  valid-with values h = record {
    tree = h.tree;
    state_names = h.state_names;
    nodes_sized = h.nodes_sized;
    names = record {
      states = h.names.states;
      declared = ap (λ (l : List (List ℕ)). list_all is_name l) declared-same ∙ h.names.declared;
      distinct = ap (λ (l : List (List ℕ)). are_distinct l) declared-same ∙ h.names.distinct;
      siblings = h.names.siblings;
    };
    inits = inits-kept c.names given c.names.vars 0
        (λ i. let plain : 0 + i ≡ i = omega arith in ap (λ (i : ℕ). slice_get c.names.vars i) plain) values h.inits;
    flags = modes-kept given c.names.vars h.flags;
    root_outer = h.root_outer;
    root_exit = h.root_exit;
    nodes = all-kept (IsNode c) (IsNode c') c.nodes node-kept h.nodes;
    junctions = all-kept (AreTrans c) (AreTrans c') c.junctions list-kept h.junctions;
    structure = structure-kept h.structure;
    limits = limits-kept h.limits;
  }

  -- the procedures of the chart stand at their numbers for it, too
  compiled-with : IsValid c → Compiled c' (procedures_of c) (numbers c)
  unfolding node is_remembered may_return has_history
  compiled-with valid =
      let h = compiled c valid in record {
        react = h.react;
        start = h.start;
        end_mark = h.end_mark;
        entry = h.entry;
        during = h.during;
        exit_action = h.exit_action;
        leave = h.leave;
        exit = h.exit;
        enter = h.enter;
        defaults = h.defaults;
        arrive = h.arrive;
        take = h.take;
        process = h.process;
      }

  lists-with : IsValid c → ListsCompiled c' (procedures_of c) (numbers c) (list_numbers c)
  unfolding node junction junction_count
  lists-with valid = record {
    by = λ s kind lt.
        let h = (lists_compiled c valid).by s kind lt in record {
          list = h.list;
          parts = h.parts;
          junctions = h.junctions;
          junction_parts = h.junction_parts;
        };
  }

  -- the code of the chart, with these first values, has the runs of the chart with them
  pub code_runs-with : AreInputValues c.names 0 given → IsValid c → (b : Bounds) (events : List EventWithInputs)
      (moments : List Moment) → RulesRun c' b events moments
      ↔ CodeRun (record (code_of_chart c) { names = with_inputs given (code_of_chart c).names }) b events moments
  unfolding code_of_chart
  code_runs-with values valid b events moments =
      same_runs c' (record { tree = c.tree; names = with_inputs given c.names; procedures = procedures_of c })
      (numbers c) (list_numbers c) (valid-with values valid) refl refl (compiled-with valid) (lists-with valid) b events
      moments
