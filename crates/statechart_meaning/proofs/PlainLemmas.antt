-- A chart text without new words, read as a statechart text, stands for itself.
use Rattle.std.proofs.Common.{◌≡◌, ℕ, ◌+◌, suc, Bool, true, false, List, [], ◌∷◌, ◌++◌, map, Option, Some, None, is_some}
use Rattle.std.proofs.Common.{refl, ap, ap₂, ◌∙◌, inl, inr, ◌⊎◌, append-nil, if◌then◌else◌}
use Rattle.std.specs.List.{flat_map}
use Rattle.flow_base.specs.Names.{index_of}
use Rattle.token_grammar.specs.declared.token.Span.{Span}
use Rattle.chart_tree.specs.declared.name.NameText.{NameText}
use Rattle.chart_tree.specs.declared.chart.EventText.{EventText}
use Rattle.chart_tree.specs.Trees as core
use Rattle.statechart_tree.specs.declared.declarations.SourceEvent.{SourceEvent}
use Rattle.statechart_tree.specs.Trees.{State, Trans}
use Rattle.statechart_meaning.specs.Names.{Home, datum_name, counter_name, every_name}
use Rattle.statechart_meaning.specs.Scope.{Declared, Frame, Scope, datum_in, datum_named, frame_of, home_of, state_count}
use Rattle.statechart_meaning.specs.Scope.{or_value, or_text, below_path}
use Rattle.statechart_meaning.specs.Expressions.{expand_expr, meaning_expr}
use Rattle.statechart_meaning.specs.Statements.{expand_stmt, expand_block, meaning_target}
use Rattle.statechart_meaning.specs.Transitions.{Tried, expand_guard, tried, expand_trans, expand_list, expand_junction}
use Rattle.statechart_meaning.specs.Functions.{no_calls}
use Rattle.statechart_meaning.specs.Counting.{counted_in, counted_by, counted_block, counted_guard, counted_trigger}
use Rattle.statechart_meaning.specs.Counting.{counted_trans, counted_events, without, every_trigger, every_cases, recurring}
use Rattle.statechart_meaning.specs.Counting.{ons_in, different_every, Recurring, OnAction}
use Rattle.statechart_meaning.specs.Declared.{Placed, placed_state, placed_below, scope_at, root_home, vars_in, expand_var}
use Rattle.statechart_meaning.specs.Declared.{counters_in, every_in, Counter, EveryCounter, placed, counter_var, every_var}
use Rattle.statechart_meaning.specs.Counters.{reset, every_reset, counting, every_counting, events_of, every_events, next_junctions}
use Rattle.statechart_meaning.specs.States.{expand_entry, expand_placed, expand_state, expand_states, init_stmts, inits_of}
use Rattle.statechart_meaning.specs.Expand.{expand, expand_event, state_place}
use Rattle.statechart_meaning.specs.Plain.{plain_expr, plain_stmt, plain_trigger, plain_guard, plain_trans, plain_junction}
use Rattle.statechart_meaning.specs.Plain.{plain_var, plain_parts, plain_state, plain_states, plain_event}
use Rattle.statechart_meaning.specs.Plain.{plain}
use Rattle.statechart_meaning.proofs.ListLemmas.{map_back, flat_back, flat_none, none_of, flat_both}

-- ---- names

-- each state on the way has no data, or is the statechart
abbrev Bare : List Frame → Type 0
Bare [] = Unit {0}
Bare (f ∷ fs) = ((f.names ≡ []) ⊎ (f.home.path ≡ [])) × Bare fs

-- a datum that is found has its own name
found : (f : Frame) (name : List ℕ) (b : Bool) → is_some (index_of name f.names) ≡ b
    → (f.names ≡ []) ⊎ (f.home.path ≡ [])
    → ((if b then Some (datum_name f.home name) else None) ≡ None)
    ⊎ ((if b then Some (datum_name f.home name) else None) ≡ Some name)
found f name false e h = inl refl
found f name true e (inl none) =
    absurd (let n : is_some (index_of name f.names) ≡ false = ap (λ l. is_some (index_of name l)) none in cc)
found f name true e (inr top) = inr (ap (λ l. Some (named_at l)) top)
  where
    named_at : List (List ℕ) → List ℕ
    named_at l = datum_name (record { path = l; number = f.home.number }) name

pub own_name : (fs : List Frame) → Bare fs → (name : List ℕ)
    → (datum_named fs name ≡ None) ⊎ (datum_named fs name ≡ Some name)
own_name [] h name = inl refl
own_name (f ∷ fs) h name =
    first_or (datum_in f name) (found f name (is_some (index_of name f.names)) refl h.0) (own_name fs h.1 name)
  where
    first_or : (o : Option (List ℕ)) → (o ≡ None) ⊎ (o ≡ Some name)
        → (datum_named fs name ≡ None) ⊎ (datum_named fs name ≡ Some name)
        → (or_text o (datum_named fs name) ≡ None) ⊎ (or_text o (datum_named fs name) ≡ Some name)
    first_or o (inl e) (inl r) = inl (ap (λ o. or_text o (datum_named fs name)) e ∙ r)
    first_or o (inl e) (inr r) = inr (ap (λ o. or_text o (datum_named fs name)) e ∙ r)
    first_or o (inr e) r = inr (ap (λ o. or_text o (datum_named fs name)) e)

-- a name that is read, and a name that is assigned
read_as : (o : Option (List ℕ)) (x : NameText) → (o ≡ None) ⊎ (o ≡ Some x.text)
    → meaning_expr (or_value o None) x ≡ core.Name x
read_as o x (inl e) = ap (λ o. meaning_expr (or_value o None) x) e
read_as o x (inr e) = ap (λ o. meaning_expr (or_value o None) x) e

assigned_as : (o : Option (List ℕ)) (x : NameText) → (o ≡ None) ⊎ (o ≡ Some x.text)
    → meaning_target (or_value o None) x ≡ x
assigned_as o x (inl e) = ap (λ o. meaning_target (or_value o None) x) e
assigned_as o x (inr e) = ap (λ o. meaning_target (or_value o None) x) e

-- ---- in a scope

abbrev declared : List EventText → Declared
declared es = record { enumerations = []; events = map plain_event es; constants = [] }

abbrev scope : List EventText → List Frame → Scope
scope es fs = scope_at (declared es) no_calls fs

module _ (es : List EventText) (fs : List Frame) (h : Bare fs) where
  expr_back : (e : core.Expr) → expand_expr (scope es fs) (plain_expr e) ≡ e
  expr_back (core.Lit lit at) = refl
  expr_back (core.Flag value at) = refl
  expr_back (core.Name name) = read_as (datum_named fs name.text) name (own_name fs h name.text)
  expr_back (core.Active path at) = refl
  expr_back (core.Unary word e at) = ap (λ x. core.Unary word x at) (expr_back e)
  expr_back (core.Binary word l r at) = ap₂ (λ x y. core.Binary word x y at) (expr_back l) (expr_back r)

  stmt_back : (s : core.Stmt) → expand_stmt (scope es fs) (plain_stmt s) ≡ s ∷ []
  stmt_back (core.Assign name e) =
      ap₂ (λ x y. core.Assign x y ∷ []) (assigned_as (datum_named fs name.text) name (own_name fs h name.text))
      (expr_back e)
  stmt_back (core.Send name to) = refl
  stmt_back (core.Emit name) = refl

  block_back : (stmts : List core.Stmt) → expand_block (scope es fs) (map plain_stmt stmts) ≡ stmts
  block_back stmts = flat_back (expand_stmt (scope es fs)) plain_stmt stmt_back stmts

  guard_back : (g : Option core.Guard) → expand_guard (scope es fs) (plain_guard g) ≡ g
  guard_back None = refl
  guard_back (Some g) = ap (λ e. Some (record { expr = e; at = g.at })) (expr_back g.expr)

  tried_back : (e : Option NameText) (g : Option core.Guard)
      → tried (scope es fs) (record { trigger = plain_trigger e; guard = plain_guard g } ∷ [])
      ≡ record { event = e; guard = g } ∷ []
  tried_back None g = ap (λ x. record { event = None; guard = x } ∷ []) (guard_back g)
  tried_back (Some e) None = refl
  tried_back (Some e) (Some g) = ap (λ x. record { event = Some e; guard = x } ∷ []) (guard_back (Some g))

  abbrev with_tried : core.Trans → List core.Stmt → List core.Stmt → List Tried → List core.Trans
  with_tried t cond act xs = map (λ (x : Tried). record {
    at = t.at;
    event = x.event;
    guard = x.guard;
    cond = cond;
    act = act;
    dest = t.dest;
  }) xs

  trans_back : (t : core.Trans) → expand_trans (scope es fs) (plain_trans t) ≡ t ∷ []
  trans_back t =
      ap (with_tried t (expand_block (scope es fs) (map plain_stmt t.cond))
      (expand_block (scope es fs) (map plain_stmt t.act))) (tried_back t.event t.guard)
      ∙ ap₂ (λ cond act. with_tried t cond act (record { event = t.event; guard = t.guard } ∷ [])) (block_back t.cond)
      (block_back t.act)

  list_back : (ts : List core.Trans) → expand_list (scope es fs) (map plain_trans ts) ≡ ts
  list_back ts = flat_back (expand_trans (scope es fs)) plain_trans trans_back ts

  junction_back : (j : core.Junction) → expand_junction (scope es fs) (plain_junction j) ≡ j
  junction_back j = ap (λ ts. record { name = j.name; list = ts }) (list_back j.list)

  junctions_back : (js : List core.Junction) → map (expand_junction (scope es fs)) (map plain_junction js) ++ [] ≡ js
  junctions_back js = append-nil _ ∙ map_back (expand_junction (scope es fs)) plain_junction junction_back js

-- ---- nothing is counted

module _ (es : List SourceEvent) where
  uncounted : (e : core.Expr) → counted_in es (plain_expr e) ≡ []
  uncounted (core.Lit lit at) = refl
  uncounted (core.Flag value at) = refl
  uncounted (core.Name name) = refl
  uncounted (core.Active path at) = refl
  uncounted (core.Unary word e at) = uncounted e
  uncounted (core.Binary word l r at) = none_of (uncounted l) (uncounted r)

  uncounted_stmt : (s : core.Stmt) → counted_by es (plain_stmt s) ≡ []
  uncounted_stmt (core.Assign name e) = uncounted e
  uncounted_stmt (core.Send name to) = refl
  uncounted_stmt (core.Emit name) = refl

  uncounted_block : (stmts : List core.Stmt) → counted_block es (map plain_stmt stmts) ≡ []
  uncounted_block stmts = flat_none (counted_by es) plain_stmt uncounted_stmt stmts

  uncounted_trigger : (e : Option NameText) → counted_trigger es (plain_trigger e) ≡ []
  uncounted_trigger None = refl
  uncounted_trigger (Some e) = refl

  uncounted_guard : (g : Option core.Guard) → counted_guard es (plain_guard g) ≡ []
  uncounted_guard None = refl
  uncounted_guard (Some g) = uncounted g.expr

  uncounted_trans : (t : core.Trans) → counted_trans es (plain_trans t) ≡ []
  uncounted_trans t =
      none_of (none_of (none_of (none_of (uncounted_trigger t.event) (uncounted_guard t.guard)) refl)
      (uncounted_block t.cond)) (uncounted_block t.act)

  uncounted_list : (ts : List core.Trans) → flat_map (counted_trans es) (map plain_trans ts) ≡ []
  uncounted_list ts = flat_none (counted_trans es) plain_trans uncounted_trans ts

  uncounted_parts : (vars : List core.Var) (p : core.Parts) → counted_events es (plain_parts vars p) ≡ []
  uncounted_parts vars p =
      ap (without [])
      (none_of (none_of (none_of (none_of (none_of
      (ap (counted_block es) (append-nil (map plain_stmt p.entry)) ∙ uncounted_block p.entry)
      (ap (counted_block es) (append-nil (map plain_stmt p.during)) ∙ uncounted_block p.during))
      (ap (counted_block es) (append-nil (map plain_stmt p.exit)) ∙ uncounted_block p.exit)) refl)
      (uncounted_list p.inner)) (uncounted_list p.outer))

unrepeated_trigger : (s : Scope) (e : Option NameText) → every_trigger s (plain_trigger e) ≡ []
unrepeated_trigger s None = refl
unrepeated_trigger s (Some e) = refl

unrepeated_list : (s : Scope) (ts : List core.Trans)
    → flat_map (λ (t : Trans). every_cases s t.cases) (map plain_trans ts) ≡ []
unrepeated_list s ts =
    flat_none (λ (t : Trans). every_cases s t.cases) plain_trans
    (λ (t : core.Trans). none_of (unrepeated_trigger s t.event) refl) ts

unrepeated_parts : (s : Scope) (vars : List core.Var) (p : core.Parts) → recurring s (plain_parts vars p) ≡ []
unrepeated_parts s vars p =
    ap (different_every []) (none_of (none_of refl (unrepeated_list s p.inner)) (unrepeated_list s p.outer))

-- ---- the states in order

-- where each state gives nothing, all together do
module _ {A : Type 0} (g : Placed → List A)
    (none : (frames : List Frame) (p : core.Parts) → g (record { frames = frames; parts = plain_parts [] p }) ≡ []) where
  none_below : (above : List Frame) (path : List (List ℕ)) (n : ℕ) (ss : core.States)
      → flat_map g (placed_below above path n (plain_states ss)) ≡ []
  none_below above path n core.NoState = refl
  none_below above path n (core.MoreStates (core.StateOf p states) others) =
      let home : Home = record { path = below_path path (plain_parts [] p); number = n } in
      flat_both g (placed_state above home (plain_state [] (core.StateOf p states))) _
      ∙ none_of
      (none_of (none _ p)
      (none_below (frame_of home (plain_parts [] p) (plain_states states) ∷ above) home.path (suc n) states))
      (none_below above path (n + state_count (plain_state [] (core.StateOf p states))) others)

  -- the statechart alone gives something
  root_alone : (vars : List core.Var) (p : core.Parts) (ss : core.States)
      → flat_map g (placed (plain_state vars (core.StateOf p ss)))
      ≡ g (record { frames = frame_of root_home (plain_parts vars p) (plain_states ss) ∷ []; parts = plain_parts vars p })
  root_alone vars p ss =
      ap (λ ys. g (record {
        frames = frame_of root_home (plain_parts vars p) (plain_states ss) ∷ [];
        parts = plain_parts vars p;
      }) ++ ys)
      (none_below (frame_of root_home (plain_parts vars p) (plain_states ss) ∷ []) [] 1 ss) ∙ append-nil _

-- ---- states

var_back : (es : List EventText) (v : core.Var) → expand_var (declared es) root_home (plain_var v) ≡ v
var_back es v = refl

module _ (es : List EventText) where
  entry_back : (fs : List Frame) → Bare fs → (vars : List core.Var) (p : core.Parts)
      → init_stmts (declared es) (home_of fs) (plain_parts vars p) ≡ []
      → expand_entry true (scope es fs) (record { frames = fs; parts = plain_parts vars p }) ≡ p.entry
  entry_back fs h vars p inits =
      ap₂ (λ x y. x ++ y)
      (none_of (none_of
      (ap (λ l. map reset (map (λ (e : NameText). record { name = counter_name (home_of fs) e.text; event = e }) l))
      (uncounted_parts (map plain_event es) vars p))
      (ap (λ l. map every_reset (map (λ (r : Recurring). record { name = every_name (home_of fs) r.event.text r.number; counts = r }) l))
      (unrepeated_parts (scope es fs) vars p))) inits)
      (ap (expand_block (scope es fs)) (append-nil (map plain_stmt p.entry)) ∙ block_back es fs h p.entry)

  parts_back : (fs : List Frame) → Bare fs → (vars : List core.Var) (p : core.Parts)
      → init_stmts (declared es) (home_of fs) (plain_parts vars p) ≡ []
      → expand_placed true (declared es) no_calls [] [] fs (plain_parts vars p) ≡ p
  parts_back fs h vars p inits = λ i. record {
    name = p.name;
    comp = p.comp;
    entry = entry_back fs h vars p inits i;
    during =
        (ap (expand_block (scope es fs)) (append-nil (map plain_stmt p.during)) ∙ block_back es fs h p.during) i;
    exit = (ap (expand_block (scope es fs)) (append-nil (map plain_stmt p.exit)) ∙ block_back es fs h p.exit) i;
    history = p.history;
    outer = list_back es fs h p.outer i;
    inner = list_back es fs h p.inner i;
    default = list_back es fs h p.default i;
    junctions = junctions_back es fs h p.junctions i;
  }

  -- a state that has no data takes no first values
  no_inits : (path : List (List ℕ)) (n : ℕ) (p : core.Parts)
      → init_stmts (declared es) (record { path = path; number = n }) (plain_parts [] p) ≡ []
  no_inits [] n p = refl
  no_inits (x ∷ xs) n p = no_history p.history
    where
      no_history : (o : Option Span) → inits_of (x ∷ xs) o [] ≡ []
      no_history None = refl
      no_history (Some at) = refl

  states_back : (fs : List Frame) → Bare fs → (path : List (List ℕ)) (n : ℕ) (ss : core.States)
      → expand_states true (declared es) no_calls fs path n (plain_states ss) ≡ ss
  states_back fs h path n core.NoState = refl
  states_back fs h path n (core.MoreStates (core.StateOf p states) others) =
      let home : Home = record { path = below_path path (plain_parts [] p); number = n } in
      let frame = frame_of home (plain_parts [] p) (plain_states states) in
      let here : Bare (frame ∷ fs) = (inl refl, h) in
      ap₂ core.MoreStates
      (ap₂ core.StateOf (parts_back (frame ∷ fs) here [] p (no_inits home.path n p))
      (states_back (frame ∷ fs) here home.path (suc n) states))
      (states_back fs h path (n + state_count (plain_state [] (core.StateOf p states))) others)

-- ---- charts

event_back : (es : List EventText) → map expand_event (map plain_event es) ≡ es
event_back es = map_back expand_event plain_event (λ e. refl) es

module _ (es : List EventText) (vars : List core.Var) (p : core.Parts) (ss : core.States) where
  abbrev root : State
  root = plain_state vars (core.StateOf p ss)

  -- the statechart's frame
  abbrev top : List Frame
  top = frame_of root_home (plain_parts vars p) (plain_states ss) ∷ []

  abbrev bare : Bare top
  bare = (inr refl, tt)

  no_counters : flat_map (counters_in (map plain_event es)) (placed root) ≡ []
  no_counters =
      root_alone (counters_in (map plain_event es)) (λ fs q. none_here fs [] q) vars p ss ∙ none_here top vars p
    where
      none_here : (fs : List Frame) (vars : List core.Var) (q : core.Parts)
          → counters_in (map plain_event es) (record { frames = fs; parts = plain_parts vars q }) ≡ []
      none_here fs vars q =
          ap (map (λ (e : NameText). record { name = counter_name (home_of fs) e.text; event = e }))
          (uncounted_parts (map plain_event es) vars q)

  none_repeated : flat_map (every_in (declared es) no_calls) (placed root) ≡ []
  none_repeated =
      root_alone (every_in (declared es) no_calls) (λ fs q. none_here fs [] q) vars p ss ∙ none_here top vars p
    where
      none_here : (fs : List Frame) (vars : List core.Var) (q : core.Parts)
          → every_in (declared es) no_calls (record { frames = fs; parts = plain_parts vars q }) ≡ []
      none_here fs vars q =
          ap (map (λ (r : Recurring). record { name = every_name (home_of fs) r.event.text r.number; counts = r }))
          (unrepeated_parts (scope es fs) vars q)

  no_ons : flat_map (λ (x : Placed). ons_in x.parts.actions) (placed root) ≡ []
  no_ons = root_alone (λ (x : Placed). ons_in x.parts.actions) (λ fs q. refl) vars p ss

  vars_back : flat_map (vars_in (declared es)) (placed root) ++ [] ++ [] ≡ vars
  vars_back =
      append-nil _ ∙ append-nil _ ∙ root_alone (vars_in (declared es)) (λ fs q. refl) vars p ss
      ∙ map_back (expand_var (declared es) root_home) plain_var (var_back es) vars

  root_back : expand_state true (declared es) no_calls [] root_home [] [] root ≡ core.StateOf p ss
  root_back = ap₂ core.StateOf (parts_back es top bare vars p refl) (states_back es top bare [] 1 ss)

  -- the chart, where these are the counters and the actions for cases
  abbrev made : List Counter → List EveryCounter → List OnAction → core.Chart
  made ks ms os = record {
    events = map expand_event (map plain_event es);
    vars = flat_map (vars_in (declared es)) (placed root) ++ map every_var ms ++ map counter_var ks;
    root =
        expand_state true (declared es) no_calls [] root_home
        (map (counting ks) (events_of ks) ++ map (every_counting ms) (every_events ms))
        (next_junctions ks ms os (state_place root)) root;
  }

  stands : made (flat_map (counters_in (map plain_event es)) (placed root))
      (flat_map (every_in (declared es) no_calls) (placed root))
      (flat_map (λ (x : Placed). ons_in x.parts.actions) (placed root))
      ≡ record { events = es; vars = vars; root = core.StateOf p ss }
  stands =
      ap₂ (λ ks ms. made ks ms (flat_map (λ (x : Placed). ons_in x.parts.actions) (placed root))) no_counters
      none_repeated
      ∙ ap (made [] []) no_ons
      ∙ (λ i. record { events = event_back es i; vars = vars_back i; root = root_back i })

-- a chart without any of the new words, read as a statechart, stands for itself
pub plain_stands_for_itself : (c : core.Chart) → expand (plain c) ≡ c
unfolding expand
plain_stands_for_itself c = whole c.events c.vars c.root
  where
    whole : (es : List EventText) (vars : List core.Var) (s : core.State)
        → expand (plain (record { events = es; vars = vars; root = s }))
        ≡ record { events = es; vars = vars; root = s }
    whole es vars (core.StateOf p ss) = stands es vars p ss
