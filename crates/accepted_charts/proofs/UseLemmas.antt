-- Where the names that are used have no fault, their numbers are in range.
use Rattle.std.proofs.Common.{◌≡◌, ℕ, suc, ◌≤◌, ◌<◌, List, [], ◌∷◌, ◌++◌, map, length, Option, Some, None, Bool, true}
use Rattle.std.proofs.Common.{false, arith}
use Rattle.std.specs.Prelude.{if◌then◌else◌}
use Rattle.std.specs.List.{AllByRecursion}
use Rattle.std.proofs.lemmas.List.{length-map}
use Rattle.chart_tree.specs.declared.name.NameText.{NameText}
use Rattle.chart_tree.specs.declared.expr.UnWord.TheVariants as unary
use Rattle.chart_tree.specs.Trees.{Path, Expr, Lit, Flag, Name, Active, Unary, Binary, Stmt, Assign, Send, Emit}
use Rattle.chart_tree.specs.Trees.{Dest, ToState, ToJunction, Guard, Trans, Junction}
use Rattle.canonical_text.specs.Sizes.{enclosing, operators_in}
use Rattle.canonical_text.specs.Terms as terms
use Rattle.checked_chart.specs.Expressions.{operator_count}
use Rattle.chart_places.specs.Placed.{Placed, Owned, owned_by, owned_from, is_earlier, inserted, in_text_order}
use Rattle.chart_places.specs.Scopes.{Scopes, meaning_of, state_at, junction_at}
use Rattle.resolved_tree.specs.Resolved.{Resolved}
use Rattle.resolved_tree.specs.Plain.{plain_expr}
use Rattle.resolved_tree.specs.Promise as promise
use Rattle.resolved_tree.specs.Promise.{IsEvent, IsDatum, IsState, IfThere, IsInRange, IsDest, AreTrans}
use Rattle.chart_scope.specs.Uses.{event_faults, datum_faults, state_faults, junction_faults, declared_ref, state_ref}
use Rattle.chart_scope.specs.Uses.{junction_ref}
use Rattle.chart_scope.specs.Uses.{resolved_expr, resolved_target, resolved_stmt, resolved_trigger, resolved_guard}
use Rattle.chart_scope.specs.Uses.{resolved_dest, resolved_trans}
use Rattle.chart_scope.specs.Uses.{expr_faults, target_faults, stmt_faults, block_faults, trigger_faults, guard_faults}
use Rattle.chart_scope.specs.Uses.{dest_faults, trans_faults, list_faults}
use Rattle.chart_scope.specs.Names.{parts_faults, used_in_states, used_in_junctions}
use Rattle.chart_scope.specs.Resolution.{resolved_state, resolved_states, resolved_junction}
use Rattle.accepted_charts.proofs.ListLemmas.{no_first, no_rest}
use Rattle.accepted_charts.proofs.LiteralLemmas.{literal_kept}

-- the numbers of names without faults are in range
pub record AreThere (p : Scopes) (r : Resolved) : Type 0 where
  pub datum : (name : NameText) → datum_faults (meaning_of p name.text) name.at ≡ [] → IsDatum r (declared_ref p name)
  pub event : (name : NameText) → event_faults (meaning_of p name.text) name.at ≡ [] → IsEvent r (declared_ref p name)
  pub state : (s : ℕ) (path : Path) → terms.IsPath path → state_faults (state_at p s path) ≡ []
      → (0 < (state_ref p s path).number) × IsState r (state_ref p s path)
  pub junction : (s : ℕ) (name : NameText) → junction_faults (junction_at p s name.text) name.at ≡ []
      → (junction_ref p s name).number < length r.junctions

-- ---- operators

-- parentheses count as operators in the text alone
more_enclosing : (b : Bool) (n : ℕ) → n ≤ enclosing b n
more_enclosing true n = omega arith
more_enclosing false n = omega arith

operators_kept : (p : Scopes) (s : ℕ) (e : Expr) → operator_count (plain_expr (resolved_expr p s e)) ≤ operators_in e
operators_kept p s (Lit lit at) = omega arith
operators_kept p s (Flag value at) = omega arith
operators_kept p s (Name name) = omega arith
operators_kept p s (Active path at) = omega arith
operators_kept p s (Unary unary.Neg e at) = omega (arith, operators_kept p s e, more_enclosing)
operators_kept p s (Unary unary.Not e at) = omega (arith, operators_kept p s e, more_enclosing)
operators_kept p s (Binary word l r at) =
    omega (arith, operators_kept p s l, operators_kept p s r, more_enclosing)

module _ (p : Scopes) (r : Resolved) (there : AreThere p r) where
  -- ---- expressions and statements

  expr_in_range : (s : ℕ) (e : Expr) → terms.HasTerms e → expr_faults p s e ≡ [] → IsInRange r (resolved_expr p s e)
  expr_in_range s (Lit lit at) h none = literal_kept lit h
  expr_in_range s (Flag value at) h none = tt
  expr_in_range s (Name name) h none = there.datum name none
  expr_in_range s (Active path at) h none = (there.state s path h none).1
  expr_in_range s (Unary word e at) h none = expr_in_range s e h none
  expr_in_range s (Binary word a b at) h none = (
    expr_in_range s a h.0 (no_first (expr_faults p s a) _ none),
    expr_in_range s b h.1 (no_rest (expr_faults p s a) _ none),
  )

  expr_kept : (s : ℕ) (e : Expr) → terms.IsExpr e → expr_faults p s e ≡ [] → promise.IsExpr r (resolved_expr p s e)
  expr_kept s e h none = record {
    in_range = expr_in_range s e h.terms none;
    operators = omega (arith, operators_kept p s e, h.operators);
  }

  target_kept : (s : ℕ) (to : Option Path) → terms.IfThere terms.IsPath to → target_faults p s to ≡ []
      → IfThere (IsState r) (resolved_target p s to)
  target_kept s None h none = tt
  target_kept s (Some path) h none = (there.state s path h none).1

  stmt_kept : (s : ℕ) (x : Stmt) → terms.IsStmt x → stmt_faults p s x ≡ [] → promise.IsStmt r (resolved_stmt p s x)
  stmt_kept s (Assign name value) h none = (
    there.datum name (no_first (datum_faults (meaning_of p name.text) name.at) _ none),
    expr_kept s value h.1 (no_rest (datum_faults (meaning_of p name.text) name.at) _ none),
  )
  stmt_kept s (Send name to) h none = (
    there.event name (no_first (event_faults (meaning_of p name.text) name.at) _ none),
    target_kept s to h.1 (no_rest (event_faults (meaning_of p name.text) name.at) _ none),
  )
  stmt_kept s (Emit name) h none = there.event name none

  stmts_kept : (s : ℕ) (xs : List Stmt) → AllByRecursion terms.IsStmt xs → block_faults p s xs ≡ []
      → AllByRecursion (promise.IsStmt r) (map (resolved_stmt p s) xs)
  stmts_kept s [] h none = tt
  stmts_kept s (x ∷ xs) h none = (
    stmt_kept s x h.0 (no_first (stmt_faults p s x) _ none),
    stmts_kept s xs h.1 (no_rest (stmt_faults p s x) _ none),
  )

  block_kept : (s : ℕ) (xs : List Stmt) → terms.IsBlock xs → block_faults p s xs ≡ []
      → promise.IsBlock r (map (resolved_stmt p s) xs)
  block_kept s xs h none = record {
    stmts = stmts_kept s xs h.each none;
    few = omega (arith, length-map xs (resolved_stmt p s), h.few);
  }

  -- ---- transitions

  trigger_kept : (event : Option NameText) → trigger_faults p event ≡ []
      → IfThere (IsEvent r) (resolved_trigger p event)
  trigger_kept None none = tt
  trigger_kept (Some name) none = there.event name none

  guard_kept : (s : ℕ) (guard : Option Guard) → terms.IfThere (λ (g : Guard). terms.IsExpr g.expr) guard
      → guard_faults p s guard ≡ [] → IfThere (λ g. promise.IsExpr r g.expr) (resolved_guard p s guard)
  guard_kept s None h none = tt
  guard_kept s (Some g) h none = expr_kept s g.expr h none

  dest_kept : (s : ℕ) (dest : Dest) → terms.IsDest dest → dest_faults p s dest ≡ [] → IsDest r (resolved_dest p s dest)
  dest_kept s (ToState path) h none = there.state s path h none
  dest_kept s (ToJunction name) h none = there.junction s name none

  trans_kept : (s : ℕ) (t : Trans) → terms.IsTrans t → trans_faults p s t ≡ []
      → promise.IsTrans r (resolved_trans p s t)
  trans_kept s t h none =
      let event = trigger_faults p t.event in
      let guard = guard_faults p s t.guard in
      let cond = block_faults p s t.cond in
      let act = block_faults p s t.act in
      let dest = dest_faults p s t.dest in
      let before_dest = no_first (event ++ guard ++ cond ++ act) dest none in
      let before_act = no_first (event ++ guard ++ cond) act before_dest in
      let before_cond = no_first (event ++ guard) cond before_act in
      record {
        event = trigger_kept t.event (no_first event guard before_cond);
        guard = guard_kept s t.guard h.guard (no_rest event guard before_cond);
        cond = block_kept s t.cond h.cond (no_rest (event ++ guard) cond before_act);
        act = block_kept s t.act h.act (no_rest (event ++ guard ++ cond) act before_dest);
        dest = dest_kept s t.dest h.dest (no_rest (event ++ guard ++ cond ++ act) dest none);
      }

  list_kept : (s : ℕ) (ts : List Trans) → AllByRecursion terms.IsTrans ts → list_faults p s ts ≡ []
      → AreTrans r (map (resolved_trans p s) ts)
  list_kept s [] h none = tt
  list_kept s (t ∷ ts) h none = (
    trans_kept s t h.0 (no_first (trans_faults p s t) _ none),
    list_kept s ts h.1 (no_rest (trans_faults p s t) _ none),
  )

  -- ---- states and junctions

  state_kept : (s : ℕ) (x : Placed) → terms.IsParts x.parts → parts_faults p s x.parts ≡ []
      → promise.IsStateOf r (resolved_state p s x)
  state_kept s x h none =
      let entry = block_faults p s x.parts.entry in
      let during = block_faults p s x.parts.during in
      let exit = block_faults p s x.parts.exit in
      let outer = list_faults p s x.parts.outer in
      let inner = list_faults p s x.parts.inner in
      let default = list_faults p s x.parts.default in
      let before_default = no_first (entry ++ during ++ exit ++ outer ++ inner) default none in
      let before_inner = no_first (entry ++ during ++ exit ++ outer) inner before_default in
      let before_outer = no_first (entry ++ during ++ exit) outer before_inner in
      let before_exit = no_first (entry ++ during) exit before_outer in
      record {
        entry = block_kept s x.parts.entry h.entry (no_first entry during before_exit);
        during = block_kept s x.parts.during h.during (no_rest entry during before_exit);
        exit = block_kept s x.parts.exit h.exit (no_rest (entry ++ during) exit before_outer);
        outer = list_kept s x.parts.outer h.outer (no_rest (entry ++ during ++ exit) outer before_inner);
        inner = list_kept s x.parts.inner h.inner (no_rest (entry ++ during ++ exit ++ outer) inner before_default);
        default = list_kept s x.parts.default h.default
            (no_rest (entry ++ during ++ exit ++ outer ++ inner) default none);
      }

  pub states_kept : (s : ℕ) (ps : List Placed) → AllByRecursion (λ (x : Placed). terms.IsParts x.parts) ps
      → used_in_states p s ps ≡ [] → AllByRecursion (promise.IsStateOf r) (resolved_states p s ps)
  states_kept s [] h none = tt
  states_kept s (x ∷ xs) h none = (
    state_kept s x h.0 (no_first (parts_faults p s x.parts) _ none),
    states_kept (suc s) xs h.1 (no_rest (parts_faults p s x.parts) _ none),
  )

  pub junctions_kept : (os : List Owned) → AllByRecursion (λ (o : Owned). terms.IsJunction o.junction) os
      → used_in_junctions p os ≡ []
      → AllByRecursion (λ j. AreTrans r j.list) (map (resolved_junction p) os)
  junctions_kept [] h none = tt
  junctions_kept (o ∷ os) h none = (
    list_kept o.owner o.junction.list h.0.list (no_first (list_faults p o.owner o.junction.list) _ none),
    junctions_kept os h.1 (no_rest (list_faults p o.owner o.junction.list) _ none),
  )

-- ---- the junctions of states, in the order of the text

owned_kept : (s : ℕ) (js : List Junction) → AllByRecursion terms.IsJunction js
    → AllByRecursion (λ (o : Owned). terms.IsJunction o.junction) (owned_by s js)
owned_kept s [] h = tt
owned_kept s (j ∷ js) h = (h.0, owned_kept s js h.1)

all-append : {X : Type 0} (P : X → Type 0) (xs ys : List X) → AllByRecursion P xs → AllByRecursion P ys
    → AllByRecursion P (xs ++ ys)
all-append P [] ys h k = k
all-append P (x ∷ xs) ys h k = (h.0, all-append P xs ys h.1 k)

owned_from_kept : (s : ℕ) (ps : List Placed) → AllByRecursion (λ (x : Placed). terms.IsParts x.parts) ps
    → AllByRecursion (λ (o : Owned). terms.IsJunction o.junction) (owned_from s ps)
owned_from_kept s [] h = tt
owned_from_kept s (x ∷ xs) h =
    all-append (λ (o : Owned). terms.IsJunction o.junction) (owned_by s x.parts.junctions) (owned_from (suc s) xs)
    (owned_kept s x.parts.junctions h.0.junctions) (owned_from_kept (suc s) xs h.1)

inserted_kept : (P : Owned → Type 0) (o : Owned) (os : List Owned) → P o → AllByRecursion P os
    → AllByRecursion P (inserted o os)
inserted_kept P o [] here h = (here, tt)
inserted_kept P o (x ∷ xs) here h =
    at (is_earlier o.junction.name.at x.junction.name.at) (inserted_kept P o xs here h.1)
  where
    at : (b : Bool) → AllByRecursion P (inserted o xs)
        → AllByRecursion P (if b then o ∷ (x ∷ xs) else x ∷ inserted o xs)
    at true rest = (here, h)
    at false rest = (h.0, rest)

order_kept : (P : Owned → Type 0) (done os : List Owned) → AllByRecursion P done → AllByRecursion P os
    → AllByRecursion P (in_text_order done os)
order_kept P done [] h k = h
order_kept P done (o ∷ os) h k = order_kept P (inserted o done) os (inserted_kept P o done k.0 h) k.1

-- the junctions of states that meet their conditions meet theirs
pub placed_junctions_kept : (ps : List Placed) → AllByRecursion (λ (x : Placed). terms.IsParts x.parts) ps
    → AllByRecursion (λ (o : Owned). terms.IsJunction o.junction) (in_text_order [] (owned_from 0 ps))
placed_junctions_kept ps h =
    order_kept (λ (o : Owned). terms.IsJunction o.junction) [] (owned_from 0 ps) tt (owned_from_kept 0 ps h)
