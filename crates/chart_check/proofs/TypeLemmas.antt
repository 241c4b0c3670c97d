-- Statements, transitions and states without faults of types are valid.
use Rattle.std.proofs.Common.{◌≡◌, ◌≢◌, ℕ, ◌<◌, ◌≤◌, List, [], ◌++◌, length, map, Option, Some, None, Ok, Err}
use Rattle.std.proofs.Common.{slice_get, flat_map, option_map, refl, sym, ap, ap₂, ◌∙◌, subst}
use Rattle.std.specs.List.{AllByRecursion}
use Rattle.std.proofs.lemmas.List.{length-map}
use Rattle.flow_base.specs.declared.chart_limits.TheConstants.{STATEMENT_LIMIT}
use Rattle.token_grammar.specs.declared.token.Span.{Span}
use Rattle.actions.specs.declared.names.EventDecl.{EventDecl}
use Rattle.actions.specs.declared.names.EventKind.{EventKind}
use Rattle.actions.specs.declared.names.EventKind.TheVariants as events
use Rattle.actions.specs.declared.names.Var.{Var}
use Rattle.actions.specs.declared.names.VarKind.{VarKind}
use Rattle.actions.specs.declared.names.VarKind.TheVariants as vars
use Rattle.actions.specs.declared.names.Sort.{Sort}
use Rattle.actions.specs.declared.sort.ExprSort.{ExprSort}
use Rattle.actions.specs.declared.sort.ExprSort.TheVariants as gives
use Rattle.actions.specs.declared.sort.ExprFault.{ExprFault}
use Rattle.actions.specs.Sorts.{Scope, scope_of, Sorted, sort_of, assignment_fault}
use Rattle.checked_chart.specs.Chart as charts
use Rattle.checked_chart.specs.Valid as valid
use Rattle.resolved_tree.specs.declared.resolved.Ref.{Ref}
use Rattle.resolved_tree.specs.declared.resolved.ResolvedDest.{ResolvedDest}
use Rattle.resolved_tree.specs.declared.resolved.ResolvedDest.TheVariants as to
use Rattle.resolved_tree.specs.Resolved.{Expr, Stmt, Assign, Send, Emit, Guard, Trans, Junction, State, Resolved}
use Rattle.resolved_tree.specs.Plain.{plain_expr, plain_stmt, plain_block, plain_dest, plain_trans, plain_list}
use Rattle.resolved_tree.specs.Plain.{plain_node, plain_names, chart_of}
use Rattle.resolved_tree.specs.Promise.{IfThere, IsEvent, IsExpr, IsStmt, IsBlock, IsDest, IsTrans, AreTrans, IsStateOf}
use Rattle.resolved_tree.specs.Promise.{KeepsPromise}
use Rattle.chart_types.specs.Types.{sort_at, expr_faults, no_flag, guard_faults, to_input, unfit, unfit_value}
use Rattle.chart_types.specs.Types.{assignment_faults, unless_local, unless_output, stmt_faults, block_faults}
use Rattle.chart_types.specs.Types.{if_output, trigger_faults, trans_faults, list_faults, state_faults}
use Rattle.chart_check.proofs.ListLemmas.{neither, there, all_faultless}
use Rattle.chart_check.proofs.SortLemmas.{HasSort, literals_fit, expr_sorted}
use Rattle.chart_check.proofs.DeclLemmas.{decl_kept, scope_kept}

-- ---- assignments

not_input : (k : VarKind) (at : Span) → to_input k at ≡ [] → k ≢ vars.Input
not_input vars.Input at none = absurd cc
not_input vars.Output at none = λ e. absurd cc
not_input vars.Local at none = λ e. absurd cc

fits_datum : (o : Option ExprFault) (at : Span) → unfit o at ≡ [] → o ≡ None
fits_datum None at none = refl
fits_datum (Some fault) at none = absurd cc

-- a value without faults can be assigned to the datum
assignable : (o : Option Var) (s : Sorted) (at : Span) (v : Var) (sort : ExprSort) → o ≡ Some v → s ≡ Ok sort
    → assignment_faults o s at ≡ [] → (v.kind ≢ vars.Input) × (assignment_fault v.sort sort ≡ None)
assignable o s at v sort eo es none =
    let same = sym (ap₂ (λ (x : Option Var) (y : Sorted). assignment_faults x y at) eo es) ∙ none in
    let parts = neither (to_input v.kind at) (unfit_value v.sort (Ok sort) at) same in
    (not_input v.kind at parts.0, fits_datum (assignment_fault v.sort sort) at parts.1)

-- ---- events

local_kind : (name : List ℕ) (k : EventKind) (at : Span)
    → unless_local (Some (record { name = name; kind = k })) at ≡ [] → k ≡ events.Local
local_kind name events.Input at none = absurd cc
local_kind name events.Local at none = refl
local_kind name events.Output at none = absurd cc

output_kind : (name : List ℕ) (k : EventKind) (at : Span)
    → unless_output (Some (record { name = name; kind = k })) at ≡ [] → k ≡ events.Output
output_kind name events.Input at none = absurd cc
output_kind name events.Local at none = absurd cc
output_kind name events.Output at none = refl

trigger_kind : (name : List ℕ) (k : EventKind) (at : Span)
    → if_output (Some (record { name = name; kind = k })) at ≡ [] → k ≢ events.Output
trigger_kind name events.Input at none = λ e. absurd cc
trigger_kind name events.Local at none = λ e. absurd cc
trigger_kind name events.Output at none = absurd cc

-- ---- guards

flag_sorted : (s : Sorted) (at : Span) → HasSort s → no_flag s at ≡ [] → s ≡ Ok gives.Flag
flag_sorted (Ok gives.Flag) at h none = refl
flag_sorted (Ok (gives.Number frac size)) at h none = absurd cc
flag_sorted (Err fault) at h none = absurd (let e = h.1 in cc)

module _ (r : Resolved) (res : KeepsPromise r) where
  -- an expression has in the chart the sort that it has in the text
  sort_kept : (e : Expr) (s : Sorted) → sort_at (scope_of r.names) e ≡ s
      → sort_of (scope_of (plain_names r)) (plain_expr e) ≡ s
  sort_kept e s is = ap (λ (c : Scope). sort_of c (plain_expr e)) (scope_kept r) ∙ is

  expr_valid : (e : Expr) → IsExpr r e → valid.IsExpr (plain_expr e)
  expr_valid e h = record { literals = literals_fit r e h.in_range; operators = h.operators }

  sorted : (e : Expr) → IsExpr r e → expr_faults (scope_of r.names) e ≡ [] → HasSort (sort_at (scope_of r.names) e)
  sorted e h none = expr_sorted r res.state_names e h.in_range none

  -- ---- statements

  local_event : (e : Ref) → IsEvent r e → unless_local (slice_get r.names.events e.number) e.at ≡ []
      → valid.IsEventOf r.names e.number events.Local
  local_event e lt none =
      let decl = there r.names.events e.number lt in
      let same = sym (ap (λ (o : Option EventDecl). unless_local o e.at) decl.1) ∙ none in
      record { decl = decl.0; declared = decl.1; kind_is = local_kind decl.0.name decl.0.kind e.at same }

  output_event : (e : Ref) → IsEvent r e → unless_output (slice_get r.names.events e.number) e.at ≡ []
      → valid.IsEventOf r.names e.number events.Output
  output_event e lt none =
      let decl = there r.names.events e.number lt in
      let same = sym (ap (λ (o : Option EventDecl). unless_output o e.at) decl.1) ∙ none in
      record { decl = decl.0; declared = decl.1; kind_is = output_kind decl.0.name decl.0.kind e.at same }

  -- the events of the chart are those of the text
  event_valid : (e : ℕ) (kind : EventKind) → valid.IsEventOf r.names e kind → valid.IsEventOf (chart_of r).names e kind
  unfolding chart_of
  event_valid e kind h = record { decl = h.decl; declared = h.declared; kind_is = h.kind_is }

  assign_valid : (v : Ref) (e : Expr) → IsStmt r (Assign v e) → stmt_faults r.names (Assign v e) ≡ []
      → valid.CanAssign (plain_names r) v.number (plain_expr e)
  assign_valid v e h none =
      let c = scope_of r.names in
      let found = slice_get r.names.vars v.number in
      let parts = neither (expr_faults c e) (assignment_faults found (sort_at c e) v.at) none in
      let given = sorted e h.1 parts.0 in
      let decl = there r.names.vars v.number h.0 in
      let may = assignable found (sort_at c e) v.at decl.0 given.0 decl.1 given.1 parts.1 in
      let k = decl_kept r.names.vars r.inits v.number decl.0 decl.1 in
      record {
        expr = expr_valid e h.1;
        decl = k.decl;
        declared = k.declared;
        no_input = λ f. may.0 (sym k.kind ∙ f);
        sort = given.0;
        sorted = sort_kept e (Ok given.0) given.1;
        takes = ap (λ (s : Sort). assignment_fault s given.0) k.sort ∙ may.1;
      }

  stmt_valid : (s : Stmt) → IsStmt r s → stmt_faults r.names s ≡ [] → valid.IsStmt (chart_of r) (plain_stmt s)
  unfolding chart_of
  stmt_valid (Assign v e) h none = assign_valid v e h none
  stmt_valid (Send e None) h none = event_valid e.number events.Local (local_event e h.0 none)
  stmt_valid (Send e (Some s)) h none = (event_valid e.number events.Local (local_event e h.0 none), h.1)
  stmt_valid (Emit e) h none = event_valid e.number events.Output (output_event e h none)

  block_valid : (block : List Stmt) → IsBlock r block → block_faults r.names block ≡ []
      → valid.IsBlock (chart_of r) (plain_block block)
  block_valid block h none = record {
    stmts = all_faultless (stmt_faults r.names) (IsStmt r) (valid.IsStmt (chart_of r)) plain_stmt stmt_valid block
        h.stmts none;
    few = subst (λ n. n ≤ STATEMENT_LIMIT) (sym (length-map block plain_stmt)) h.few;
  }

  -- ---- transitions

  trigger_of : (e : Ref) → IsEvent r e → if_output (slice_get r.names.events e.number) e.at ≡ []
      → valid.IsTrigger (chart_of r).names e.number
  unfolding chart_of
  trigger_of e lt none =
      let decl = there r.names.events e.number lt in
      let same = sym (ap (λ (o : Option EventDecl). if_output o e.at) decl.1) ∙ none in
      record { decl = decl.0; declared = decl.1; no_output = trigger_kind decl.0.name decl.0.kind e.at same }

  trigger_valid : (o : Option Ref) → IfThere (IsEvent r) o → trigger_faults r.names o ≡ []
      → valid.HasTrigger (chart_of r) (option_map (λ (e : Ref). e.number) o)
  trigger_valid None h none = tt
  trigger_valid (Some e) h none = trigger_of e h none

  guard_valid : (o : Option Guard) → IfThere (λ (g : Guard). IsExpr r g.expr) o → guard_faults r.names o ≡ []
      → valid.HasGuard (chart_of r) (option_map (λ (g : Guard). plain_expr g.expr) o)
  unfolding chart_of
  guard_valid None h none = tt
  guard_valid (Some g) h none =
      let s = sort_at (scope_of r.names) g.expr in
      let parts = neither (expr_faults (scope_of r.names) g.expr) (no_flag s g.at) none in
      let flag = flag_sorted s g.at (sorted g.expr h parts.0) parts.1 in
      (expr_valid g.expr h, sort_kept g.expr (Ok gives.Flag) flag)

  junctions_are : charts.junction_count (chart_of r) ≡ length r.junctions
  unfolding chart_of charts.junction_count
  junctions_are = length-map r.junctions (λ (j : Junction). plain_list j.list)

  dest_valid : (d : ResolvedDest) → IsDest r d → valid.IsDest (chart_of r) (plain_dest d)
  unfolding chart_of
  dest_valid (to.State s) h = h
  dest_valid (to.Junction j) h = subst (λ n. j.number < n) (sym junctions_are) h

  trans_valid : (t : Trans) → IsTrans r t → trans_faults r.names t ≡ [] → valid.IsTrans (chart_of r) (plain_trans t)
  trans_valid t h none =
      let event = trigger_faults r.names t.event in
      let guard = guard_faults r.names t.guard in
      let cond = block_faults r.names t.cond in
      let act = neither (event ++ guard ++ cond) (block_faults r.names t.act) none in
      let blocks = neither (event ++ guard) cond act.0 in
      let first = neither event guard blocks.0 in
      record {
        event = trigger_valid t.event h.event first.0;
        guard = guard_valid t.guard h.guard first.1;
        condition = block_valid t.cond h.cond blocks.1;
        action = block_valid t.act h.act act.1;
        dest = dest_valid t.dest h.dest;
      }

  pub list_valid : (ts : List Trans) → AreTrans r ts → list_faults r.names ts ≡ []
      → valid.AreTrans (chart_of r) (plain_list ts)
  list_valid ts h none =
      all_faultless (trans_faults r.names) (IsTrans r) (valid.IsTrans (chart_of r)) plain_trans trans_valid ts h none

  -- ---- states and junctions

  state_valid : (s : State) → IsStateOf r s → state_faults r.names s ≡ [] → valid.IsNode (chart_of r) (plain_node s)
  state_valid s h none =
      let entry = block_faults r.names s.entry in
      let during = block_faults r.names s.during in
      let exit = block_faults r.names s.exit in
      let outer = list_faults r.names s.outer in
      let inner = list_faults r.names s.inner in
      let a = neither (entry ++ during ++ exit ++ outer ++ inner) (list_faults r.names s.default) none in
      let b = neither (entry ++ during ++ exit ++ outer) inner a.0 in
      let c = neither (entry ++ during ++ exit) outer b.0 in
      let d = neither (entry ++ during) exit c.0 in
      let e = neither entry during d.0 in
      record {
        entry = block_valid s.entry h.entry e.0;
        during = block_valid s.during h.during e.1;
        exit = block_valid s.exit h.exit d.1;
        outer = list_valid s.outer h.outer c.1;
        inner = list_valid s.inner h.inner b.1;
        default = list_valid s.default h.default a.1;
      }

  pub states_valid : flat_map (state_faults r.names) r.states ≡ []
      → AllByRecursion (valid.IsNode (chart_of r)) (map plain_node r.states)
  states_valid none =
      all_faultless (state_faults r.names) (IsStateOf r) (valid.IsNode (chart_of r)) plain_node state_valid r.states
      res.states none

  pub junctions_valid : flat_map (λ (j : Junction). list_faults r.names j.list) r.junctions ≡ []
      → AllByRecursion (valid.AreTrans (chart_of r)) (map (λ (j : Junction). plain_list j.list) r.junctions)
  junctions_valid none =
      all_faultless (λ (j : Junction). list_faults r.names j.list) (λ (j : Junction). AreTrans r j.list)
      (valid.AreTrans (chart_of r)) (λ (j : Junction). plain_list j.list) (λ j. list_valid j.list) r.junctions
      res.junctions none
