-- A resolved chart that stands for a valid chart has no faults of types but in first values.
use Rattle.std.proofs.Common.{◌≡◌, ◌≢◌, ℕ, List, [], ◌∷◌, ◌++◌, map, Option, Some, None, Ok, Err, slice_get, flat_map}
use Rattle.std.proofs.Common.{option_map, refl, sym, ap, ap₂, ◌∙◌}
use Rattle.std.specs.List.{AllByRecursion}
use Rattle.token_grammar.specs.declared.token.Span.{Span}
use Rattle.chart_tree.specs.declared.expr.UnWord.{UnWord}
use Rattle.chart_tree.specs.declared.expr.UnWord.TheVariants as unary
use Rattle.chart_tree.specs.declared.expr.BinWord.{BinWord}
use Rattle.chart_tree.specs.declared.first.FaultAt.{FaultAt}
use Rattle.actions.specs.declared.names.EventDecl.{EventDecl}
use Rattle.actions.specs.declared.names.EventKind.{EventKind}
use Rattle.actions.specs.declared.names.EventKind.TheVariants as events
use Rattle.actions.specs.declared.names.Sort.{Sort}
use Rattle.actions.specs.declared.names.Var.{Var}
use Rattle.actions.specs.declared.names.VarKind.{VarKind}
use Rattle.actions.specs.declared.names.VarKind.TheVariants as vars
use Rattle.actions.specs.declared.sort.ExprSort.{ExprSort}
use Rattle.actions.specs.declared.sort.ExprSort.TheVariants as gives
use Rattle.actions.specs.Sorts.{Scope, scope_of, Sorted, with_sort, binary_sort, negative_sort, not_sort, sort_of}
use Rattle.actions.specs.Sorts.{assignment_fault}
use Rattle.checked_chart.specs.Valid as valid
use Rattle.resolved_tree.specs.declared.resolved.Ref.{Ref}
use Rattle.resolved_tree.specs.Resolved.{Expr, Lit, Flag, Name, Active, Unary, Binary, Stmt, Assign, Send, Emit}
use Rattle.resolved_tree.specs.Resolved.{Guard, Trans, Junction, State, Resolved}
use Rattle.resolved_tree.specs.Plain.{plain_expr, op_of, plain_stmt, plain_block, plain_trans, plain_list, plain_node}
use Rattle.resolved_tree.specs.Plain.{plain_names, chart_of}
use Rattle.resolved_tree.specs.Promise.{IsStmt, IsBlock, IsTrans, AreTrans, IsStateOf, KeepsPromise}
use Rattle.chart_types.specs.Types.{sort_at, unary_sort, operator_fault, unary_fault, binary_fault, expr_faults}
use Rattle.chart_types.specs.Types.{no_flag, guard_faults, to_input, unfit, unless_local, unless_output, if_output}
use Rattle.chart_types.specs.Types.{assignment_faults, stmt_faults, block_faults, trigger_faults, trans_faults}
use Rattle.chart_types.specs.Types.{list_faults, inits_faults, state_faults, type_faults}
use Rattle.chart_check.proofs.ListLemmas.{there}
use Rattle.chart_check.proofs.SortLemmas.{HasSort}
use Rattle.chart_check.proofs.DeclLemmas.{decl_kept, scope_kept}

-- ---- lists of faults

both : (xs ys : List FaultAt) → xs ≡ [] → ys ≡ [] → xs ++ ys ≡ []
both xs ys a b = ap₂ (λ (x y : List FaultAt). x ++ y) a b

-- no item has a fault where none has one that f makes something of with P
none_where : {X Y : Type 0} (faults : X → List FaultAt) (Q : X → Type 0) (P : Y → Type 0) (f : X → Y)
    → ((x : X) → Q x → P (f x) → faults x ≡ []) → (xs : List X) → AllByRecursion Q xs → AllByRecursion P (map f xs)
    → flat_map faults xs ≡ []
none_where faults Q P f each [] q p = refl
none_where faults Q P f each (x ∷ xs) q p =
    both (faults x) (flat_map faults xs) (each x q.0 p.0) (none_where faults Q P f each xs q.1 p.1)

-- ---- expressions

operand : (s : Sorted) (f : ExprSort → Sorted) → HasSort (with_sort s f) → HasSort s
operand (Ok sort) f h = (sort, refl)
operand (Err fault) f h = absurd (let e = h.1 in cc)

second : (s t : Sorted) (f : ExprSort → ExprSort → Sorted) → HasSort (with_sort s (λ left. with_sort t (f left)))
    → HasSort t
second (Ok left) t f h = operand t (f left) h
second (Err fault) t f h = absurd (let e = h.1 in cc)

no_operator_fault : (s : Sorted) (at : Span) → HasSort s → operator_fault s at ≡ []
no_operator_fault (Ok sort) at h = refl
no_operator_fault (Err fault) at h = absurd (let e = h.1 in cc)

no_unary_fault : (word : UnWord) (s : Sorted) (at : Span) → HasSort (with_sort s (unary_sort word))
    → unary_fault word s at ≡ []
no_unary_fault word (Ok sort) at h = no_operator_fault (unary_sort word sort) at h
no_unary_fault word (Err fault) at h = refl

no_binary_fault : (word : BinWord) (s t : Sorted) (at : Span)
    → HasSort (with_sort s (λ left. with_sort t (binary_sort (op_of word) left))) → binary_fault word s t at ≡ []
no_binary_fault word (Ok left) (Ok right) at h = no_operator_fault (binary_sort (op_of word) left right) at h
no_binary_fault word (Ok left) (Err fault) at h = refl
no_binary_fault word (Err fault) t at h = refl

-- an expression with a sort has no fault
no_expr_fault : (c : Scope) (e : Expr) → HasSort (sort_at c e) → expr_faults c e ≡ []
unfolding sort_of
no_expr_fault c (Lit lit at) h = refl
no_expr_fault c (Flag value at) h = refl
no_expr_fault c (Name v) h = refl
no_expr_fault c (Active s at) h = refl
no_expr_fault c (Unary unary.Neg e at) h =
    both (expr_faults c e) (unary_fault unary.Neg (sort_at c e) at)
    (no_expr_fault c e (operand (sort_at c e) negative_sort h)) (no_unary_fault unary.Neg (sort_at c e) at h)
no_expr_fault c (Unary unary.Not e at) h =
    both (expr_faults c e) (unary_fault unary.Not (sort_at c e) at)
    (no_expr_fault c e (operand (sort_at c e) not_sort h)) (no_unary_fault unary.Not (sort_at c e) at h)
no_expr_fault c (Binary word a b at) h =
    let s = sort_at c a in
    let t = sort_at c b in
    let rule = binary_sort (op_of word) in
    both (expr_faults c a ++ expr_faults c b) (binary_fault word s t at)
    (both (expr_faults c a) (expr_faults c b) (no_expr_fault c a (operand s (λ left. with_sort t (rule left)) h))
    (no_expr_fault c b (second s t rule h))) (no_binary_fault word s t at h)

-- ---- kinds

no_input_fault : (k : VarKind) (at : Span) → k ≢ vars.Input → to_input k at ≡ []
no_input_fault vars.Input at ne = absurd (ne refl)
no_input_fault vars.Output at ne = refl
no_input_fault vars.Local at ne = refl

no_local_fault : (name : List ℕ) (k : EventKind) (at : Span) → k ≡ events.Local
    → unless_local (Some (record { name = name; kind = k })) at ≡ []
no_local_fault name events.Input at e = absurd cc
no_local_fault name events.Local at e = refl
no_local_fault name events.Output at e = absurd cc

no_output_fault : (name : List ℕ) (k : EventKind) (at : Span) → k ≡ events.Output
    → unless_output (Some (record { name = name; kind = k })) at ≡ []
no_output_fault name events.Input at e = absurd cc
no_output_fault name events.Local at e = absurd cc
no_output_fault name events.Output at e = refl

no_kind_fault : (name : List ℕ) (k : EventKind) (at : Span) → k ≢ events.Output
    → if_output (Some (record { name = name; kind = k })) at ≡ []
no_kind_fault name events.Input at ne = refl
no_kind_fault name events.Local at ne = refl
no_kind_fault name events.Output at ne = absurd (ne refl)

module _ (r : Resolved) (res : KeepsPromise r) where
  -- an expression has in the text the sort that it has in the chart
  sort_back : (e : Expr) (sort : ExprSort) → sort_of (scope_of (plain_names r)) (plain_expr e) ≡ Ok sort
      → sort_at (scope_of r.names) e ≡ Ok sort
  sort_back e sort is = sym (ap (λ (c : Scope). sort_of c (plain_expr e)) (scope_kept r)) ∙ is

  -- ---- statements

  no_send_fault : (e : Ref) → valid.IsEventOf (chart_of r).names e.number events.Local
      → unless_local (slice_get r.names.events e.number) e.at ≡ []
  unfolding chart_of
  no_send_fault e h =
      ap (λ (o : Option EventDecl). unless_local o e.at) h.declared
      ∙ no_local_fault h.decl.name h.decl.kind e.at h.kind_is

  no_emit_fault : (e : Ref) → valid.IsEventOf (chart_of r).names e.number events.Output
      → unless_output (slice_get r.names.events e.number) e.at ≡ []
  unfolding chart_of
  no_emit_fault e h =
      ap (λ (o : Option EventDecl). unless_output o e.at) h.declared
      ∙ no_output_fault h.decl.name h.decl.kind e.at h.kind_is

  no_assign_fault : (v : Ref) (e : Expr) → IsStmt r (Assign v e)
      → valid.CanAssign (plain_names r) v.number (plain_expr e) → stmt_faults r.names (Assign v e) ≡ []
  no_assign_fault v e own h =
      let c = scope_of r.names in
      let found = slice_get r.names.vars v.number in
      let given = sort_back e h.sort h.sorted in
      let decl = there r.names.vars v.number own.0 in
      let k = decl_kept r.names.vars r.inits v.number decl.0 decl.1 in
      let kept = k.declared in
      let declared = h.declared in
      let same : h.decl ≡ k.decl = cc in
      let kind : h.decl.kind ≡ decl.0.kind = ap (λ (d : Var). d.kind) same ∙ k.kind in
      let sort : h.decl.sort ≡ decl.0.sort = ap (λ (d : Var). d.sort) same ∙ k.sort in
      let takes = sym (ap (λ (s : Sort). assignment_fault s h.sort) sort) ∙ h.takes in
      let input = no_input_fault decl.0.kind v.at (λ f. h.no_input (kind ∙ f)) in
      let value = ap (λ o. unfit o v.at) takes in
      both (expr_faults c e) (assignment_faults found (sort_at c e) v.at) (no_expr_fault c e (h.sort, given))
      (ap₂ (λ (x : Option Var) (y : Sorted). assignment_faults x y v.at) decl.1 given
      ∙ both (to_input decl.0.kind v.at) (unfit (assignment_fault decl.0.sort h.sort) v.at) input value)

  no_stmt_fault : (s : Stmt) → IsStmt r s → valid.IsStmt (chart_of r) (plain_stmt s) → stmt_faults r.names s ≡ []
  unfolding chart_of
  no_stmt_fault (Assign v e) own h = no_assign_fault v e own h
  no_stmt_fault (Send e None) own h = no_send_fault e h
  no_stmt_fault (Send e (Some s)) own h = no_send_fault e h.0
  no_stmt_fault (Emit e) own h = no_emit_fault e h

  no_block_fault : (block : List Stmt) → IsBlock r block → valid.IsBlock (chart_of r) (plain_block block)
      → block_faults r.names block ≡ []
  no_block_fault block own h =
      none_where (stmt_faults r.names) (IsStmt r) (valid.IsStmt (chart_of r)) plain_stmt no_stmt_fault block own.stmts
      h.stmts

  -- ---- transitions

  no_trigger_fault : (o : Option Ref) → valid.HasTrigger (chart_of r) (option_map (λ (e : Ref). e.number) o)
      → trigger_faults r.names o ≡ []
  unfolding chart_of
  no_trigger_fault None h = refl
  no_trigger_fault (Some e) h =
      ap (λ (o : Option EventDecl). if_output o e.at) h.declared
      ∙ no_kind_fault h.decl.name h.decl.kind e.at h.no_output

  no_guard_fault : (o : Option Guard) → valid.HasGuard (chart_of r) (option_map (λ (g : Guard). plain_expr g.expr) o)
      → guard_faults r.names o ≡ []
  unfolding chart_of
  no_guard_fault None h = refl
  no_guard_fault (Some g) h =
      let c = scope_of r.names in
      let flag = sort_back g.expr gives.Flag h.1 in
      both (expr_faults c g.expr) (no_flag (sort_at c g.expr) g.at) (no_expr_fault c g.expr (gives.Flag, flag))
      (ap (λ (s : Sorted). no_flag s g.at) flag)

  no_trans_fault : (t : Trans) → IsTrans r t → valid.IsTrans (chart_of r) (plain_trans t) → trans_faults r.names t ≡ []
  no_trans_fault t own h =
      let event = trigger_faults r.names t.event in
      let guard = guard_faults r.names t.guard in
      let cond = block_faults r.names t.cond in
      let act = block_faults r.names t.act in
      both (event ++ guard ++ cond) act
      (both (event ++ guard) cond
      (both event guard (no_trigger_fault t.event h.event) (no_guard_fault t.guard h.guard))
      (no_block_fault t.cond own.cond h.condition))
      (no_block_fault t.act own.act h.action)

  no_list_fault : (ts : List Trans) → AreTrans r ts → valid.AreTrans (chart_of r) (plain_list ts)
      → list_faults r.names ts ≡ []
  no_list_fault ts own h =
      none_where (trans_faults r.names) (IsTrans r) (valid.IsTrans (chart_of r)) plain_trans no_trans_fault ts own h

  -- ---- states and junctions

  no_state_fault : (s : State) → IsStateOf r s → valid.IsNode (chart_of r) (plain_node s)
      → state_faults r.names s ≡ []
  no_state_fault s own h =
      let entry = block_faults r.names s.entry in
      let during = block_faults r.names s.during in
      let exit = block_faults r.names s.exit in
      let outer = list_faults r.names s.outer in
      let inner = list_faults r.names s.inner in
      let default = list_faults r.names s.default in
      let a = both entry during (no_block_fault s.entry own.entry h.entry)
      (no_block_fault s.during own.during h.during) in
      let b = both (entry ++ during) exit a (no_block_fault s.exit own.exit h.exit) in
      let c = both (entry ++ during ++ exit) outer b (no_list_fault s.outer own.outer h.outer) in
      let d = both (entry ++ during ++ exit ++ outer) inner c (no_list_fault s.inner own.inner h.inner) in
      both (entry ++ during ++ exit ++ outer ++ inner) default d (no_list_fault s.default own.default h.default)

  no_states_fault : valid.IsValid (chart_of r) → flat_map (state_faults r.names) r.states ≡ []
  unfolding chart_of
  no_states_fault v =
      none_where (state_faults r.names) (IsStateOf r) (valid.IsNode (chart_of r)) plain_node no_state_fault r.states
      res.states v.nodes

  no_junctions_fault : valid.IsValid (chart_of r)
      → flat_map (λ (j : Junction). list_faults r.names j.list) r.junctions ≡ []
  unfolding chart_of
  no_junctions_fault v =
      none_where (λ (j : Junction). list_faults r.names j.list) (λ (j : Junction). AreTrans r j.list)
      (valid.AreTrans (chart_of r)) (λ (j : Junction). plain_list j.list) (λ j. no_list_fault j.list) r.junctions
      res.junctions v.junctions

  -- no faults of types but in first values
  pub no_type_fault : valid.IsValid (chart_of r) → inits_faults r.names.vars r.inits ≡ [] → type_faults r ≡ []
  unfolding type_faults
  no_type_fault v none =
      let states = flat_map (state_faults r.names) r.states in
      let junctions = flat_map (λ (j : Junction). list_faults r.names j.list) r.junctions in
      both (inits_faults r.names.vars r.inits ++ states) junctions
      (both (inits_faults r.names.vars r.inits) states none (no_states_fault v)) (no_junctions_fault v)
