use Rattle.std.proofs.Common.{◌+◌, ◌<◌, ℕ, refl, sym, ap, subst, ◌∙◌, arith}
use Rattle.std.proofs.lemmas.Result.{IfOk-weaker}
use Rattle.flow_base.specs.Lists.{items_of}
use Rattle.actions.specs.Sorts.{scope_of}
use Rattle.actions.specs.Trees.{expr_of}
use Rattle.c_shape.specs.FileShapes.{shape_seen}
use Rattle.c_expression_writer.proofs.Steps.{at_expr, negated_result, denied_result, joined_result, decided_result}
use Rattle.c_expression_writer.proofs.Steps.{literal_sorted, active_there, neg_can}
use Rattle.c_expression_writer.proofs.Steps.{not_can, bin_can, own_sorted, join_room}
use Rattle.c_expression_writer.proofs.Steps.{neg_read, not_read, bin_read, neg_less, not_less, left_less, split}
use Rattle.c_expression_writer.proofs.expressions.+write_operand.Goals as goal

-- ---- without operands

pub literal-requires : goal.literal-requires
literal-requires t c =
    literal_sorted (scope_of (shape_seen c.args.shape.now).names) (expr_of c.args.expr.now) c.in-Lit.number
    (ap expr_of c.in-Lit.is) c.requires.sorted

pub active-requires : goal.active-requires
active-requires t c =
    subst (λ (n : ℕ). c.in-Active.state < n) c.args.shape.now.parts.named
    (active_there (scope_of (shape_seen c.args.shape.now).names) (expr_of c.args.expr.now) c.in-Active.state
    (ap expr_of c.in-Active.is) c.requires.sorted)

pub returns-in-Lit : goal.returns-in-Lit
returns-in-Lit t c =
    at_expr (shape_seen c.args.shape.now) _ _ c.args.next (expr_of c.args.expr.now) _ _ (ap expr_of c.in-Lit.is)
    (c.literal.ensures (shape_seen c.args.shape.now) (items_of c.args.out.now))

pub returns-in-Flag : goal.returns-in-Flag
returns-in-Flag t c =
    at_expr (shape_seen c.args.shape.now) _ _ c.args.next (expr_of c.args.expr.now) _ _ (ap expr_of c.in-Flag.is)
    (c.flag.ensures (shape_seen c.args.shape.now) (items_of c.args.out.now))

pub returns-in-Read : goal.returns-in-Read
returns-in-Read t c =
    at_expr (shape_seen c.args.shape.now) _ _ c.args.next (expr_of c.args.expr.now) _ _ (ap expr_of c.in-Read.is)
    (c.datum.ensures (items_of c.args.out.now))

pub returns-in-Active : goal.returns-in-Active
returns-in-Active t c =
    IfOk-weaker c.active.result _ _
    (λ x h. at_expr (shape_seen c.args.shape.now) _ _ c.args.next (expr_of c.args.expr.now) _ x
    (ap expr_of c.in-Active.is)
    (h (items_of c.args.out.now)))
    c.active.ensures

-- ---- one operand

pub write_operand-requires : goal.write_operand-requires
write_operand-requires t c =
    let e = expr_of c.args.expr.now in let a = expr_of c.deref.result.now in
    let whole = neg_read e c.deref.result.now c.in-Neg.inner.value (ap expr_of c.in-Neg.is) c.deref.ensures in
    let can = neg_can (shape_seen c.args.shape.now) c.args.next e a whole
    (record { sorted = c.requires.sorted; room = c.requires.room }) in
    let less = neg_less e a whole in (omega (arith, less), (can.sorted, can.room))

pub write_operand-requires-in-Not : goal.write_operand-requires-in-Not
write_operand-requires-in-Not t c =
    let e = expr_of c.args.expr.now in let a = expr_of c.deref-in-Not.result.now in
    let whole = not_read e c.deref-in-Not.result.now c.in-Not.inner.value
    (ap expr_of c.in-Not.is) c.deref-in-Not.ensures in
    let can = not_can (shape_seen c.args.shape.now) c.args.next e a whole
    (record { sorted = c.requires.sorted; room = c.requires.room }) in
    let less = not_less e a whole in (omega (arith, less), (can.sorted, can.room))

pub returns-in_ok-inner-in-Neg : goal.returns-in_ok-inner-in-Neg
returns-in_ok-inner-in-Neg t c =
    let K = shape_seen c.args.shape.now in let e = expr_of c.args.expr.now in let mid = items_of
    c.write_operand.new.out in
    IfOk-weaker c.negated.result _ _
    (λ x h. negated_result K (items_of c.args.out.now) mid c.args.next e (expr_of c.deref.result.now)
    c.in_ok-inner-in-Neg.inner x
    (neg_read e c.deref.result.now c.in-Neg.inner.value (ap expr_of c.in-Neg.is) c.deref.ensures)
    (record { sorted = c.requires.sorted; room = c.requires.room }) c.in_ok-inner-in-Neg.ensures (h K mid))
    c.negated.ensures

pub returns-in_ok-inner-in-Not : goal.returns-in_ok-inner-in-Not
returns-in_ok-inner-in-Not t c =
    let K = shape_seen c.args.shape.now in let e = expr_of c.args.expr.now in
    let mid = items_of c.write_operand-in-Not.new.out in
    IfOk-weaker c.denied.result _ _
    (λ x h. denied_result K (items_of c.args.out.now) mid c.args.next e (expr_of c.deref-in-Not.result.now)
    c.in_ok-inner-in-Not.inner x
    (not_read e c.deref-in-Not.result.now c.in-Not.inner.value (ap expr_of c.in-Not.is) c.deref-in-Not.ensures)
    (record { sorted = c.requires.sorted; room = c.requires.room }) c.in_ok-inner-in-Not.ensures (h K mid))
    c.denied.ensures

-- ---- two operands

pub write_operand-requires-in-Bin : goal.write_operand-requires-in-Bin
write_operand-requires-in-Bin t c =
    let e = expr_of c.args.expr.now in let a = expr_of c.deref-in-Bin.result.now in
    let b = expr_of c.in-Bin.right.value in
    let whole = bin_read c.in-Bin.op e c.deref-in-Bin.result.now c.in-Bin.right.value c.in-Bin.left.value
    c.in-Bin.right.value (ap expr_of c.in-Bin.is) c.deref-in-Bin.ensures refl in
    let parts = bin_can (shape_seen c.args.shape.now) c.args.next c.in-Bin.op e a b whole
    (record { sorted = c.requires.sorted; room = c.requires.room }) in
    let less = left_less c.in-Bin.op e a b whole in (omega (arith, less), (parts.left.sorted, parts.left.room))

pub overflow_add-local : goal.overflow_add-local
overflow_add-local t c =
    let at = split (shape_seen c.args.shape.now) (items_of c.args.out.now) (items_of c.write_operand-in-Bin.new.out)
    c.args.next c.in-Bin.op (expr_of c.args.expr.now) c.deref-in-Bin.result.now c.deref-right.result.now
    c.in-Bin.left.value c.in-Bin.right.value c.in_ok-first-in-Bin.first (ap expr_of c.in-Bin.is) c.deref-in-Bin.ensures
    c.deref-right.ensures (record { sorted = c.requires.sorted; room = c.requires.room }) c.in_ok-first-in-Bin.ensures
    in
    let own = at.room.own in let count = c.local_count-locals.ensures.locals in omega (arith, own, count)

pub write_operand-requires-then-is_lazy : goal.write_operand-requires-then-is_lazy
write_operand-requires-then-is_lazy t c =
    let at = split (shape_seen c.args.shape.now) (items_of c.args.out.now) (items_of c.write_operand-in-Bin.new.out)
    c.args.next c.in-Bin.op (expr_of c.args.expr.now) c.deref-in-Bin.result.now c.deref-right.result.now
    c.in-Bin.left.value c.in-Bin.right.value c.in_ok-first-in-Bin.first (ap expr_of c.in-Bin.is) c.deref-in-Bin.ensures
    c.deref-right.ensures (record { sorted = c.requires.sorted; room = c.requires.room }) c.in_ok-first-in-Bin.ensures
    in let less = at.less in (omega (arith, less), (at.parts.right_sorted, at.room.right))

pub decided-requires : goal.decided-requires
decided-requires t c =
    let at = split (shape_seen c.args.shape.now) (items_of c.args.out.now) (items_of c.write_operand-in-Bin.new.out)
    c.args.next c.in-Bin.op (expr_of c.args.expr.now) c.deref-in-Bin.result.now c.deref-right.result.now
    c.in-Bin.left.value c.in-Bin.right.value c.in_ok-first-in-Bin.first (ap expr_of c.in-Bin.is) c.deref-in-Bin.ensures
    c.deref-right.ensures (record { sorted = c.requires.sorted; room = c.requires.room }) c.in_ok-first-in-Bin.ensures
    in
    let own = at.room.own in let count = c.local_count-locals.ensures.locals in omega (arith, own, count)

pub returns-then-is_lazy : goal.returns-then-is_lazy
returns-then-is_lazy t c =
    let at = split (shape_seen c.args.shape.now) (items_of c.args.out.now) (items_of c.write_operand-in-Bin.new.out)
    c.args.next c.in-Bin.op (expr_of c.args.expr.now) c.deref-in-Bin.result.now c.deref-right.result.now
    c.in-Bin.left.value c.in-Bin.right.value c.in_ok-first-in-Bin.first (ap expr_of c.in-Bin.is) c.deref-in-Bin.ensures
    c.deref-right.ensures (record { sorted = c.requires.sorted; room = c.requires.room }) c.in_ok-first-in-Bin.ensures
    in
    decided_result (shape_seen c.args.shape.now) (items_of c.args.out.now) (items_of c.write_operand-in-Bin.new.out)
    (items_of c.begin_right_side.new.out) (items_of c.write_operand-then-is_lazy.new.out)
    (items_of c.end_right_side.new.out) c.args.next c.local_count-locals.result
    (c.in_ok-first-in-Bin.first.next + c.local_count-locals.result) c.in-Bin.op (expr_of c.args.expr.now)
    (expr_of c.deref-in-Bin.result.now) (expr_of c.deref-right.result.now) c.in_ok-first-in-Bin.first
    c.in_ok-second-in-Bin.second c.decided.result at.whole at.can (sym c.is_lazy.ensures ∙ c.if-is_lazy.true)
    c.local_count-locals.ensures.locals refl c.in_ok-first-in-Bin.ensures c.in_ok-begin_right_side-in-Bin.ensures
    c.in_ok-second-in-Bin.ensures c.in_ok-end_right_side-in-Bin.ensures
    (record { expr = c.decided.ensures.expr; sort = c.decided.ensures.sort; next = c.decided.ensures.next })

pub write_operand-requires-in-Bin-2 : goal.write_operand-requires-in-Bin-2
write_operand-requires-in-Bin-2 t c =
    let at = split (shape_seen c.args.shape.now) (items_of c.args.out.now) (items_of c.write_operand-in-Bin.new.out)
    c.args.next c.in-Bin.op (expr_of c.args.expr.now) c.deref-in-Bin.result.now c.deref-right.result.now
    c.in-Bin.left.value c.in-Bin.right.value c.in_ok-first-in-Bin.first (ap expr_of c.in-Bin.is) c.deref-in-Bin.ensures
    c.deref-right.ensures (record { sorted = c.requires.sorted; room = c.requires.room }) c.in_ok-first-in-Bin.ensures
    in let less = at.less in (omega (arith, less), (at.parts.right_sorted, at.room.right))

pub join-requires-clause-sorted : goal.join-requires-clause-sorted
join-requires-clause-sorted t c =
    let at = split (shape_seen c.args.shape.now) (items_of c.args.out.now) (items_of c.write_operand-in-Bin.new.out)
    c.args.next c.in-Bin.op (expr_of c.args.expr.now) c.deref-in-Bin.result.now c.deref-right.result.now
    c.in-Bin.left.value c.in-Bin.right.value c.in_ok-first-in-Bin.first (ap expr_of c.in-Bin.is) c.deref-in-Bin.ensures
    c.deref-right.ensures (record { sorted = c.requires.sorted; room = c.requires.room }) c.in_ok-first-in-Bin.ensures
    in
    own_sorted (shape_seen c.args.shape.now) (items_of c.args.out.now) (items_of c.write_operand-in-Bin.new.out)
    (items_of c.write_operand-in-Bin-2.new.out) c.args.next c.in_ok-first-in-Bin.first.next c.in-Bin.op
    (expr_of c.deref-in-Bin.result.now) (expr_of c.deref-right.result.now) c.in_ok-first-in-Bin.first
    c.in-Ok.second at.parts c.in_ok-first-in-Bin.ensures c.in-Ok.ensures

pub join-requires-clause-room : goal.join-requires-clause-room
join-requires-clause-room t c =
    let at = split (shape_seen c.args.shape.now) (items_of c.args.out.now) (items_of c.write_operand-in-Bin.new.out)
    c.args.next c.in-Bin.op (expr_of c.args.expr.now) c.deref-in-Bin.result.now c.deref-right.result.now
    c.in-Bin.left.value c.in-Bin.right.value c.in_ok-first-in-Bin.first (ap expr_of c.in-Bin.is) c.deref-in-Bin.ensures
    c.deref-right.ensures (record { sorted = c.requires.sorted; room = c.requires.room }) c.in_ok-first-in-Bin.ensures
    in
    join_room (shape_seen c.args.shape.now) (items_of c.write_operand-in-Bin.new.out)
    (items_of c.write_operand-in-Bin-2.new.out) c.args.next (expr_of c.deref-right.result.now)
    c.in_ok-first-in-Bin.first c.in-Ok.second at.room c.in-Ok.ensures

pub returns-in-Ok : goal.returns-in-Ok
returns-in-Ok t c =
    let at = split (shape_seen c.args.shape.now) (items_of c.args.out.now) (items_of c.write_operand-in-Bin.new.out)
    c.args.next c.in-Bin.op (expr_of c.args.expr.now) c.deref-in-Bin.result.now c.deref-right.result.now
    c.in-Bin.left.value c.in-Bin.right.value c.in_ok-first-in-Bin.first (ap expr_of c.in-Bin.is) c.deref-in-Bin.ensures
    c.deref-right.ensures (record { sorted = c.requires.sorted; room = c.requires.room }) c.in_ok-first-in-Bin.ensures
    in
    IfOk-weaker c.join.result _ _
    (λ x h. joined_result (shape_seen c.args.shape.now) (items_of c.args.out.now)
    (items_of c.write_operand-in-Bin.new.out) (items_of c.write_operand-in-Bin-2.new.out) (items_of c.join.new.out)
    c.args.next c.local_count-locals.result c.in-Bin.op (expr_of c.args.expr.now) (expr_of c.deref-in-Bin.result.now)
    (expr_of c.deref-right.result.now) c.in_ok-first-in-Bin.first c.in-Ok.second x at.whole at.can
    (sym c.is_lazy.ensures ∙ c.if-is_lazy.false) c.local_count-locals.ensures.locals c.in_ok-first-in-Bin.ensures
    c.in-Ok.ensures h)
    c.join.ensures
