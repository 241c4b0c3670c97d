use Rattle.std.proofs.Common.{[], ◌∷◌, ◌++◌, refl, sym, ap, ◌∙◌}
use Rattle.std.proofs.lemmas.List.{append-nil}
use Rattle.flow_base.specs.Lists.{items_of}
use Rattle.c_subset.specs.Trees.{End}
use Rattle.c_subset.specs.Lines.{expr_of, exprs_of, line_of, lines_in, lines_of, else_lines}
use Rattle.c_trees.specs.Blocks.{block_of}
use Rattle.c_loops.specs.Loops.{again}
use Rattle.c_trees.specs.Writing.{else_line}
use Rattle.c_trees.proofs.Lists.{else-on}
use Rattle.c_trees.proofs.WriteLemmas.{on-written, if-written, while-written}
use Rattle.c_loops.proofs.OneTurn.{again-ends, again-calls, again-leads, again-stays}
use Rattle.c_loops.proofs.turns.+write_again.Goals as goal

-- ---- statements without parts

pub write_again-returns-in-End : goal.write_again-returns-in-End
unfolding again lines_of
write_again-returns-in-End t c = rw c.in-End.is (sym (append-nil (lines_in (items_of c.args.lines.now))))

pub write_again-returns-in-Set : goal.write_again-returns-in-Set
unfolding again lines_of
write_again-returns-in-Set t c = rw c.in-Set.is c.write_again_after.ensures

pub write_again-returns-in-Store : goal.write_again-returns-in-Store
unfolding again lines_of
write_again-returns-in-Store t c = rw c.in-Store.is c.write_again_after-in-Store.ensures

pub write_again-returns-in-StoreAt : goal.write_again-returns-in-StoreAt
unfolding again lines_of
write_again-returns-in-StoreAt t c = rw c.in-StoreAt.is c.write_again_after-in-StoreAt.ensures

pub write_again-returns-in-Select : goal.write_again-returns-in-Select
unfolding again lines_of
write_again-returns-in-Select t c = rw c.in-Select.is c.write_again_after-in-Select.ensures

pub write_again-returns-in-Return : goal.write_again-returns-in-Return
unfolding again lines_of
write_again-returns-in-Return t c = rw c.in-Return.is c.put-in-Return.ensures

-- ---- calls

pub write_again-returns-then-hands_on : goal.write_again-returns-then-hands_on
unfolding lines_of
write_again-returns-then-hands_on t c =
    let ends = again-ends c.args.number c.in-Call.of c.in-Call.local c.in-Call.function
    (exprs_of (items_of c.in-Call.args)) (block_of c.in-Call.rest.value)
    (sym (rw c.items.ensures at c.hands_on.ensures) ∙ c.if-hands_on.true) in
    rw (c.in-Call.is, ends) (sym (append-nil (lines_in (items_of c.args.lines.now))))

pub write_again-returns-else-hands_on : goal.write_again-returns-else-hands_on
unfolding lines_of
write_again-returns-else-hands_on t c =
    let stays = again-calls c.args.number c.in-Call.of c.in-Call.local c.in-Call.function
    (exprs_of (items_of c.in-Call.args)) (block_of c.in-Call.rest.value)
    (sym (rw c.items.ensures at c.hands_on.ensures) ∙ c.if-hands_on.false) in
    rw (c.in-Call.is, stays) c.write_again_after-in-Call.ensures

-- ---- statements with parts

pub write_again-returns-then-leads_back : goal.write_again-returns-then-leads_back
unfolding lines_of
write_again-returns-then-leads_back t c =
    let e = expr_of c.in-If.expr in
    let a = block_of c.in-If.first.value in
    let b = block_of c.in-If.second.value in
    let rest = block_of c.in-If.rest.value in
    let leads = again-leads c.args.number e a b rest
    (sym (rw (c.deref.ensures, c.deref-in-If.ensures) at c.leads_back.ensures) ∙ c.if-leads_back.true) in
    rw (c.in-If.is, leads)
    (if-written c.put.result (lines_in (items_of c.args.lines.now))
    (lines_in (items_of c.write_again_after-then-leads_back.new.lines))
    (lines_in (items_of c.write_again_else.new.lines)) (lines_in (items_of c.put.new.lines)) e
    (again c.args.number a) (again c.args.number rest) End c.in_ok-write_again_after-in-If.ensures
    c.in_ok-write_again_else-in-If.ensures c.put.ensures)

pub write_again-returns-in_ok-write_second-in-If : goal.write_again-returns-in_ok-write_second-in-If
write_again-returns-in_ok-write_second-in-If t c =
    let e = expr_of c.in-If.expr in
    let a = block_of c.in-If.first.value in
    let b = block_of c.in-If.second.value in
    let rest = block_of c.in-If.rest.value in
    let stays = again-stays c.args.number e a b rest
    (sym (rw (c.deref.ensures, c.deref-in-If.ensures) at c.leads_back.ensures) ∙ c.if-leads_back.false) in
    rw (c.in-If.is, stays)
    (if-written c.write_again_after-in-If.result (lines_in (items_of c.args.lines.now))
    (lines_in (items_of c.write_after.new.lines)) (lines_in (items_of c.write_second.new.lines))
    (lines_in (items_of c.write_again_after-in-If.new.lines)) e a b (again c.args.number rest)
    c.in_ok-write_after-in-If.ensures c.in_ok-write_second-in-If.ensures c.write_again_after-in-If.ensures)

pub write_again-returns-in_ok-write_after-in-While : goal.write_again-returns-in_ok-write_after-in-While
unfolding again
write_again-returns-in_ok-write_after-in-While t c =
    rw c.in-While.is
    (while-written c.write_again_after-in-While.result (lines_in (items_of c.args.lines.now))
    (lines_in (items_of c.write_after-in-While.new.lines))
    (lines_in (items_of c.write_again_after-in-While.new.lines)) (expr_of c.in-While.expr)
    (block_of c.in-While.first.value) (again c.args.number (block_of c.in-While.rest.value))
    c.in_ok-write_after-in-While.ensures c.write_again_after-in-While.ensures)

-- ---- a line and a part before others

pub write_again_after-returns : goal.write_again_after-returns
write_again_after-returns t c =
    let l = line_of c.args.line in
    let rest = lines_of (again c.args.number (block_of c.args.rest.value)) in
    on-written c.write_again.result (lines_in (items_of c.args.lines.now)) (lines_in (items_of c.put.new.lines))
    (lines_in (items_of c.write_again.new.lines)) (l ∷ []) rest (l ∷ rest) c.in_ok-put.ensures refl
    (rw c.into_inner.ensures at c.write_again.ensures)

pub write_again_else-returns : goal.write_again_else-returns
write_again_else-returns t c =
    let b = again c.args.number (block_of c.args.rest.value) in
    on-written c.write_again.result (lines_in (items_of c.args.lines.now)) (lines_in (items_of c.put_else.new.lines))
    (lines_in (items_of c.write_again.new.lines)) (else_line c.is_end_again.result) (lines_of b)
    (else_lines (lines_of b)) c.in_ok-put_else.ensures
    (ap (λ e. else_line e ++ lines_of b) (rw c.deref.ensures at c.is_end_again.ensures) ∙ else-on b)
    (rw c.into_inner.ensures at c.write_again.ensures)
