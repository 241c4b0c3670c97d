use Rattle.std.proofs.Common.{[], ◌∷◌, ◌++◌, refl, sym, ap, ◌∙◌}
use Rattle.std.proofs.lemmas.List.{append-nil}
use Rattle.flow_base.specs.Lists.{items_of}
use Rattle.c_subset.specs.Lines.{expr_of, line_of, lines_in, lines_of, else_lines}
use Rattle.c_trees.specs.Blocks.{block_of}
use Rattle.c_trees.specs.Writing.{else_line}
use Rattle.c_trees.proofs.Lists.{else-on}
use Rattle.c_trees.proofs.WriteLemmas.{on-written, if-written, while-written}
use Rattle.c_trees.proofs.writing.+write.Goals as goal

-- ---- statements without parts

pub write-returns-in-End : goal.write-returns-in-End
unfolding lines_of
write-returns-in-End t c = rw c.in-End.is (sym (append-nil (lines_in (items_of c.args.lines.now))))

pub write-returns-in-Set : goal.write-returns-in-Set
unfolding lines_of
write-returns-in-Set t c = rw c.in-Set.is c.write_after.ensures

pub write-returns-in-Store : goal.write-returns-in-Store
unfolding lines_of
write-returns-in-Store t c = rw c.in-Store.is c.write_after-in-Store.ensures

pub write-returns-in-StoreAt : goal.write-returns-in-StoreAt
unfolding lines_of
write-returns-in-StoreAt t c = rw c.in-StoreAt.is c.write_after-in-StoreAt.ensures

pub write-returns-in-Call : goal.write-returns-in-Call
unfolding lines_of
write-returns-in-Call t c = rw c.in-Call.is c.write_after-in-Call.ensures

pub write-returns-in-Select : goal.write-returns-in-Select
unfolding lines_of
write-returns-in-Select t c = rw c.in-Select.is c.write_after-in-Select.ensures

pub write-returns-in-Return : goal.write-returns-in-Return
unfolding lines_of
write-returns-in-Return t c = rw c.in-Return.is c.put.ensures

-- ---- statements with parts

pub write-returns-in_ok-write_second-in-If : goal.write-returns-in_ok-write_second-in-If
write-returns-in_ok-write_second-in-If t c =
    rw c.in-If.is
    (if-written c.write_after-in-If-2.result (lines_in (items_of c.args.lines.now))
    (lines_in (items_of c.write_after-in-If.new.lines)) (lines_in (items_of c.write_second.new.lines))
    (lines_in (items_of c.write_after-in-If-2.new.lines)) (expr_of c.in-If.expr) (block_of c.in-If.first.value)
    (block_of c.in-If.second.value) (block_of c.in-If.rest.value) c.in_ok-write_after-in-If.ensures
    c.in_ok-write_second-in-If.ensures c.write_after-in-If-2.ensures)

pub write-returns-in_ok-write_after-in-While : goal.write-returns-in_ok-write_after-in-While
write-returns-in_ok-write_after-in-While t c =
    rw c.in-While.is
    (while-written c.write_after-in-While-2.result (lines_in (items_of c.args.lines.now))
    (lines_in (items_of c.write_after-in-While.new.lines)) (lines_in (items_of c.write_after-in-While-2.new.lines))
    (expr_of c.in-While.expr) (block_of c.in-While.first.value) (block_of c.in-While.rest.value)
    c.in_ok-write_after-in-While.ensures c.write_after-in-While-2.ensures)

-- ---- a line and a part before others

pub write_after-returns : goal.write_after-returns
write_after-returns t c =
    let l = line_of c.args.line in
    let rest = lines_of (block_of c.args.rest.value) in
    on-written c.write.result (lines_in (items_of c.args.lines.now)) (lines_in (items_of c.put.new.lines))
    (lines_in (items_of c.write.new.lines)) (l ∷ []) rest (l ∷ rest) c.in_ok-put.ensures refl
    (rw c.into_inner.ensures at c.write.ensures)

pub write_second-returns : goal.write_second-returns
write_second-returns t c =
    let b = block_of c.args.second.value in
    on-written c.write.result (lines_in (items_of c.args.lines.now)) (lines_in (items_of c.put_else.new.lines))
    (lines_in (items_of c.write.new.lines)) (else_line c.is_end.result) (lines_of b) (else_lines (lines_of b))
    c.in_ok-put_else.ensures
    (ap (λ e. else_line e ++ lines_of b) (rw c.deref.ensures at c.is_end.ensures) ∙ else-on b)
    (rw c.into_inner.ensures at c.write.ensures)
