use Rattle.std.proofs.Common.{◌∙◌, ap, get_or, arith}
use Rattle.std.proofs.lemmas.Result.{on_ok_weaker}
use Rattle.flow_base.specs.Lists.{items_of}
use Rattle.actions.specs.Trees.{expr_of}
use Rattle.actions.specs.declared.names.Var.{Var}
use Rattle.std.specs.Prelude.{List}
use Rattle.c_shape.specs.FileShapes.{shape_seen}
use Rattle.c_expression_writer.proofs.StoreLemmas.{assigned_result, assigned_room}
use Rattle.c_expression_writer.proofs.assignments.write_assign.Goals as goal

pub store_operand-requires-clause-room : goal.store_operand-requires-clause-room
store_operand-requires-clause-room c =
    let few = c.requires.operators in
    assigned_room (shape_seen c.args.shape.now) (items_of c.args.out.now) (items_of c.write_operand.new.out) 7
    (expr_of c.args.expr.now) c.in_ok-operand.operand c.in_ok-operand.ensures (omega (arith, few))

pub returns : goal.returns
returns c =
    on_ok_weaker c.store_operand.result
    (assigned_result (shape_seen c.args.shape.now) (items_of c.args.out.now) (items_of c.write_operand.new.out)
    (items_of c.store_operand.new.out) c.args.datum (expr_of c.args.expr.now) c.index-items-datum.result
    c.in_ok-operand.operand c.requires.datum
    (c.index-items-datum.is
    ∙ ap (λ (l : List Var). get_or l c.args.datum c.index-items-datum.result) c.items.ensures)
    c.in_ok-operand.ensures)
    c.store_operand.ensures
