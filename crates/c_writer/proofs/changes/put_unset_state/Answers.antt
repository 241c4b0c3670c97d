use Rattle.std.proofs.lemmas.Result.{on_ok_weaker}
use Rattle.flow_base.specs.Lists.{items_of}
use Rattle.c_subset.specs.Lines.{expr_of}
use Rattle.c_shape.specs.FileShapes.{shape_seen}
use Rattle.c_writer.proofs.Changed.{unset_some, unset_none}
use Rattle.c_writer.proofs.changes.put_unset_state.Goals as goal

pub returns-in-Some : goal.returns-in-Some
returns-in-Some c =
    on_ok_weaker c.put_store.result (λ h. unset_some (shape_seen c.args.shape.now) c.args.state
    (items_of c.args.lines.now) (items_of c.put_store.new.lines) c.in-Some.parent c.chosen_field.result (expr_of c.child.result)
    c.in-Some.ensures.parent c.chosen_field.ensures c.child.ensures h) c.put_store.ensures

pub returns-in-None : goal.returns-in-None
returns-in-None c =
    on_ok_weaker c.put_bit_off.result (λ h. unset_none (shape_seen c.args.shape.now) c.args.state
    (items_of c.args.lines.now) (items_of c.put_bit_off.new.lines) c.in-None.ensures.parent h) c.put_bit_off.ensures
