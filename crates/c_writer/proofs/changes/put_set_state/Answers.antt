use Rattle.std.proofs.Common.{◌≡◌, ◌+◌, suc, ap, ◌∙◌, add-one, pos}
use Rattle.std.proofs.lemmas.Result.{on_ok_weaker}
use Rattle.flow_base.specs.Lists.{items_of}
use Rattle.c_subset.specs.Lines.{expr_of}
use Rattle.c_subset.specs.Trees.{Const}
use Rattle.c_shape.specs.FileShapes.{shape_seen}
use Rattle.c_writer.specs.Changes.{child_type}
use Rattle.c_writer.proofs.Changed.{set_some, set_none}
use Rattle.c_writer.proofs.changes.put_set_state.Goals as goal

pub returns-in-Some : goal.returns-in-Some
returns-in-Some c =
    let one : c.args.state + 1 ≡ suc c.args.state = add-one c.args.state in
    on_ok_weaker c.put_store.result (λ h. set_some (shape_seen c.args.shape.now) c.args.state
    (items_of c.args.lines.now) (items_of c.put_store.new.lines) c.in-Some.parent c.chosen_field.result (expr_of c.child.result)
    c.in-Some.ensures.parent c.chosen_field.ensures
    (c.child.ensures ∙ ap (λ n. Const child_type (pos n)) one) h) c.put_store.ensures

pub returns-in-None : goal.returns-in-None
returns-in-None c =
    on_ok_weaker c.put_bit_on.result (λ h. set_none (shape_seen c.args.shape.now) c.args.state
    (items_of c.args.lines.now) (items_of c.put_bit_on.new.lines) c.in-None.ensures.parent h) c.put_bit_on.ensures
