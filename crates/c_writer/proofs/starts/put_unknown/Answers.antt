use Rattle.std.proofs.Common.{◌++◌, [], ◌∷◌, ap, ◌∙◌}
use Rattle.std.proofs.lemmas.Result.{on_ok_weaker}
use Rattle.flow_base.specs.Lists.{items_of}
use Rattle.c_subset.specs.Trees.{CExpr}
use Rattle.c_subset.specs.Lines.{If, lines_in}
use Rattle.c_functions.specs.Starts.{is_unknown_c, no_event_c}
use Rattle.c_shape.specs.FileShapes.{shape_seen}
use Rattle.c_writer.proofs.RefusalLemmas.{part_lines}
use Rattle.c_writer.proofs.starts.put_unknown.Goals as goal

pub returns : goal.returns
returns c =
    let K = shape_seen c.args.shape.now in
    on_ok_weaker c.put-2.result
    (part_lines (items_of c.args.lines.now) (items_of c.put.new.out) (items_of c.put_no_event.new.lines)
    (items_of c.put-2.new.out) (is_unknown_c K) (no_event_c K)
    (c.in_ok-put.ensures ∙ ap (λ (e : CExpr). lines_in (items_of c.args.lines.now) ++ If e ∷ []) c.in_ok-unknown.ensures)
    c.in_ok-put_no_event.ensures)
    c.put-2.ensures
