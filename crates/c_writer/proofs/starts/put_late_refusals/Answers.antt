use Rattle.std.proofs.Common.{sym, ap, ◌∙◌}
use Rattle.std.proofs.lemmas.Result.{on_ok_weaker}
use Rattle.flow_base.specs.Lists.{items_of}
use Rattle.c_functions.specs.Events.{all_inputs}
use Rattle.c_shape.specs.FileShapes.{shape_seen}
use Rattle.c_writer.proofs.RefusalLemmas.{late_lines}
use Rattle.c_writer.proofs.starts.put_late_refusals.Goals as goal

pub returns-else-all_inputs : goal.returns-else-all_inputs
returns-else-all_inputs c =
    on_ok_weaker c.put_refusals.result
    (late_lines (shape_seen c.args.shape.now) (items_of c.args.lines.now) (items_of c.put_refusals.new.lines)
    (sym (c.all_inputs.ensures ∙ ap (λ ds. all_inputs ds) c.items.ensures) ∙ c.if-all_inputs.false))
    c.put_refusals.ensures
