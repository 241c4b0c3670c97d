use Rattle.std.proofs.lemmas.Result.{on_ok_weaker}
use Rattle.std.proofs.Common.{◌∙◌, ap}
use Rattle.flow_base.specs.Lists.{items_of}
use Rattle.c_subset.specs.Trees.{CExpr, Field, Compare}
use Rattle.c_subset.specs.declared.trees.Comparison.TheVariants.{IsAtLeast}
use Rattle.c_subset.specs.Lines.{expr_of}
use Rattle.c_functions.specs.Events.{leading_events}
use Rattle.c_functions.specs.Plans.{event_local}
use Rattle.c_functions.specs.Starts.{late_refusals_c}
use Rattle.c_shape.specs.FileShapes.{shape_seen}
use Rattle.c_writer.proofs.RefusalLemmas.{part_lines, refuse_lines}
use Rattle.c_writer.proofs.starts.put_refuse.Goals as goal

pub returns : goal.returns
returns c =
    let K = shape_seen c.args.shape.now in
    let late = expr_of c.in_ok-late.late in
    on_ok_weaker c.put-2.result
    (λ close. refuse_lines K (items_of c.args.lines.now) (items_of c.put-2.new.out) c.leading_events.result late
    (c.leading_events.ensures ∙ ap (λ ds. leading_events ds) c.items.ensures) c.if-leading_events-eq0.false
    (c.in_ok-late.ensures ∙ ap (λ (e : CExpr). Compare IsAtLeast e (Field c.ready_field.result)) c.local.ensures
    ∙ ap (λ f. Compare IsAtLeast event_local (Field f)) c.ready_field.ensures)
    (part_lines (items_of c.args.lines.now) (items_of c.put.new.out) (items_of c.put_late_refusals.new.lines)
    (items_of c.put-2.new.out) late (late_refusals_c K) c.in_ok-put.ensures c.in_ok-put_late_refusals.ensures close))
    c.put-2.ensures
