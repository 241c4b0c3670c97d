use Rattle.std.proofs.Common.{◌++◌, ap, ◌∙◌}
use Rattle.flow_base.specs.Lists.{items_of}
use Rattle.code_language.specs.Code.{instrs_of}
use Rattle.c_subset.specs.Trees.{Set}
use Rattle.c_subset.specs.Lines.{expr_of, lines_in, lines_of}
use Rattle.c_functions.specs.Writer.{plan_of}
use Rattle.c_functions.specs.Plans.{word, plan_c}
use Rattle.c_shape.specs.FileShapes.{shape_seen}
use Rattle.c_writer.proofs.ProcedureLemmas.{whole}
use Rattle.c_writer.proofs.procedures.lines_with_cursor.Goals as goal

pub returns : goal.returns
returns c =
    let K = shape_seen c.args.shape.now in
    let a = plan_of K.tree K.numbers c.args.react (instrs_of c.args.instrs.now) in
    let first = lines_in (items_of c.put_set.new.lines) in
    let none = ap lines_in (c.of-lines.ensures ∙ c.new.ensures.items) in
    c.in_ok-write_part.ensures.lines
    ∙ ap (λ b. first ++ lines_of (plan_c K b)) (whole K c.args.react c.args.instrs.now)
    ∙ c.in_ok-put_set.ensures (plan_c K a)
    ∙ ap (λ ls. ls ++ lines_of (Set word 5 (expr_of c.number.result) (plan_c K a))) none
    ∙ ap (λ e. lines_of (Set word 5 e (plan_c K a))) c.number.ensures
