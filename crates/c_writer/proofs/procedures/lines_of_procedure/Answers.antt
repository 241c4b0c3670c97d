use Rattle.std.proofs.Common.{◌++◌, sym, ap, ◌∙◌}
use Rattle.std.proofs.lemmas.Result.{IfOk-weaker}
use Rattle.flow_base.specs.Lists.{items_of}
use Rattle.code_language.specs.Code.{instrs_of}
use Rattle.c_subset.specs.Lines.{lines_in, lines_of}
use Rattle.c_functions.specs.Writer.{plan_of}
use Rattle.c_functions.specs.Plans.{plan_c, plays}
use Rattle.c_shape.specs.FileShapes.{shape_seen}
use Rattle.c_writer.proofs.ProcedureLemmas.{whole, body_plays, body_rests}
use Rattle.c_writer.proofs.procedures.lines_of_procedure.Goals as goal

pub returns-then-plays : goal.returns-then-plays
returns-then-plays c =
    let K = shape_seen c.args.shape.now in
    let a = plan_of K.tree K.numbers c.args.react (instrs_of c.args.instrs.now) in
    let told = sym (ap plays (whole K c.args.react c.args.instrs.now)) ∙ sym c.in_ok-plays.ensures.plays
    ∙ c.if-plays.true in
    IfOk-weaker c.lines_with_cursor.result _ _ (λ ls h. h ∙ body_plays K a told) c.lines_with_cursor.ensures

pub returns : goal.returns
returns c =
    let K = shape_seen c.args.shape.now in
    let a = plan_of K.tree K.numbers c.args.react (instrs_of c.args.instrs.now) in
    let told = sym (ap plays (whole K c.args.react c.args.instrs.now)) ∙ sym c.in_ok-plays.ensures.plays
    ∙ c.if-plays.false in
    let none = ap lines_in (c.of-lines.ensures ∙ c.new.ensures.items) in
    c.in_ok-plays.ensures.lines
    ∙ ap (λ b. lines_in (items_of c.of-lines.result) ++ lines_of (plan_c K b)) (whole K c.args.react c.args.instrs.now)
    ∙ ap (λ ls. ls ++ lines_of (plan_c K a)) none ∙ body_rests K a told
