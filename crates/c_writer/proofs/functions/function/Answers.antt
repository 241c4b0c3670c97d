use Rattle.std.proofs.Common.{◌∙◌}
use Rattle.std.proofs.lemmas.Result.{IfOk-weaker}
use Rattle.code_language.specs.Code.{code_of}
use Rattle.c_functions.specs.Writer.{plans_of}
use Rattle.c_functions.specs.Files.{procedure_c}
use Rattle.c_shape.specs.FileShapes.{shape_seen}
use Rattle.c_writer.proofs.CodeLemmas.{procedure_there, later_there}
use Rattle.c_writer.proofs.functions.function.Goals as goal

pub returns-then-number-shape : goal.returns-then-number-shape
returns-then-number-shape c =
    let K = shape_seen c.args.shape.now in
    let k = code_of c.args.code.now in
    IfOk-weaker c.procedure_at.result _ _
    (λ f h. record {
      function = procedure_c K (plans_of k c.args.number);
      there = procedure_there K k c.requires.shape c.args.number c.if-number-shape.true;
      is = h;
    }) c.procedure_at.ensures

pub returns : goal.returns
returns c =
    let K = shape_seen c.args.shape.now in
    let k = code_of c.args.code.now in
    IfOk-weaker c.later_function.result _ _
    (λ f h. record {
      function = h.function;
      there = later_there K k c.requires.shape c.args.number c.if-number-shape.false ∙ h.there;
      is = h.is;
    }) c.later_function.ensures
