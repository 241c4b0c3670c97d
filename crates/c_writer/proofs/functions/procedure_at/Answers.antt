use Rattle.std.proofs.Common.{sym, ap, ◌∙◌, subst, length}
use Rattle.std.proofs.lemmas.List.{length-map}
use Rattle.std.proofs.lemmas.Result.{IfOk-weaker}
use Rattle.code_language.specs.Code.{code_of, instr_of, instrs_of}
use Rattle.c_subset.specs.Lines.{IsFunction}
use Rattle.c_functions.specs.Writer.{plan_of, plans_of}
use Rattle.c_functions.specs.Files.{procedure_c}
use Rattle.c_functions.specs.Plans.{Shape}
use Rattle.c_shape.specs.FileShapes.{shape_seen}
use Rattle.c_writer.specs.Parts.{CanBeWritten, StaysWithin}
use Rattle.c_writer.proofs.CodeLemmas.{can_be_written, all_stay}
use Rattle.c_writer.proofs.functions.procedure_at.Goals as goal

pub procedure-requires-clause-can : goal.procedure-requires-clause-can
procedure-requires-clause-can c =
    let K = shape_seen c.args.shape.now in
    let k = code_of c.args.code.now in
    subst (CanBeWritten K) (sym c.instrs_at.ensures.instrs)
    (can_be_written K k c.requires.shape c.instrs_at.ensures.well_formed c.args.number)

pub procedure-requires-clause-stays : goal.procedure-requires-clause-stays
procedure-requires-clause-stays c =
    let k = code_of c.args.code.now in
    let n = length c.instrs_at.result.now in
    subst (λ xs. StaysWithin xs 0 n) (sym c.instrs_at.ensures.instrs)
    (all_stay k c.instrs_at.ensures.well_formed c.args.number n
    (sym (length-map c.instrs_at.result.now instr_of) ∙ ap length c.instrs_at.ensures.instrs))

pub returns : goal.returns
unfolding plans_of
returns c =
    let K = shape_seen c.args.shape.now in
    let k = code_of c.args.code.now in
    let tree = ap (λ (S : Shape). S.tree) c.requires.shape in
    let instrs = instrs_of c.instrs_at.result.now in
    IfOk-weaker c.procedure.result _ _
    (λ f h. subst (λ xs. IsFunction f (procedure_c K (plan_of k.tree K.numbers k.procedures.react xs)))
    c.instrs_at.ensures.instrs
    (subst (λ r. IsFunction f (procedure_c K (plan_of k.tree K.numbers r instrs))) c.react_of.ensures.react
    (subst (λ t. IsFunction f (procedure_c K (plan_of t K.numbers c.react_of.result instrs))) tree h))) c.procedure.ensures
