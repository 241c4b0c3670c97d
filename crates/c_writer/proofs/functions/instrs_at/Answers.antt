use Rattle.std.proofs.Common.{◌≡◌, ◌<◌, get_or, length, ap, ◌∙◌, subst, arith}
use Rattle.std.proofs.lemmas.List.{length-map}
use Rattle.flow_base.specs.declared.list.List.{List as Seq}
use Rattle.flow_base.specs.Lists.{items_of}
use Rattle.code_language.specs.declared.code.RawCode.{RawCode}
use Rattle.code_language.specs.declared.instr.Instr as declared
use Rattle.code_language.specs.Code.{instrs_of, instructions}
use Rattle.c_writer.proofs.CodeLemmas.{instrs_are}
use Rattle.c_writer.proofs.functions.instrs_at.Goals as goal

pub returns-clause-instrs : goal.returns-clause-instrs
unfolding instructions
returns-clause-instrs c =
    let procs = items_of c.args.code.now.procs in
    let x = c.index-items-number.result in
    let same = c.items.ensures ∙ ap (λ (r : RawCode). items_of r.procs) c.raw.ensures.raw in
    let count = length-map procs (λ (is : Seq declared.Instr). instrs_of (items_of is)) in
    let lt : c.args.number < length procs = omega (arith, count, c.requires) in
    ap instrs_of c.items-2.ensures
    ∙ instrs_are procs c.args.number x lt (subst (λ ys. x ≡ get_or ys c.args.number x) same c.index-items-number.is)
