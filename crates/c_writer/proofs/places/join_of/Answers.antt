use Rattle.std.proofs.Common.{◌+◌, ◌-◌, ◌∙◌, ap, arith}
use Rattle.code_language.specs.Code.{instr_of, instrs_of}
use Rattle.c_writer.proofs.PlaceLemmas.{get_at, join_at}
use Rattle.c_writer.proofs.places.join_of.Goals as goal

pub overflow_add-result : goal.overflow_add-result
overflow_add-result c =
    let i = c.args.rest + c.args.over - 1 in
    let x = c.index-instrs-rest.result in
    let is = ap (λ n. c.args.over + n) c.skip_of.ensures
    ∙ join_at (instrs_of c.args.instrs.now) c.args.rest c.args.over (instr_of x) (omega arith)
    (get_at c.args.instrs.now i x (omega arith) c.index-instrs-rest.is) in
    omega (arith, is, c.requires.fits)

pub returns : goal.returns
returns c =
    let i = c.args.rest + c.args.over - 1 in
    let x = c.index-instrs-rest.result in
    ap (λ n. c.args.over + n) c.skip_of.ensures
    ∙ join_at (instrs_of c.args.instrs.now) c.args.rest c.args.over (instr_of x) (omega arith)
    (get_at c.args.instrs.now i x (omega arith) c.index-instrs-rest.is)
