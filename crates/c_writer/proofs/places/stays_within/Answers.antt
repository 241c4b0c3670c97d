use Rattle.std.proofs.Common.{◌<◌, ◌≤◌, ◌-◌, ◌∙◌, sym, subst, arith}
use Rattle.code_language.specs.Code.{instr_of, instrs_of}
use Rattle.code_language.proofs.ListLemmas.{drop_map_at}
use Rattle.c_writer.proofs.PlaceLemmas.{stays_on, stays_not}
use Rattle.c_writer.proofs.places.stays_within.Goals as goal

pub returns-then-jump_of-to : goal.returns-then-jump_of-to
returns-then-jump_of-to c =
    let i = c.loop-place.place in
    let x = c.index-instrs-place.result in
    let at = drop_map_at instr_of c.args.instrs.now i x (omega arith) c.index-instrs-place.is in
    sym (stays_not (instrs_of c.args.instrs.now) i c.args.to (instr_of x) c.loop-place-test.true at
    (subst (λ n. c.args.to - i - 1 < n) c.jump_of.ensures c.if-jump_of-to.true)) ∙ c.loop-place.invariant

pub loop-place-preserved : goal.loop-place-preserved
loop-place-preserved c =
    let i = c.loop-place.place in
    let x = c.index-instrs-place.result in
    let at = drop_map_at instr_of c.args.instrs.now i x (omega arith) c.index-instrs-place.is in
    stays_on (instrs_of c.args.instrs.now) i c.args.to (instr_of x) c.loop-place-test.true at
    (subst (λ n. n ≤ c.args.to - i - 1) c.jump_of.ensures c.if-jump_of-to.false) ∙ c.loop-place.invariant
