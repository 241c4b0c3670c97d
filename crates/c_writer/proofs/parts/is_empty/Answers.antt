use Rattle.std.proofs.Common.{◌∙◌, sym, subst, arith}
use Rattle.code_language.specs.Code.{instr_of, instrs_of}
use Rattle.code_language.proofs.ListLemmas.{drop_map_at}
use Rattle.c_shape.specs.FileShapes.{shape_seen}
use Rattle.c_writer.specs.Parts.{HasLines}
use Rattle.c_writer.proofs.PlaceLemmas.{get_at, stands_at}
use Rattle.c_writer.proofs.PartLemmas.{part_none, part_skip}
use Rattle.c_writer.proofs.LineLemmas.{part_has}
use Rattle.c_writer.proofs.parts.is_empty.Goals as goal

pub returns-in_default : goal.returns-in_default
returns-in_default c =
    let K = shape_seen c.args.shape.now in
    let xs = instrs_of c.args.instrs.now in
    let i = c.loop-place.place in
    let x = c.index-instrs-place.result in
    let at = drop_map_at instr_of c.args.instrs.now i x (omega arith) c.index-instrs-place.is in
    let fine = c.requires.can.each i (instr_of x)
    (get_at c.args.instrs.now i x (omega arith) c.index-instrs-place.is) in
    record {
      empty = λ react e. absurd (cc e);
      some =
          λ react e. subst (λ a. HasLines K a) (c.loop-place.invariant.same react)
          (part_has K react xs i c.args.to c.loop-place-test.true c.loop-place.invariant.stays x at fine.keeps
          c.in_default.not-Skip);
    }

pub overflow_add-place-in-loop-place : goal.overflow_add-place-in-loop-place
overflow_add-place-in-loop-place c =
    let xs = instrs_of c.args.instrs.now in
    let i = c.loop-place.place in
    let x = c.index-instrs-place.result in
    let at = stands_at c.args.instrs.now i x _ (omega arith) c.index-instrs-place.is c.in-Skip.is in
    let on = part_skip (shape_seen c.args.shape.now) 0 xs i c.args.to c.in-Skip.over c.loop-place-test.true at
    c.loop-place.invariant.stays in
    let within = on.0 in omega (arith, within)

pub loop-place-preserved : goal.loop-place-preserved
loop-place-preserved c =
    let K = shape_seen c.args.shape.now in
    let xs = instrs_of c.args.instrs.now in
    let i = c.loop-place.place in
    let x = c.index-instrs-place.result in
    let at = stands_at c.args.instrs.now i x _ (omega arith) c.index-instrs-place.is c.in-Skip.is in
    let inv = c.loop-place.invariant in
    record {
      within = (part_skip K 0 xs i c.args.to c.in-Skip.over c.loop-place-test.true at inv.stays).0;
      stays = (part_skip K 0 xs i c.args.to c.in-Skip.over c.loop-place-test.true at inv.stays).1;
      same =
          λ react. (part_skip K react xs i c.args.to c.in-Skip.over c.loop-place-test.true at inv.stays).2
          ∙ inv.same react;
    }

pub returns-clause-empty : goal.returns-clause-empty
returns-clause-empty c =
    λ react e. sym (c.loop-place.invariant.same react)
    ∙ part_none (shape_seen c.args.shape.now) react (instrs_of c.args.instrs.now) c.loop-place.place c.args.to
    (omega arith)
