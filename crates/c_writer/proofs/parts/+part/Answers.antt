use Rattle.std.proofs.Common.{◌≤◌, ◌+◌, ◌-◌, ◌++◌, sym, ap, ◌∙◌, subst, refl, arith}
use Rattle.flow_base.specs.Lists.{items_of}
use Rattle.code_language.specs.Code.{cond_of, instr_of, instrs_of}
use Rattle.code_language.specs.Instrs as i
use Rattle.code_language.proofs.ListLemmas.{drop_map_at}
use Rattle.c_subset.specs.Trees.{Return}
use Rattle.c_subset.specs.Lines.{expr_of, lines_in, lines_of}
use Rattle.c_functions.specs.Written.{test_of}
use Rattle.c_functions.specs.Plans.{plan_c, plays}
use Rattle.c_shape.specs.FileShapes.{shape_seen}
use Rattle.c_writer.specs.Fine.{IsFine}
use Rattle.c_writer.specs.Parts.{IsNext, part}
use Rattle.c_writer.proofs.PlaceLemmas.{get_at, stands_at}
use Rattle.c_writer.proofs.PartLemmas.{Forks, stays_later, tail, part_skip, forks}
use Rattle.c_writer.proofs.LineLemmas.{plain_of, no_else, if_written}
use Rattle.c_writer.proofs.NextLemmas.{test_fine, next_ret, next_skip, next_fork, next_straight, part_written}
use Rattle.c_writer.proofs.NextLemmas.{part_told}
use Rattle.c_writer.proofs.parts.+part.Goals as goal

-- ---- the second part of an `if`

pub write_else-returns-then-is_empty-clause-lines : goal.write_else-returns-then-is_empty-clause-lines
write_else-returns-then-is_empty-clause-lines t c =
    let K = shape_seen c.args.shape.now in
    no_else K (lines_in (items_of c.args.lines.now))
    (part K c.args.react (instrs_of c.args.instrs.now) c.args.from c.args.to)
    (c.if-is_empty.ensures.empty c.args.react refl)

pub write_else-returns-then-is_empty-clause-plays : goal.write_else-returns-then-is_empty-clause-plays
unfolding plays
write_else-returns-then-is_empty-clause-plays t c = sym (ap plays (c.if-is_empty.ensures.empty c.args.react refl))

-- ---- an `if`

pub write_if-write_else-requires : goal.write_if-write_else-requires
write_if-write_else-requires t c = (
  omega (arith, c.decreases, c.requires.within),
  (
    c.requires.can,
    (
      c.requires.within,
      (
        c.requires.there,
        stays_later (instrs_of c.args.instrs.now) c.args.rest c.args.over c.args.end c.requires.within c.requires.stays,
      ),
    ),
  ),
)

pub write_if-returns-then-first-clause-lines : goal.write_if-returns-then-first-clause-lines
unfolding plan_c
write_if-returns-then-first-clause-lines t c = λ a.
    let K = shape_seen c.args.shape.now in
    let xs = instrs_of c.args.instrs.now in
    if_written K (test_of K.tree K.numbers (cond_of c.args.cond.now)) (lines_in (items_of c.args.lines.now))
    (lines_in (items_of c.put_condition.new.lines)) (lines_in (items_of c.put.new.out))
    (lines_in (items_of c.write_part.new.lines)) (lines_in (items_of c.write_else.new.lines))
    (lines_in (items_of c.put-2.new.out)) (expr_of c.in_ok-test.test)
    (plan_c K (part K c.args.react xs c.args.rest c.args.end))
    (plan_c K (part K c.args.react xs (c.args.rest + c.args.over) c.args.end)) (plan_c K a) c.in_ok-test.ensures
    c.in_ok-put.ensures c.in_ok-first.ensures.lines c.in_ok-second.ensures.lines c.in_ok-put-2.ensures

pub write_if-returns-else-first-clause-lines : goal.write_if-returns-else-first-clause-lines
unfolding plan_c
write_if-returns-else-first-clause-lines t c = λ a.
    let K = shape_seen c.args.shape.now in
    let xs = instrs_of c.args.instrs.now in
    if_written K (test_of K.tree K.numbers (cond_of c.args.cond.now)) (lines_in (items_of c.args.lines.now))
    (lines_in (items_of c.put_condition.new.lines)) (lines_in (items_of c.put.new.out))
    (lines_in (items_of c.write_part.new.lines)) (lines_in (items_of c.write_else.new.lines))
    (lines_in (items_of c.put-2.new.out)) (expr_of c.in_ok-test.test)
    (plan_c K (part K c.args.react xs c.args.rest c.args.end))
    (plan_c K (part K c.args.react xs (c.args.rest + c.args.over) c.args.end)) (plan_c K a) c.in_ok-test.ensures
    c.in_ok-put.ensures c.in_ok-first.ensures.lines c.in_ok-second.ensures.lines c.in_ok-put-2.ensures

-- ---- one instruction

pub write_next-overflow_add-result : goal.write_next-overflow_add-result
write_next-overflow_add-result t c =
    let xs = instrs_of c.args.instrs.now in
    let at = stands_at c.args.instrs.now c.args.at c.index-instrs-at.result _ (omega arith) c.index-instrs-at.is
    c.in-Skip.is in
    let on = part_skip (shape_seen c.args.shape.now) 0 xs c.args.at c.args.to c.in-Skip.over c.requires.within at
    c.requires.stays in
    let within = on.0 in omega (arith, within)

pub write_next-end_of_fork-end-requires-clause-within : goal.write_next-end_of_fork-end-requires-clause-within
write_next-end_of_fork-end-requires-clause-within t c =
    let xs = instrs_of c.args.instrs.now in
    let at = stands_at c.args.instrs.now c.args.at c.index-instrs-at.result _ (omega arith) c.index-instrs-at.is
    c.in-Unless.is in
    let on = tail (shape_seen c.args.shape.now) 0 xs c.args.at c.args.to
    (i.Unless c.in-Unless.over (cond_of c.in-Unless.cond)) c.requires.within at c.requires.stays in
    let within : c.in-Unless.over ≤ c.args.to - (c.args.at + 1) = on.0 in omega (arith, within)

pub write_next-end_of_fork-end-requires-clause-stays : goal.write_next-end_of_fork-end-requires-clause-stays
write_next-end_of_fork-end-requires-clause-stays t c =
    let xs = instrs_of c.args.instrs.now in
    let at = drop_map_at instr_of c.args.instrs.now c.args.at c.index-instrs-at.result (omega arith)
    c.index-instrs-at.is in
    (tail (shape_seen c.args.shape.now) 0 xs c.args.at c.args.to (instr_of c.index-instrs-at.result)
    c.requires.within at c.requires.stays).1

pub write_next-write_if-requires : goal.write_next-write_if-requires
write_next-write_if-requires t c =
    let K = shape_seen c.args.shape.now in
    let xs = instrs_of c.args.instrs.now in
    let x = c.index-instrs-at.result in
    let at = stands_at c.args.instrs.now c.args.at x _ (omega arith) c.index-instrs-at.is c.in-Unless.is in
    let k = c.in-Unless.over in
    let y = cond_of c.in-Unless.cond in
    let f = subst (Forks K 0 xs c.args.at c.args.to k y) (sym c.end_of_fork-end.ensures)
    (forks K 0 xs c.args.at c.args.to k y c.requires.within at c.requires.stays) in
    let first = f.first in
    let within = f.within in
    let fine = c.requires.can.each c.args.at (instr_of x)
    (get_at c.args.instrs.now c.args.at x (omega arith) c.index-instrs-at.is) in (
      omega (arith, c.decreases, first, within, c.requires.within),
      (
        c.requires.can,
        (
          test_fine K k y (subst (λ z. IsFine K (instr_of z)) c.in-Unless.is fine),
          (first, (omega (arith, within, c.requires.there), f.stays)),
        ),
      ),
    )

pub write_next-put_straight-requires : goal.write_next-put_straight-requires
write_next-put_straight-requires t c =
    c.requires.can.each c.args.at (instr_of c.index-instrs-at.result)
    (get_at c.args.instrs.now c.args.at c.index-instrs-at.result (omega arith) c.index-instrs-at.is)

pub write_next-returns-in_ok-put_return-in-Ret : goal.write_next-returns-in_ok-put_return-in-Ret
write_next-returns-in_ok-put_return-in-Ret t c =
    let K = shape_seen c.args.shape.now in
    let xs = instrs_of c.args.instrs.now in
    let old = items_of c.args.lines.now in
    let at = stands_at c.args.instrs.now c.args.at c.index-instrs-at.result _ (omega arith) c.index-instrs-at.is
    c.in-Ret.is in
    next_ret K c.args.react xs c.args.at c.args.to c.requires.within c.requires.stays old
    (items_of c.put_return.new.lines) c.in-Ret.value at
    (c.in_ok-put_return-in-Ret.ensures ∙ ap (λ e. lines_in old ++ lines_of (Return e)) c.number.ensures)

pub write_next-returns-in-Skip : goal.write_next-returns-in-Skip
write_next-returns-in-Skip t c =
    let xs = instrs_of c.args.instrs.now in
    let at = stands_at c.args.instrs.now c.args.at c.index-instrs-at.result _ (omega arith) c.index-instrs-at.is
    c.in-Skip.is in
    next_skip (shape_seen c.args.shape.now) c.args.react xs c.args.at c.args.to c.requires.within c.requires.stays
    (items_of c.args.lines.now) (items_of c.args.lines.now) c.in-Skip.over at

pub write_next-returns-in_ok-plays-in-Unless : goal.write_next-returns-in_ok-plays-in-Unless
write_next-returns-in_ok-plays-in-Unless t c =
    let K = shape_seen c.args.shape.now in
    let xs = instrs_of c.args.instrs.now in
    let at = stands_at c.args.instrs.now c.args.at c.index-instrs-at.result _ (omega arith) c.index-instrs-at.is
    c.in-Unless.is in
    let k = c.in-Unless.over in
    let x = cond_of c.in-Unless.cond in
    let f = subst (Forks K c.args.react xs c.args.at c.args.to k x) (sym c.end_of_fork-end.ensures)
    (forks K c.args.react xs c.args.at c.args.to k x c.requires.within at c.requires.stays) in
    next_fork K c.args.react xs c.args.at c.args.to c.requires.within c.requires.stays (items_of c.args.lines.now)
    (items_of c.write_if.new.lines) k x c.end_of_fork-end.result c.in_ok-plays-in-Unless.plays f
    c.in_ok-plays-in-Unless.ensures.lines c.in_ok-plays-in-Unless.ensures.plays

pub write_next-returns-in_ok-put_straight-in_default : goal.write_next-returns-in_ok-put_straight-in_default
write_next-returns-in_ok-put_straight-in_default t c =
    let K = shape_seen c.args.shape.now in
    let xs = instrs_of c.args.instrs.now in
    let x = c.index-instrs-at.result in
    let at = drop_map_at instr_of c.args.instrs.now c.args.at x (omega arith) c.index-instrs-at.is in
    subst (λ b. IsNext K c.args.react xs c.args.at c.args.to (items_of c.args.lines.now)
    (items_of c.put_straight.new.lines) (record { place = c.args.at + 1; plays = b })) (sym c.is_play.ensures)
    (next_straight K c.args.react xs c.args.at c.args.to c.requires.within c.requires.stays (items_of c.args.lines.now)
    (items_of c.put_straight.new.lines) (instr_of x) at
    (plain_of x c.in_default.not-Ret c.in_default.not-Skip c.in_default.not-Unless)
    c.in_ok-put_straight-in_default.ensures)

-- ---- a part

pub write_part-returns-clause-lines : goal.write_part-returns-clause-lines
write_part-returns-clause-lines t c =
    part_written (shape_seen c.args.shape.now) c.args.react (instrs_of c.args.instrs.now) c.args.from c.loop-at.at
    c.args.to (items_of c.args.lines.now) (items_of c.loop-at.lines) c.loop-at-test.false c.loop-at.invariant.lines

pub write_part-returns-clause-plays : goal.write_part-returns-clause-plays
write_part-returns-clause-plays t c =
    part_told (shape_seen c.args.shape.now) c.args.react (instrs_of c.args.instrs.now) c.args.from c.loop-at.at
    c.args.to c.loop-at.plays c.loop-at-test.false c.loop-at.invariant.plays_is
