use Rattle.std.proofs.Common.{None, get_or, refl, arith, ◌+◌, length}
use Rattle.std.specs.Prelude.{slice_range}
use Rattle.code_copies.proofs.CheckLemmas.{drop_next, drop_get, part_to_end, next_right, none_right}
use Rattle.code_copies.proofs.checking.are_places_right.Goals as goal

pub loop-index-init : goal.loop-index-init
loop-index-init c all = all

-- the place is right by those after it
pub loop-index-preserved : goal.loop-index-preserved
loop-index-preserved c others =
    let i = c.loop-index.index in
    let places = c.args.places.now in
    let instrs = c.args.instrs.now in
    let instr = c.index-instrs-index.result in
    c.loop-index.invariant
    (next_right _ _ c.args.plan.now.sets.items places instrs i (get_or places i None) instr
    (slice_range places (i + 1) (length places)) (drop_get places i None c.loop-index-test.true)
    (drop_next instrs i instr (omega (arith, c.loop-index-test.true, c.if-places-instrs.false)) c.index-instrs-index.is)
    (part_to_end places (i + 1)) (c.if-not-is_place_right.ensures refl) others)

-- none is left
pub returns : goal.returns
returns c t =
    c.loop-index.invariant
    (none_right _ _ c.args.plan.now.sets.items c.args.places.now c.args.instrs.now c.loop-index.index
    c.if-places-instrs.false c.loop-index-test.false)
