use Rattle.std.proofs.Common.{refl}
use Rattle.code_language.specs.Code.{instr_of}
use Rattle.code_counts.specs.Certificate.{IsEnough}
use Rattle.code_counts.specs.Rows.{numbers_of}
use Rattle.code_counts.proofs.Each.{each_more, each_all}
use Rattle.code_counts.proofs.checking.are_enough.Goals as goal

-- the numbers are enough at this place
pub loop-place-preserved : goal.loop-place-preserved
loop-place-preserved c =
    let is = c.args.instrs.now in
    each_more instr_of (IsEnough c.args.counted (numbers_of c.args.rows.now) c.args.react c.args.proc) is is
    c.loop-place.place c.index-instrs-place.result refl c.loop-place-test.true c.index-instrs-place.is
    c.loop-place.invariant (c.if-not-is_enough.ensures refl)

-- none is left
pub returns : goal.returns
returns c t =
    let is = c.args.instrs.now in
    each_all instr_of (IsEnough c.args.counted (numbers_of c.args.rows.now) c.args.react c.args.proc) is is
    c.loop-place.place refl c.loop-place-test.false c.loop-place.invariant
