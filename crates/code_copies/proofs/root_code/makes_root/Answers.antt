use Rattle.std.proofs.Common.{◌+◌, arith, drop, refl}
use Rattle.code_copies.proofs.CheckLemmas.{drop_next}
use Rattle.code_copies.proofs.RootChecks.{marks_here}
use Rattle.code_copies.proofs.root_code.makes_root.Goals as goal

-- the instruction at this place marks the root
pub returns-then-marks_root : goal.returns-then-marks_root
returns-then-marks_root c t k =
    let is = c.args.instrs.now in
    let i = c.loop-instr.instr-index in
    let none = c.if-over-gt0.false in
    c.loop-instr.invariant k
    (marks_here k c.loop-instr.home c.loop-instr.over (drop i is) (drop (i + 1) is) c.instr-item.result
    (omega (arith, none)) (drop_next is i c.instr-item.result c.loop-instr-test.true c.instr-item.is)
    (c.if-marks_root.ensures refl))
