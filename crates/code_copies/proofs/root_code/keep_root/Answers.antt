use Rattle.std.proofs.Common.{◌≡◌, refl, arith}
use Rattle.code_language.specs.Code.{instr_of}
use Rattle.code_language.specs.Instrs.{Clear}
use Rattle.code_copies.proofs.CheckLemmas.{each_more}
use Rattle.code_copies.proofs.RootChecks.{none_clears}
use Rattle.code_copies.proofs.root_code.keep_root.Goals as goal

-- the instruction at this place doesn't
pub loop-instr-preserved : goal.loop-instr-preserved
loop-instr-preserved c =
    let is = c.args.instrs.now in
    each_more (λ x. instr_of x ≡ Clear 0 → ⊥) is is c.loop-instr.instr-index c.instr-item.result refl
    c.loop-instr-test.true c.instr-item.is c.loop-instr.invariant
    (λ e. let t = c.clears_root.ensures e in let f = c.if-clears_root.false in absurd (cc (t, f)))

-- none does
pub returns : goal.returns
returns c t =
    let past = c.loop-instr-test.false in
    none_clears c.args.instrs.now
    (λ i lt x there. c.loop-instr.invariant i (omega (arith, past, lt)) x there)
