use Rattle.std.proofs.Common.{refl}
use Rattle.code_language.specs.Code.{instr_of}
use Rattle.code_depths.specs.Depths.{NamesWithin}
use Rattle.code_depths.proofs.Each.{one_more, all_of_them}
use Rattle.code_depths.proofs.checking.all_name_within.Goals as goal

-- what this instruction names is within the level
pub loop-instr-preserved : goal.loop-instr-preserved
loop-instr-preserved c =
    let is = c.args.instrs.now in
    one_more instr_of (λ i. NamesWithin c.args.levels.now c.args.level) is is c.loop-instr.instr-index refl
    c.loop-instr.invariant c.instr-item.result c.loop-instr-test.true c.instr-item.is
    (c.names_within.ensures c.if-not-names_within.false)

-- none is left
pub returns : goal.returns
returns c t =
    let is = c.args.instrs.now in
    all_of_them instr_of (λ i. NamesWithin c.args.levels.now c.args.level) is is c.loop-instr.instr-index refl
    c.loop-instr.invariant c.loop-instr-test.false
