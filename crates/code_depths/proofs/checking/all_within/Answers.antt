use Rattle.std.proofs.Common.{◌≡◌, ℕ, List, Some, slice_get, subst}
use Rattle.flow_base.specs.Lists.{items_of}
use Rattle.code_language.specs.Code.{instrs_of}
use Rattle.code_language.specs.Instrs as forms
use Rattle.code_depths.specs.Depths.{NamesWithin, level_of}
use Rattle.code_depths.proofs.Each.{one_more, all_of_them}
use Rattle.code_depths.proofs.checking.all_within.Goals as goal

-- what instructions name is within a level
abbrev AllWithin : List ℕ → ℕ → List forms.Instr → Type 0
AllWithin levels level is = (i : ℕ) (x : forms.Instr) → slice_get is i ≡ Some x → NamesWithin levels level x

-- what this procedure names is within its level
pub loop-proc-preserved : goal.loop-proc-preserved
loop-proc-preserved c =
    let levels = c.args.levels.now in
    let here = subst (λ is. AllWithin levels c.level_of.result (instrs_of is)) c.items.ensures
    (c.all_name_within.ensures c.if-not-all_name_within.false) in
    one_more (λ is. instrs_of (items_of is)) (λ p is. AllWithin levels (level_of levels p) is)
    c.items-instrs-items.result.now (items_of c.args.code.now.procs) c.loop-proc.proc c.items-instrs-items.ensures
    c.loop-proc.invariant c.instrs-item.result c.loop-proc-test.true c.instrs-item.is
    (subst (λ l. AllWithin levels l (instrs_of (items_of c.instrs-item.result))) c.level_of.ensures here)

-- none is left
pub returns : goal.returns
returns c t =
    let levels = c.args.levels.now in
    all_of_them (λ is. instrs_of (items_of is)) (λ p is. AllWithin levels (level_of levels p) is)
    c.items-instrs-items.result.now (items_of c.args.code.now.procs) c.loop-proc.proc c.items-instrs-items.ensures
    c.loop-proc.invariant c.loop-proc-test.false
