use Rattle.std.proofs.Common.{◌≡◌, ◌∷◌, [], ap, sym, ◌∙◌}
use Rattle.code_language.specs.Code.{instr_of}
use Rattle.code_copies.specs.Tested.{tested_event, set_all}
use Rattle.code_copies.proofs.FlagLemmas.{one_more_tested}
use Rattle.code_copies.proofs.tested.set_tested.Goals as goal
use Rattle.code_copies.proofs.tested.set_tested.Goals.{in-Some, in_default}

-- the flag of one instruction more
pub loop-instr-preserved : goal.loop-instr-preserved
loop-instr-preserved c =
    let x = c.instr-item.result in
    let old = c.loop-instr.flags in
    let new = c.match-tested_event.flags in
    let next : new ≡ set_all (tested_event (instr_of x) ∷ []) old =
    elim c.match-tested_event.branch as (λ o. new ≡ set_all (tested_event (instr_of x) ∷ []) old) [
      | in-Some w ↦
          w.flags-is ∙ w.set.ensures ∙ ap (λ e. set_all (e ∷ []) old) (sym w.in-Some.is ∙ c.tested_event.ensures)
      | in_default w ↦ w.flags-is ∙ ap (λ e. set_all (e ∷ []) old) (sym w.in_default.is ∙ c.tested_event.ensures)
    ] in
    one_more_tested c.args.instrs.now c.loop-instr.instr-index x c.args.flags.now old new c.loop-instr-test.true
    c.instr-item.is c.loop-instr.invariant next
