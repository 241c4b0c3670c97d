use Rattle.std.proofs.Common.{ℕ, Option, subst, sym}
use Rattle.range_blocks.specs.Cells.{Sends}
use Rattle.range_blocks.proofs.SendLemmas.{sent_to_all, sent_to_one}
use Rattle.range_blocks.proofs.sends.send.Goals as goal

pub returns-in_ok-ends-in-None : goal.returns-in_ok-ends-in-None
returns-in_ok-ends-in-None c =
    subst (λ (to : Option ℕ). Sends c.args.setting.now c.args.xs.items c.args.event to c.in_ok-ends-in-None.ends.items)
    (sym c.in-None.is) (sent_to_all _ _ _ _ c.in_ok-ends-in-None.ensures)

pub returns-in_ok-all-in-Some : goal.returns-in_ok-all-in-Some
returns-in_ok-all-in-Some c =
    subst (λ (to : Option ℕ). Sends c.args.setting.now c.args.xs.items c.args.event to c.in_ok-all-in-Some.all.items)
    (sym c.in-Some.is)
    (sent_to_one _ _ _ _ _ _ _ _ c.in_ok-parts-in-Some.ensures c.in_ok-ends-in-Some.ensures
    c.in_ok-all-in-Some.ensures)
