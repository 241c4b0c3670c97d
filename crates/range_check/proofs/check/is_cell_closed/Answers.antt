use Rattle.std.proofs.Common.{subst}
use Rattle.actions.specs.declared.event.Event.TheVariants.{Named}
use Rattle.range_spans.proofs.SameLemmas.{on_true}
use Rattle.range_worlds.proofs.InsideLemmas.{told}
use Rattle.range_check.specs.Checks.{Processes}
use Rattle.range_check.proofs.CheckLemmas.{cell_closed}
use Rattle.range_check.proofs.check.is_cell_closed.Goals as goal

pub returns : goal.returns
returns c =
    on_true _ (λ e. cell_closed c.args.setting.now c.args.cell.now
    (subst (λ l. Processes c.args.setting.now c.args.cell.now.from c.args.cell.now.state
    (Named c.args.cell.now.event) l) c.deref.ensures.value (told _ e c.in_ok-right.ensures)))
