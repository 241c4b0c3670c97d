use Rattle.std.proofs.Common.{subst}
use Rattle.range_spans.proofs.SameLemmas.{on_true}
use Rattle.range_worlds.proofs.InsideLemmas.{told}
use Rattle.range_worlds.specs.Leads.{Keeps}
use Rattle.range_check.proofs.CheckLemmas.{processes_more}
use Rattle.range_check.proofs.check.processes.Goals as goal

pub returns : goal.returns
returns c =
    on_true _ (λ e. processes_more c.args.setting.now c.args.x.now c.in_ok-ys.ys.items c.args.ends.now c.args.state
    c.args.now c.in_ok-ys.ensures
    (subst (λ l. Keeps c.args.setting.now l c.args.ends.now) c.deref.ensures.value (told _ e c.are_accepted.ensures)))
