use Rattle.std.proofs.Common.{subst}
use Rattle.range_spans.proofs.SameLemmas.{on_true}
use Rattle.range_worlds.proofs.InsideLemmas.{told}
use Rattle.range_worlds.specs.Leads.{Keeps, cert_in}
use Rattle.range_check.proofs.CloseLemmas.{starts_more}
use Rattle.range_check.proofs.closing.starts.Goals as goal

pub returns : goal.returns
returns c =
    on_true _ (λ e. starts_more c.args.setting.now c.in_ok-ys.ys.items (cert_in c.args.setting.now).rest.items
    c.in_ok-ys.ensures
    (subst (λ l. Keeps c.args.setting.now l (cert_in c.args.setting.now).rest.items) c.deref.ensures.value
    (subst (λ l. Keeps c.args.setting.now c.deref.result.now l) c.deref-2.ensures.value
    (told _ e c.are_accepted.ensures))))
