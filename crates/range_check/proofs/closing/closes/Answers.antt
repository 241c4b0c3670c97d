use Rattle.range_spans.proofs.SameLemmas.{on_true}
use Rattle.range_worlds.proofs.InsideLemmas.{told}
use Rattle.range_check.proofs.CloseLemmas.{closes}
use Rattle.range_check.proofs.closing.closes.Goals as goal

pub returns : goal.returns
returns c =
    on_true _ (λ e. closes _ (told _ c.if-not-covers_inputs.false c.covers_inputs.ensures)
    (told _ c.if-not-cells.false c.in_ok-cells.ensures) (told _ c.if-not-start.false c.in_ok-start.ensures)
    (told _ e c.in_ok-reacts.ensures))
