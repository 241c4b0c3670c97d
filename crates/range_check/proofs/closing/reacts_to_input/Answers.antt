use Rattle.range_spans.proofs.SameLemmas.{on_true}
use Rattle.range_worlds.proofs.InsideLemmas.{told}
use Rattle.range_check.specs.Places.{ReactsToInput}
use Rattle.range_check.proofs.closing.reacts_to_input.Goals as goal

pub returns-in_ok-right-in-Input : goal.returns-in_ok-right-in-Input
returns-in_ok-right-in-Input c =
    on_true {P = ReactsToInput c.args.setting.now c.args.y.now c.args.event.now c.args.number} _
    (λ e. record { reacts = λ q. told _ e c.in_ok-right-in-Input.ensures })
