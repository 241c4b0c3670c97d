use Rattle.range_spans.proofs.SameLemmas.{on_true}
use Rattle.range_worlds.proofs.InsideLemmas.{told}
use Rattle.range_check.specs.Places.{ReactsFrom}
use Rattle.range_check.proofs.closing.reacts_from.Goals as goal

pub returns : goal.returns
returns c =
    on_true {P = ReactsFrom c.args.setting.now c.args.x.now} _ (λ e. record {
      wide = c.in_ok-y.y;
      frees = c.in_ok-y.ensures;
      reacts = told _ e c.in_ok-right.ensures;
    })
