use Rattle.std.proofs.Common.{map}
use Rattle.checked_chart.specs.Views.{block_seen}
use Rattle.range_moves.proofs.TakeLemmas.{take_leads}
use Rattle.range_moves.proofs.taking.take.Goals as goal

pub returns : goal.returns
returns c =
    take_leads c.args.setting.now c.args.home c.args.target c.args.now
    (map (λ a. block_seen a.now) c.args.actions.now) _ _ _ _ _ _ _ c.in_ok-ran.ran c.in_ok-left.ensures
    c.in_ok-parts.ensures c.in_ok-ran.ensures c.in_ok-inner.ensures c.in_ok-early.ensures c.in_ok-all.ensures
