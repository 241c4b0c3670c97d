use Rattle.checked_chart.specs.Views.{block_seen}
use Rattle.range_moves.proofs.ExitLemmas.{leave_leads}
use Rattle.range_moves.proofs.exits.leave.Goals as goal

pub returns : goal.returns
returns c =
    leave_leads c.args.setting.now c.args.state (block_seen c.block-action.result.now) c.args.now _ _ _ _ _ _
    c.in_ok-ran.ran c.block-action.ensures.block c.in_ok-parts.ensures c.in_ok-ran.ensures c.in_ok-gone.ensures
    c.in_ok-early.ensures c.in_ok-all.ensures
