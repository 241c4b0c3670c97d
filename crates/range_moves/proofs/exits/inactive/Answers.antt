use Rattle.range_moves.proofs.ExitLemmas.{inactive_leads}
use Rattle.range_moves.proofs.exits.inactive.Goals as goal

pub returns : goal.returns
returns c =
    inactive_leads c.args.setting.now c.args.state _ _ _ _ _ c.in_ok-parts.ensures c.in_ok-gone.ensures
    c.in_ok-all.ensures
