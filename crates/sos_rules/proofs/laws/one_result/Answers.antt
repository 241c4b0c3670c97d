use Rattle.sos_rules.proofs.Reactions.{one_start, one_reaction}
use Rattle.sos_rules.proofs.laws.one_result.Goals as goal

pub returns-clause-start : goal.returns-clause-start
returns-clause-start x c b v =
    let one = one_start c b v.tree in record { moment = one.moment; holds = one.holds; only = one.only }

pub returns-clause-reaction : goal.returns-clause-reaction
returns-clause-reaction x c b w e v =
    let one = one_reaction c b v.tree w e in record { moment = one.moment; holds = one.holds; only = one.only }
