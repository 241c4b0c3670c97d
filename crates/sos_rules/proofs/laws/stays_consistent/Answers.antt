use Rattle.sos_rules.proofs.Reactions.{start_keeps, reaction_keeps}
use Rattle.sos_rules.proofs.laws.stays_consistent.Goals as goal

pub returns-clause-start : goal.returns-clause-start
returns-clause-start x c b w f v s = start_keeps c v.tree b _ s

pub returns-clause-reaction : goal.returns-clause-reaction
returns-clause-reaction x c b w u e f v h r = reaction_keeps c v.tree b w e _ h r
