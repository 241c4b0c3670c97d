use Rattle.sos_rules.proofs.Reactions.{start_remembers, reaction_remembers}
use Rattle.sos_rules.proofs.laws.remembers_the_active_child.Goals as goal

pub returns-clause-start : goal.returns-clause-start
returns-clause-start x c b w f v s = start_remembers c v.tree b _ s

pub returns-clause-reaction : goal.returns-clause-reaction
returns-clause-reaction x c b w u e f v h r = reaction_remembers c v.tree b w e _ h r
