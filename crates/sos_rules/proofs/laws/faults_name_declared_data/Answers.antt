use Rattle.sos_rules.proofs.Faults.{start_faults, reaction_faults}
use Rattle.sos_rules.proofs.laws.faults_name_declared_data.Goals as goal

pub returns-clause-start : goal.returns-clause-start
returns-clause-start x c b w f v s = start_faults c v b _ s

pub returns-clause-reaction : goal.returns-clause-reaction
returns-clause-reaction x c b w u e f v r = reaction_faults c v b w e _ r
