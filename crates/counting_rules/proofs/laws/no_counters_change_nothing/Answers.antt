use Rattle.counting_rules.proofs.Reactions.{plain_start, plain_reaction, plain_run}
use Rattle.counting_rules.proofs.laws.no_counters_change_nothing.Goals as goal

pub returns-clause-start : goal.returns-clause-start
returns-clause-start x c b w f tree = plain_start c b tree _

pub returns-clause-reaction : goal.returns-clause-reaction
returns-clause-reaction x c b w v e f tree = plain_reaction c b tree w e _

pub returns-clause-run : goal.returns-clause-run
returns-clause-run x c b events moments tree = plain_run c b tree events moments
