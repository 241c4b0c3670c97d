use Rattle.chart_net.proofs.LawLemmas.{law_of_runs}
use Rattle.commands.specs.NetRules.{net_by_rules}
use Rattle.commands.proofs.net_laws.nets_by_rules_keep_the_law_of_nets.Goals as goal

pub returns : goal.returns
returns c = λ bounds loaded routes schedule moments. law_of_runs (net_by_rules bounds loaded routes) schedule moments
