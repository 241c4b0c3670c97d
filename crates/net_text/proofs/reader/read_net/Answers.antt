use Rattle.net_text.proofs.LimitLemmas.{answer_within}
use Rattle.net_text.proofs.reader.read_net.Goals as goal

pub returns-clause-within : goal.returns-clause-within
returns-clause-within c = answer_within c.args.text.now c.read_named.result c.read_named.ensures
