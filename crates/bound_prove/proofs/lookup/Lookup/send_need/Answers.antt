use Rattle.bound_prove.proofs.Evaluations.{sent_evaluated}
use Rattle.bound_prove.proofs.lookup.Lookup.send_need.Goals as goal

pub returns : goal.returns
returns c = sent_evaluated c.args.self.now _ _ _ _ _ _ c.in_ok-work.ensures c.sent.ensures
