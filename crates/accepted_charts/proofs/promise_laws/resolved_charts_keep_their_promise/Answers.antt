use Rattle.accepted_charts.proofs.PromiseLemmas.{keeps_promise}
use Rattle.accepted_charts.proofs.promise_laws.resolved_charts_keep_their_promise.Goals as goal

pub returns : goal.returns
returns c x r is res = keeps_promise x r is res.resolves res.faultless
