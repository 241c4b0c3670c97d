use Rattle.code_shrink.proofs.WholeLemmas.{is_shrunk}
use Rattle.code_shrink.proofs.laws.what_is_reached_is_shrunk_code.Goals as goal

pub returns : goal.returns
returns c k live flags well exact = is_shrunk k live flags well exact
