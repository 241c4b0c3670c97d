use Rattle.code_shrink.proofs.RunsAlike.{alike_runs}
use Rattle.code_shrink.proofs.laws.shrunk_code_runs_as_its_code.Goals as goal

pub returns : goal.returns
returns c k k' shrunk b events moments = alike_runs b k k' shrunk.names (shrunk.runs b) events moments
