use Rattle.code_passes.proofs.PassedLemmas.{pass_keeps}
use Rattle.code_passes.proofs.laws.passes_keep_what_tags_tell.Goals as goal

pub returns : goal.returns
returns c k k' tags tags' pass = pass_keeps k k' tags tags' pass
