use Rattle.code_passes.proofs.PassedLemmas.{passed_tags}
use Rattle.code_passes.proofs.laws.tags_name_procedures_states_and_events_of_the_code.Goals as goal

pub returns : goal.returns
returns c k k' tags passed = passed_tags k k' tags passed
