use Rattle.code_fields.proofs.LineLemmas.{event_of-line, event_of-some}
use Rattle.code_fields.proofs.laws.events_have_one_line.Goals as goal

pub returns-clause-read : goal.returns-clause-read
returns-clause-read c = event_of-line

pub returns-clause-spelled : goal.returns-clause-spelled
returns-clause-spelled c = event_of-some
