use Rattle.range_spans.proofs.BoxLemmas.{number_stored, flag_stored}
use Rattle.range_spans.proofs.laws.an_assignment_stays_in_its_span.Goals as goal

pub returns-clause-number : goal.returns-clause-number
returns-clause-number c n always box vals v s m k i is q few h = number_stored n always v s m k box vals i is q few h

pub returns-clause-flag : goal.returns-clause-flag
returns-clause-flag c n always box vals v b over q few h = flag_stored n always v b over box vals q few h
