use Rattle.statechart_counting.proofs.StateLemmas.{counted_same, ready}
use Rattle.statechart_counting.proofs.laws.counters_are_written_out.Goals as goal

pub returns-clause-counted : goal.returns-clause-counted
returns-clause-counted c x = counted_same x

pub returns-clause-ready : goal.returns-clause-ready
returns-clause-ready c x = ready x
