use Rattle.range_check.proofs.PlaceLemmas.{FirstSpans}
use Rattle.range_check.proofs.places.first_spans.Given as goal

abbrev pub invariant-loop-number : goal.invariant-loop-number
invariant-loop-number l = FirstSpans l.setting l.vars l.number l.spans.items
