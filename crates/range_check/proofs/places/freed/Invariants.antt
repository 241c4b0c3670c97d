use Rattle.range_check.proofs.PlaceLemmas.{FreedSpans}
use Rattle.range_check.proofs.places.freed.Given as goal

abbrev pub invariant-loop-number : goal.invariant-loop-number
invariant-loop-number l = FreedSpans l.setting l.x l.number l.wide.items
