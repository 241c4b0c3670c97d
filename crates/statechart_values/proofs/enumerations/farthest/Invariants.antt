use Rattle.std.proofs.Common.{◌≡◌, drop, false}
use Rattle.statechart_meaning.specs.Values as spec
use Rattle.statechart_values.specs.Views.{whole_seen}
use Rattle.statechart_values.proofs.enumerations.farthest.Given as goal

-- what is left of the enumerators, from the next number on, gives what all give
abbrev pub invariant-loop-member : goal.invariant-loop-member
invariant-loop-member l =
    spec.farthest l.negative l.found (spec.numbered (whole_seen l.next) (drop l.member-index l.members))
    ≡ spec.farthest l.negative 0 (spec.numbered (spec.whole false 0) l.members)
