use Rattle.std.proofs.Common.{◌≡◌, map, drop, false}
use Rattle.statechart_meaning.specs.Values as spec
use Rattle.statechart_values.specs.Views.{whole_seen}
use Rattle.statechart_values.proofs.enumerations.member_named.Given as goal

-- what is left of the enumerators, from the next number on, gives what all give
abbrev pub invariant-loop-member : goal.invariant-loop-member
invariant-loop-member l =
    spec.value_named (map spec.member_value (spec.numbered (whole_seen l.next) (drop l.member-index l.members))) l.name
    ≡ spec.value_named (map spec.member_value (spec.numbered (spec.whole false 0) l.members)) l.name
