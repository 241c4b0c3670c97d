use Rattle.std.proofs.Common.{◌≡◌, map, drop}
use Rattle.statechart_tree.specs.Views.{enumeration_of}
use Rattle.statechart_meaning.specs.Values as spec
use Rattle.statechart_values.proofs.enumerations.enumerator_named.Given as goal

-- what is left of the enumerations gives what all give
abbrev pub invariant-loop-enumeration : goal.invariant-loop-enumeration
invariant-loop-enumeration l =
    spec.enumerator_named (map enumeration_of (drop l.enumeration-index l.enumerations)) l.name
    ≡ spec.enumerator_named (map enumeration_of l.enumerations) l.name
