use Rattle.std.proofs.Common.{◌≡◌, map, drop}
use Rattle.statechart_tree.specs.Views.{enumeration_of, constant_of}
use Rattle.statechart_meaning.specs.Values as spec
use Rattle.statechart_values.specs.Views.{valued_seen}
use Rattle.statechart_values.proofs.constants.constant_values.Given as goal

-- the values so far, and those of the constants that are left, are all
abbrev pub invariant-loop-constant : goal.invariant-loop-constant
invariant-loop-constant l =
    spec.values_after (map enumeration_of l.enumerations) (map valued_seen l.values.items)
    (map constant_of (drop l.constant-index l.constants))
    ≡ spec.values_of (map enumeration_of l.enumerations) (map constant_of l.constants)
