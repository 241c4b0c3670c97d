use Rattle.std.proofs.Common.{◌≡◌, map, drop}
use Rattle.statechart_meaning.specs.Values as spec
use Rattle.statechart_values.specs.Views.{valued_seen}
use Rattle.statechart_values.proofs.value.value_named.Given as goal

-- what is left of the values gives what all give
abbrev pub invariant-loop-valued : goal.invariant-loop-valued
invariant-loop-valued l =
    spec.value_named (map valued_seen (drop l.valued-index l.values)) l.name
    ≡ spec.value_named (map valued_seen l.values) l.name
