use Rattle.std.proofs.Common.{◌≡◌, map, drop, is_some}
use Rattle.flow_base.specs.Names.{index_of}
use Rattle.statechart_counters.specs.Seen.{counted_seen, texts}
use Rattle.statechart_counters.proofs.counted.has.Given as goal

-- what is left gives what all give
abbrev pub invariant-loop-one : goal.invariant-loop-one
invariant-loop-one l =
    is_some (index_of l.name (texts (map counted_seen (drop l.one-index l.counted))))
    ≡ is_some (index_of l.name (texts (map counted_seen l.counted)))
