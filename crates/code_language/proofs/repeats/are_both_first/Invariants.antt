use Rattle.std.proofs.Common.{◌≡◌, [], None, map, drop}
use Rattle.flow_base.specs.Names.{are_distinct}
use Rattle.code_language.specs.Acceptance.{named, named_of, names_of_both}
use Rattle.code_language.proofs.RepeatLemmas.{all_new}
use Rattle.code_language.proofs.repeats.are_both_first.Given as goal

-- the names that are left, of data and then of events, are new exactly where all names differ
abbrev pub invariant-loop-var : goal.invariant-loop-var
invariant-loop-var l =
    all_new (map named_of l.seen.keys) (map (named None) (names_of_both (drop l.var-index l.vars) l.events))
    ≡ are_distinct (names_of_both l.vars l.events)

-- and then those of events
abbrev pub invariant-loop-event : goal.invariant-loop-event
invariant-loop-event l =
    all_new (map named_of l.seen.keys) (map (named None) (names_of_both [] (drop l.event-index l.events)))
    ≡ are_distinct (names_of_both l.vars l.events)
