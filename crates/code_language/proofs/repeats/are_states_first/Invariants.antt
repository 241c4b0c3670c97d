use Rattle.std.proofs.Common.{◌≡◌, map, drop}
use Rattle.code_language.specs.Acceptance.{named_of, state_named, has_no_twins}
use Rattle.code_language.proofs.RepeatLemmas.{all_new}
use Rattle.code_language.proofs.repeats.are_states_first.Given as goal

-- the states that are left are new exactly where no state has a twin
abbrev pub invariant-loop-state : goal.invariant-loop-state
invariant-loop-state l =
    all_new (map named_of l.seen.keys) (map state_named (drop l.state-index l.states)) ≡ has_no_twins l.states
