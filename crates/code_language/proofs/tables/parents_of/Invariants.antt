use Rattle.std.proofs.Common.{◌≡◌, map, take}
use Rattle.code_language.specs.Acceptance.{parent_or_0}
use Rattle.code_language.proofs.tables.parents_of.Given as goal

abbrev pub invariant-loop-state : goal.invariant-loop-state
invariant-loop-state l = l.parents.items ≡ map parent_or_0 (take l.state-index l.states)
