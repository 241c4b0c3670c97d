use Rattle.std.proofs.Common.{◌≡◌, map, take}
use Rattle.code_language.specs.Acceptance.{comp_written}
use Rattle.code_language.proofs.tables.comps_of.Given as goal

abbrev pub invariant-loop-state : goal.invariant-loop-state
invariant-loop-state l = l.comps.items ≡ map comp_written (take l.state-index l.states)
