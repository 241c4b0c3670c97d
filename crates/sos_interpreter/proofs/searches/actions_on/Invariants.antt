use Rattle.std.proofs.Common.{◌≡◌, map, take}
use Rattle.checked_chart.specs.Views.{block_seen}
use Rattle.sos_interpreter.proofs.searches.actions_on.Given as goal

abbrev pub invariant-loop-place : goal.invariant-loop-place
invariant-loop-place l =
    map (λ a. block_seen a.now) l.actions.items ≡ map (λ p. block_seen p.action.now) (take l.place-index l.places)
