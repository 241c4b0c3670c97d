use Rattle.std.proofs.Common.{◌≡◌, ◌++◌, map, drop}
use Rattle.std.specs.Prelude.{vec_len}
use Rattle.chart_tree.specs.Views.{state_of}
use Rattle.chart_places.specs.Survey.{placed_of, placed_row}
use Rattle.chart_places.proofs.states.+survey.Given as goal

-- the states so far, and those that are left with those below them, are all
abbrev pub invariant-place_below-loop-state : goal.invariant-place_below-loop-state
invariant-place_below-loop-state l =
    map placed_of l.places.items ++ placed_row l.parent (vec_len l.places) (map state_of (drop l.state-index l.states))
    ≡ map placed_of l.fn.places.items ++ placed_row l.parent (vec_len l.fn.places) (map state_of l.states)
