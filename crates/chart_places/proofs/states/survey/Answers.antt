use Rattle.chart_places.specs.Placed.{placed_states}
use Rattle.chart_places.proofs.states.survey.Goals as goal

pub returns : goal.returns
unfolding placed_states
returns c =
    let all = c.in_ok-place_state.ensures in rw (c.new-places.ensures.items, c.new-places.ensures.len) at all
