-- Which bounds the C of a chart has.
use Rattle.std.specs.Prelude.{◌≡◌, Option, Some, None}
use Rattle.flow_base.specs.declared.bounds.Bounds.{Bounds}
use Rattle.checked_chart.specs.Chart.{Chart}
use Rattle.bound_prove.specs.declared.need.Need.{Need}
use Rattle.bound_prove.specs.Searches.{IsNeedOf}
use Rattle.command_words.specs.Commands.{RunBounds, usual_bounds}
use Rattle.command_words.specs.Seen.{bounds_seen}

-- the bounds that a chart gives: those that no event of it overruns, and the default ones where it has none
abbrev pub bounds_given : Option Need → RunBounds
bounds_given None = usual_bounds
bounds_given (Some need) = record { depth = need.depth; steps = need.steps }

-- the bounds are those that the chart gives
pub record IsGiven (c : Chart) (bounds : Bounds) : Type 0 where
  pub need : Option Need
  pub is_need : IsNeedOf c need
  pub bounds_are : bounds_seen bounds ≡ bounds_given need

-- the bounds are those that are asked for, and where none are, those that the chart gives
abbrev pub IsBoundsFor : Option RunBounds → Chart → Bounds → Type 0
IsBoundsFor (Some asked) c bounds = bounds_seen bounds ≡ asked
IsBoundsFor None c bounds = IsGiven c bounds
