-- What the calls of the interpreter require of their arguments: states, lives and worlds of a chart.
use Rattle.std.specs.Prelude.{ℕ, ◌<◌}
use Rattle.active_config.specs.Tree.{state_count}
use Rattle.actions.specs.World.{World, Fits, Life, On, Bare}
use Rattle.checked_chart.specs.Chart.{Chart}

-- a state of the chart
abbrev pub IsState : Chart → ℕ → Type 0
IsState c s = s < state_count c.tree

-- a life of a state of the chart
abbrev pub IsLife : Chart → Life → Type 0
IsLife c (On s) = s < state_count c.tree
IsLife c (Bare s) = s < state_count c.tree

-- a world of the chart
abbrev pub FitsChart : Chart → World → Type 0
FitsChart c w = Fits c.tree c.names w
