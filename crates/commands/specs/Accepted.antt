-- Which chart texts are accepted, with how many pairs, and which aren't, and for what.
use Rattle.std.specs.Prelude.{ℕ, List}
use Rattle.checked_chart.specs.Chart.{Chart}
use Rattle.checked_chart.specs.Reached.{ChartPairs}
use Rattle.accepted_charts.specs.Accepted.{IsAccepted, Refuses}
use Rattle.commands.specs.declared.refusal.Refusal.{Refusal}
use Rattle.commands.specs.Refusals.{RefusesBy}

-- the text is that of an accepted chart, which has that number of pairs
pub record IsCounted (text : List ℕ) (chart : Chart) (count : ℕ) : Type 0 where
  pub accepted : IsAccepted text chart
  pub pairs : ChartPairs chart count

-- the text isn't that of an accepted chart, and that is its first fault
abbrev pub RefusesAccepted : List ℕ → Refusal → Type 0
RefusesAccepted = RefusesBy Refuses
