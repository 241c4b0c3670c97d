-- Which chart texts are refused, and for what.
use Rattle.std.specs.Prelude.{ℕ, List}
use Rattle.chart_reader.specs.Text as reader
use Rattle.commands.specs.declared.refusal.Refusal.{Refusal}
use Rattle.commands.specs.Refusals.{RefusesBy}

-- the text is no chart text, with that first fault
abbrev pub RefusesChart : List ℕ → Refusal → Type 0
RefusesChart = RefusesBy reader.IsRefusal
