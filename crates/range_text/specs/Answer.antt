-- What a text of ranges says of a chart.
use Rattle.std.specs.Prelude.{◌≡◌, ◌⊎◌, ℕ, List, codes}
use Rattle.checked_chart.specs.Chart.{Chart}
use Rattle.range_rules.specs.declared.cert.Certificate.{Certificate}
use Rattle.range_check.specs.Runs.{StaysInRanges}
use Rattle.range_text.specs.Lines.{ranges_text}

-- The lines are those of spans and faults that all runs of the chart keep to: at each moment each datum is in its span,
-- and no fault has come that a line says doesn't come.
pub record TellsRanges (c : Chart) (text : List ℕ) : Type 0 where
  pub cert : Certificate
  pub kept : StaysInRanges c cert
  pub spelled : text ≡ ranges_text c.names cert

-- a text of ranges tells such spans and faults, or that none are known
abbrev pub AnswersRanges : Chart → List ℕ → Type 0
AnswersRanges c text = TellsRanges c text ⊎ (text ≡ codes "unknown\n")
