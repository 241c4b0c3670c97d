-- A chart text and its canonical text.
use Rattle.std.specs.Prelude.{◌≡◌, ℕ, ◌≤◌, List, length}
use Rattle.chart_lexer.specs.declared.front.Stop.TheVariants as stops
use Rattle.chart_lexer.specs.Lex.{cut_of}
use Rattle.chart_tree.specs.declared.limits.TheConstants.{CHART_TEXT_LIMIT}
use Rattle.chart_tree.specs.Trees.{Chart}
use Rattle.chart_grammar.specs.Limits.{usual}
use Rattle.chart_grammar.specs.States as grammar
use Rattle.chart_reader.specs.Text.{tokens_of, Spells}
use Rattle.chart_print.specs.Canonical.{canonical}
use Rattle.chart_print.specs.Places.{AreSameApartFromPlaces}

-- the tokens of the text to its end, however long it is, spell a chart that is the same apart from places
pub record SpellsAgain (text : List ℕ) (c : Chart) : Type 0 where
  pub chart : Chart
  pub whole : (cut_of text).stop ≡ stops.End
  pub spelled : (grammar.chart usual).spells (tokens_of text) chart
  pub same : AreSameApartFromPlaces chart c

-- what a canonical text of a chart preserves: it spells the chart again; where it isn't too long for a chart text it is
-- one, and each chart that it spells has it as its canonical text
pub record IsKept (written : List ℕ) (c : Chart) : Type 0 where
  pub again : SpellsAgain written c
  pub is_read : length written ≤ CHART_TEXT_LIMIT → Spells written again.chart
  pub stays : (d : Chart) → Spells written d → canonical d ≡ written

-- what is written for a text: the canonical text of the chart that the text spells, which preserves that chart
pub record IsFormatted (text written : List ℕ) : Type 0 where
  pub chart : Chart
  pub spelled : Spells text chart
  pub written_is : written ≡ canonical chart
  pub kept : IsKept written chart
