-- What is known of the parts of a list in the code of a chart.
use Rattle.std.specs.Prelude.{ℕ}
use Rattle.active_config.specs.Tree.{Tree}
use Rattle.checked_chart.specs.declared.parts.ListKind.{ListKind}
use Rattle.checked_chart.specs.Chart.{life_of}
use Rattle.code_language.specs.Code.{Procedures}
use Rattle.code_language.specs.Instrs as instrs
use Rattle.code_language.specs.Reach.{HasAt}
use Rattle.chart_code.specs.Kinds.{HasBlock, IsDestination}
use Rattle.chart_code.specs.Numbers.{Numbers}
use Rattle.chart_code.specs.StateProcedures.{guard_code, life_test}
pub use Rattle.chart_code.specs.SearchParts.{Meaning, DestBy, EachBy}

-- what is known in a chart's code; J says of a junction that the list comes to it
abbrev pub meaning_of : Tree → Procedures → Numbers → ℕ → ListKind → (ℕ → Type 0) → Meaning
meaning_of t k N s kind J = record {
  guard = λ q e. HasAt k q 0 (guard_code e);
  condition = HasBlock t k N (life_test (life_of s kind));
  action = HasBlock t k N instrs.BareHome;
  dest = IsDestination t s kind;
  junction = J;
}
