-- Which chart texts are accepted, and as which chart; and the first fault of another text.
use Rattle.std.specs.Prelude.{◌≢◌, ℕ, List, Option, Some, None}
use Rattle.token_grammar.specs.declared.token.Span.{Span}
use Rattle.chart_tree.specs.declared.fault.FormKind.{FormKind}
use Rattle.chart_tree.specs.declared.fault.FormFault.{FormFault}
use Rattle.chart_tree.specs.declared.fault.FormFault.TheVariants as faults
use Rattle.chart_tree.specs.First.{at_place}
use Rattle.chart_tree.specs.Trees as trees
use Rattle.chart_reader.specs.Text.{Spells, IsRefusal}
use Rattle.checked_chart.specs.Chart.{Chart}
use Rattle.resolved_tree.specs.Resolved.{Resolved}
use Rattle.chart_scope.specs.Names as names
use Rattle.chart_scope.specs.Resolution.{IsResolved}
use Rattle.chart_check.specs.Check.{IsChecked, IsFirstOf}

-- the text spells a chart text without faults of names, and this is its resolved chart
pub record IsResolvedText (text : List ℕ) (r : Resolved) : Type 0 where
  pub tree : trees.Chart
  pub spells : Spells text tree
  pub resolves : IsResolved tree r

-- the text has no fault, and this is the chart for which it stands
pub record IsAccepted (text : List ℕ) (c : Chart) : Type 0 where
  pub resolved : Resolved
  pub read : IsResolvedText text resolved
  pub checked : IsChecked resolved c

-- the first fault of a text: the text spells no chart text; else of its names; else of its resolved chart
pub data IsFirstFault (text : List ℕ) (kind : FormKind) (at : Span) : Type 0 where
  OfText : IsRefusal text (faults.At kind at) → IsFirstFault text kind at
  OfNames : (tree : trees.Chart) → Spells text tree → names.Refuses tree (faults.At kind at)
      → IsFirstFault text kind at
  OfChart : (r : Resolved) → IsResolvedText text r → IsFirstOf r (at_place kind at) → IsFirstFault text kind at

-- a text is refused with its first fault, or memory ran out
abbrev pub Refuses : List ℕ → FormFault → Type 0
Refuses text (faults.At kind at) = IsFirstFault text kind at
Refuses text faults.Memory = Unit {0}

-- what is answered of a text whose first fault is asked for: none where it is accepted, and never a want of memory
abbrev pub IsFaultOf : List ℕ → Option FormFault → Type 0
IsFaultOf text None = (c : Chart) × IsAccepted text c
IsFaultOf text (Some fault) = Refuses text fault × (fault ≢ faults.Memory)
