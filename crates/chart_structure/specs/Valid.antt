-- What a chart without faults of structure has.
use Rattle.std.specs.Prelude.{◌≡◌, ◌≢◌, ◌<◌, ◌≤◌, ℕ, List, [], Some, false}
use Rattle.token_grammar.specs.declared.token.Span.{Span}
use Rattle.active_config.specs.declared.comp.Comp.TheVariants.{Or}
use Rattle.active_config.specs.Tree.{state_count, comp_of, children_of}
use Rattle.checked_chart.specs.declared.limits.TheConstants.{PAIR_LIMIT}
use Rattle.checked_chart.specs.declared.parts.ListKind.{ListKind}
use Rattle.checked_chart.specs.declared.parts.ListKind.TheVariants.{Default}
use Rattle.checked_chart.specs.Valid.{MayLead}
use Rattle.checked_chart.specs.Reached.{Reached, Meets}
use Rattle.chart_structure.specs.declared.net.Arrow.{Arrow}
use Rattle.chart_structure.specs.Net.{Net, word_of, history_of, list_of, junction_list}
use Rattle.chart_structure.specs.Reached.{links_of, NetPairs}
use Rattle.chart_structure.specs.Structure.{IsLast, Leads}

-- a list isn't empty, and its last transition has neither event nor guard
pub record Closes (list : List Arrow) : Type 0 where
  pub some : list ≢ []
  pub last : (a : Arrow) → IsLast list a → a.«open» ≡ false

-- each word is the composition of its state, the root has children; ORs, and they alone, have default lists, which
-- close, as do the lists of all junctions reached from one; history is for ORs; what is met from a list leads where
-- it may; and there aren't too many pairs
pub record IsValid (n : Net) : Type 0 where
  pub words : (s : ℕ) → s < state_count n.tree → word_of n s ≡ comp_of n.tree s
  pub children : children_of n.tree 0 ≢ []
  pub no_default : (s : ℕ) → s < state_count n.tree → comp_of n.tree s ≢ Or → list_of n s Default ≡ []
  pub default : (s : ℕ) → s < state_count n.tree → comp_of n.tree s ≡ Or → Closes (list_of n s Default)
  pub junctions : (s j : ℕ) → s < state_count n.tree → Reached (links_of n) (list_of n s Default) j
      → Closes (junction_list n j)
  pub history : (s : ℕ) (at : Span) → s < state_count n.tree → history_of n s ≡ Some at → comp_of n.tree s ≡ Or
  pub leads : (s : ℕ) (kind : ListKind) (list : List Arrow) (a : Arrow) (d : ℕ) → s < state_count n.tree
      → Meets (links_of n) (list_of n s kind) list → Leads list a d → MayLead n.tree s kind d
  pub pairs : (count : ℕ) → NetPairs n count → count ≤ PAIR_LIMIT
