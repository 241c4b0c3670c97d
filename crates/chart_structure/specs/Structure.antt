-- The faults of structure, each with its place.
use Rattle.std.specs.Prelude.{◌≡◌, ◌≢◌, ◌+◌, ◌<◌, ℕ, List, [], length, true, false, Some, slice_get}
use Rattle.token_grammar.specs.declared.token.Span.{Span}
use Rattle.active_config.specs.declared.comp.Comp.TheVariants.{Leaf, Or}
use Rattle.active_config.specs.Tree.{state_count, children_of, is_below, is_at_or_below}
use Rattle.chart_tree.specs.declared.fault.FormKind.TheVariants as kinds
use Rattle.chart_tree.specs.declared.first.FaultAt.{FaultAt}
use Rattle.chart_tree.specs.First.{at_place}
use Rattle.checked_chart.specs.declared.limits.TheConstants.{PAIR_LIMIT}
use Rattle.checked_chart.specs.declared.parts.Dest.TheVariants.{State}
use Rattle.checked_chart.specs.declared.parts.ListKind.{ListKind}
use Rattle.checked_chart.specs.declared.parts.ListKind.TheVariants.{Outer, Inner, Default}
use Rattle.checked_chart.specs.Homes.{home_of}
use Rattle.checked_chart.specs.Reached.{Reached, Meets}
use Rattle.chart_structure.specs.declared.net.Arrow.{Arrow}
use Rattle.chart_structure.specs.Net.{Net, Has, word_of, name_of, history_of, list_of, junction_list, junction_name}
use Rattle.chart_structure.specs.Reached.{links_of, NetPairs}

-- a is the last transition of the list
abbrev pub IsLast : List Arrow → Arrow → Type 0
IsLast list a = (i : ℕ) × (i + 1 ≡ length list) × (slice_get list i ≡ Some a)

-- a transition of the list leads to the state
pub record Leads (list : List Arrow) (a : Arrow) (d : ℕ) : Type 0 where
  pub has : Has list a
  pub to : a.to ≡ State d

-- what is wrong with state s
pub data StateFault (n : Net) (s : ℕ) : FaultAt → Type 0 where
  -- it has a composition word and no children: at its name
  EmptyState : word_of n s ≢ Leaf → children_of n.tree s ≡ []
      → StateFault n s (at_place kinds.EmptyComposition (name_of n s))
  -- it is the chart itself, which has no children: at its name
  EmptyChart : s ≡ 0 → children_of n.tree s ≡ [] → StateFault n s (at_place kinds.EmptyComposition (name_of n s))
  -- it is an OR with children and an empty default list: at its name
  Missing : word_of n s ≡ Or → children_of n.tree s ≢ [] → list_of n s Default ≡ []
      → StateFault n s (at_place kinds.DefaultMissing (name_of n s))
  -- it is an AND or a leaf with a default list: at the first transition of that list
  Unwanted : (a : Arrow) → word_of n s ≢ Or → slice_get (list_of n s Default) 0 ≡ Some a
      → StateFault n s (at_place kinds.DefaultUnwanted a.at)
  -- it is an AND or a leaf with history: at the word
  UnwantedHistory : (at : Span) → word_of n s ≢ Or → history_of n s ≡ Some at
      → StateFault n s (at_place kinds.HistoryUnwanted at)

-- what is wrong with a list that is met from a list of state s
pub data ListFault (n : Net) (s : ℕ) (list : List Arrow) : ListKind → FaultAt → Type 0 where
  -- it is met from a default list, and its last transition has an event or a guard: at that transition
  Open : (a : Arrow) → IsLast list a → a.«open» ≡ true → ListFault n s list Default (at_place kinds.DefaultOpen a.at)
  -- it is met from a default list and leads to a state that isn't strictly below s: at the destination
  LeavesDefault : (a : Arrow) (d : ℕ) → Leads list a d → is_below n.tree d s ≡ false
      → ListFault n s list Default (at_place kinds.DefaultLeaves a.to_at)
  -- it is met from an inner list and leads to a state that is neither s nor below it: at the destination
  LeavesInner : (a : Arrow) (d : ℕ) → Leads list a d → is_at_or_below n.tree d s ≡ false
      → ListFault n s list Inner (at_place kinds.InnerLeaves a.to_at)
  -- it is met from an inner list and leads to s or below it, and the home isn't an OR: at the destination
  CrossesInner : (a : Arrow) (d : ℕ) → Leads list a d → is_at_or_below n.tree d s ≡ true
      → word_of n (home_of n.tree s Inner d) ≢ Or → ListFault n s list Inner (at_place kinds.CrossesRegions a.to_at)
  -- it is met from an outer list and leads to a state, and the home isn't an OR: at the destination
  CrossesOuter : (a : Arrow) (d : ℕ) → Leads list a d
      → word_of n (home_of n.tree s Outer d) ≢ Or → ListFault n s list Outer (at_place kinds.CrossesRegions a.to_at)

-- the faults of structure: those of a state, those of a list that is met from one of its lists, and an empty
-- junction that is reached from its default list, at the name of the junction
pub data StructureFault (n : Net) : FaultAt → Type 0 where
  OfState : (s : ℕ) (f : FaultAt) → s < state_count n.tree → StateFault n s f → StructureFault n f
  OfList : (s : ℕ) (kind : ListKind) (list : List Arrow) (f : FaultAt) → s < state_count n.tree
      → Meets (links_of n) (list_of n s kind) list → ListFault n s list kind f → StructureFault n f
  OfEmpty : (s j : ℕ) → s < state_count n.tree → Reached (links_of n) (list_of n s Default) j → junction_list n j ≡ []
      → StructureFault n (at_place kinds.DefaultOpen (junction_name n j))

-- there are too many pairs of a list and a transition: at the chart's name
pub data PairFault (n : Net) : FaultAt → Type 0 where
  TooMany : (count : ℕ) → NetPairs n count → PAIR_LIMIT < count
      → PairFault n (at_place kinds.TooManyPairs (name_of n 0))
