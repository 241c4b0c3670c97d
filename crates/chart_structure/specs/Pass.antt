-- What the pass over the structure answers, and what it knows of a state that it has looked at.
use Rattle.std.specs.Prelude.{◌≡◌, ◌+◌, ◌<◌, ◌⊎◌, ℕ, List, [], Option, Some, None, min}
use Rattle.chart_tree.specs.declared.fault.FormKind.TheVariants as kinds
use Rattle.chart_tree.specs.declared.first.FaultAt.{FaultAt}
use Rattle.chart_tree.specs.First.{at_place, Passed, IsFirst}
use Rattle.checked_chart.specs.declared.parts.ListKind.{ListKind}
use Rattle.checked_chart.specs.declared.parts.ListKind.TheVariants.{Default}
use Rattle.checked_chart.specs.Reached.{Reached, Meets, ArePairs, StatePairs}
use Rattle.chart_structure.specs.declared.net.Arrow.{Arrow}
use Rattle.chart_structure.specs.Net.{Net, list_of, junction_list, junction_name}
use Rattle.chart_structure.specs.Marks.{greatest_count}
use Rattle.chart_structure.specs.Reached.{links_of, NetPairs}
use Rattle.chart_structure.specs.Structure.{StateFault, ListFault, StructureFault, PairFault}

-- ---- the answer

-- the number is that of the net's pairs, or the greatest number where there are more
pub record CountsPairs (n : Net) (pairs : ℕ) : Type 0 where
  pub count : ℕ
  pub are : NetPairs n count
  pub bounded : pairs ≡ min count greatest_count

-- the first fault of structure, or else the one of pairs, or else none
abbrev pub IsAnswer : Net → Option FaultAt → Type 0
IsAnswer n None = ((f : FaultAt) → StructureFault n f → ⊥) × ((f : FaultAt) → PairFault n f → ⊥)
IsAnswer n (Some f) =
    IsFirst (StructureFault n) (Some f) ⊎ (((g : FaultAt) → StructureFault n g → ⊥) × PairFault n f)

-- ---- steps of the pass

-- every fault of the lists that are met from a list of a state is kept, or comes after the fault that is kept
pub record KindPassed (n : Net) (s : ℕ) (kind : ListKind) (r : Option FaultAt) : Type 0 where
  pub lists : (list : List Arrow) → Meets (links_of n) (list_of n s kind) list → (f : FaultAt) → ListFault n s list kind f
      → Passed r f
  pub empty : kind ≡ Default → (j : ℕ) → Reached (links_of n) (list_of n s kind) j → junction_list n j ≡ []
      → Passed r (at_place kinds.DefaultOpen (junction_name n j))

-- so is every fault of a state and of its lists
pub record StatePassed (n : Net) (s : ℕ) (r : Option FaultAt) : Type 0 where
  pub own : (f : FaultAt) → StateFault n s f → Passed r f
  pub kinds : (kind : ListKind) → KindPassed n s kind r

-- the pairs of a list were added to a count, which stays at the greatest number once it is there
pub record AddsPairs (n : Net) (list : List Arrow) (before after : ℕ) : Type 0 where
  pub count : ℕ
  pub are : ArePairs (links_of n) list count
  pub sum : after ≡ min (before + min count greatest_count) greatest_count

-- the pairs of a state's lists were added to a count in that way
pub record AddsStatePairs (n : Net) (s before after : ℕ) : Type 0 where
  pub count : ℕ
  pub are : StatePairs (links_of n) s count
  pub sum : after ≡ min (min before greatest_count + count) greatest_count
