-- Which junctions are reached from a list, and how many pairs of a list and a transition there are. What is said here
-- holds of transitions in any form: of a checked chart, and of a chart whose structure isn't checked yet.
use Rattle.std.specs.Prelude.{◌≡◌, ◌+◌, ◌↔◌, ℕ, zero, suc, Bool, List, length, IsTrue, Contains, if◌then◌else◌}
use Rattle.active_config.specs.Tree.{state_count}
use Rattle.checked_chart.specs.declared.parts.Dest.{Dest}
use Rattle.checked_chart.specs.declared.parts.Dest.TheVariants.{Junction}
use Rattle.checked_chart.specs.declared.parts.ListKind.{ListKind}
use Rattle.checked_chart.specs.declared.parts.ListKind.TheVariants.{Outer, Inner, Default}
use Rattle.checked_chart.specs.Chart.{Chart, Trans, list_of, junction, junction_count}

-- where each transition leads, the lists of the states, those of the junctions, and how many junctions there are
pub record Links (X : Type 0) : Type 0 where
  pub dest : X → Dest
  pub lists : ℕ → ListKind → List X
  pub junction : ℕ → List X
  pub junctions : ℕ

-- those of a checked chart
abbrev pub links_of : Chart → Links Trans
links_of c = record {
  dest = λ t. t.dest;
  lists = list_of c;
  junction = junction c;
  junctions = junction_count c;
}

-- a transition of the list leads to the junction
pub record LeadsTo {X : Type 0} (l : Links X) (list : List X) (j : ℕ) : Type 0 where
  pub trans : X
  pub within : Contains list trans
  pub leads : l.dest trans ≡ Junction j

-- the junctions reached from a list: a transition of it, or of a junction reached from it, leads there, whatever
-- events and guards there are
pub data Reached {X : Type 0} (l : Links X) (list : List X) : ℕ → Type 0 where
  Directly : (j : ℕ) → LeadsTo l list j → Reached l list j
  Through : (k j : ℕ) → Reached l list k → LeadsTo l (l.junction k) j → Reached l list j

-- the lists that are met from a list: itself, and those of the junctions reached from it
pub data Meets {X : Type 0} (l : Links X) (list : List X) : List X → Type 0 where
  Itself : Meets l list list
  AtJunction : (j : ℕ) → Reached l list j → Meets l list (l.junction j)

-- ---- pairs of a list of a state and a transition that stands in it or in a junction reached from it

-- the sum of the weights of the numbers below n that are in a set
abbrev pub weight : (ℕ → Bool) → (ℕ → ℕ) → ℕ → ℕ
weight within w zero = 0
weight within w (suc n) = weight within w n + (if within n then w n else 0)

-- count is the number of transitions in a list and in the junctions reached from it, each junction counted once
pub record ArePairs {X : Type 0} (l : Links X) (list : List X) (count : ℕ) : Type 0 where
  pub within : ℕ → Bool
  pub exact : (j : ℕ) → IsTrue (within j) ↔ Reached l list j
  pub sum : count ≡ length list + weight within (λ j. length (l.junction j)) l.junctions

-- count is the number of pairs of the lists of state s
pub record StatePairs {X : Type 0} (l : Links X) (s count : ℕ) : Type 0 where
  pub outer : ℕ
  pub inner : ℕ
  pub default : ℕ
  pub of_outer : ArePairs l (l.lists s Outer) outer
  pub of_inner : ArePairs l (l.lists s Inner) inner
  pub of_default : ArePairs l (l.lists s Default) default
  pub sum : count ≡ outer + inner + default

-- count is the number of pairs of the lists of the first states
abbrev pub PairsBelow : {X : Type 0} → Links X → ℕ → ℕ → Type 0
PairsBelow l zero count = count ≡ 0
PairsBelow l (suc s) count =
    (own : ℕ) × (below : ℕ) × StatePairs l s own × PairsBelow l s below × (count ≡ below + own)

-- count is the number of pairs of the chart
abbrev pub ChartPairs : Chart → ℕ → Type 0
ChartPairs c count = PairsBelow (links_of c) (state_count c.tree) count
