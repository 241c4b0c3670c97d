-- Marking the junctions that are reached from a list. Each list has a mark of its own, a number.
use Rattle.std.specs.Prelude.{◌≡◌, ◌==◌, ◌+◌, ◌-◌, ◌^◌, ◌<◌, ◌≤◌, ℕ, Bool, true, List, length, min, slice_index}
use Rattle.checked_chart.specs.Reached.{Reached, LeadsTo, weight}
use Rattle.chart_structure.specs.declared.net.Arrow.{Arrow}
use Rattle.chart_structure.specs.Net.{Net, junction_count, junction_list}
use Rattle.chart_structure.specs.Reached.{links_of}

-- whether a junction has the mark
abbrev pub has_mark : List ℕ → ℕ → ℕ → Bool
has_mark marks mark j = slice_index marks j == mark

-- the number is in the list
abbrev pub IsIn : List ℕ → ℕ → Type 0
IsIn xs j = (i : ℕ) × (i < length xs) × (slice_index xs i ≡ j)

-- the greatest number of pairs that is counted
abbrev pub greatest_count : ℕ
greatest_count = 2 ^ 64 - 1

-- a tree has fewer states than this, so that each of its lists has a mark of 32 bits
abbrev pub state_bound : ℕ
state_bound = 2 ^ 30

-- exactly the junctions in `found` have the mark, each of them is reached from the list, and `pairs` is how many
-- transitions stand in the list or in one of them
pub record IsWalk (n : Net) (list : List Arrow) (mark : ℕ) (marks found : List ℕ) (pairs : ℕ) : Type 0 where
  pub sized : length marks ≡ junction_count n
  pub below : (j : ℕ) → slice_index marks j ≤ mark
  pub listed : (i : ℕ) → i < length found → has_mark marks mark (slice_index found i) ≡ true
  pub all : (j : ℕ) → has_mark marks mark j ≡ true → IsIn found j
  pub sound : (j : ℕ) → has_mark marks mark j ≡ true → Reached (links_of n) list j
  pub count : length found ≡ weight (has_mark marks mark) (λ _. 1) (junction_count n)
  pub total : pairs
      ≡ min
      (length list + weight (has_mark marks mark) (λ j. length (junction_list n j)) (junction_count n)) greatest_count

-- a mark that was set stays, and what was found stays where it stands
pub record Grows (mark : ℕ) (marks more found longer : List ℕ) : Type 0 where
  pub kept : (j : ℕ) → has_mark marks mark j ≡ true → has_mark more mark j ≡ true
  pub grown : length found ≤ length longer
  pub same : (i : ℕ) → i < length found → slice_index longer i ≡ slice_index found i

-- the junctions that a list leads to have the mark
abbrev pub Marked : Net → ℕ → List ℕ → List Arrow → Type 0
Marked n mark marks list = (j : ℕ) → LeadsTo (links_of n) list j → has_mark marks mark j ≡ true
