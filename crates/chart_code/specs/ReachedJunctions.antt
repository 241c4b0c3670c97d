-- The junctions that are reached from a list, each once, in the order in which they are first met.
use Rattle.std.specs.Prelude.{◌≡◌, ◌<◌, ◌↔◌, ℕ, zero, suc, ◌+◌, nat_eq, Bool, false, ◌||◌, IsTrue}
use Rattle.std.specs.Prelude.{List, [], ◌∷◌, ◌++◌, Option, Some, None, slice_get, if◌then◌else◌}
use Rattle.std.specs.List.{AllByRecursion}
use Rattle.checked_chart.specs.declared.parts.Dest.{Dest}
use Rattle.checked_chart.specs.declared.parts.Dest.TheVariants.{State, Junction}
use Rattle.checked_chart.specs.Chart.{Chart, Trans, junction, junction_count}
use Rattle.checked_chart.specs.Reached.{links_of, Reached}

-- ---- numbers in lists

-- whether a number is in a list
unfoldable pub has : List ℕ → ℕ → Bool
has [] j = false
has (x ∷ xs) j = nat_eq x j || has xs j

-- its first place, and the length where it isn't there
unfoldable pub place_of : List ℕ → ℕ → ℕ
place_of [] j = 0
place_of (x ∷ xs) j = if nat_eq x j then 0 else suc (place_of xs j)

-- no number stands twice
abbrev pub Distinct : List ℕ → Type 0
Distinct [] = Unit {0}
Distinct (x ∷ xs) = (has xs x ≡ false) × Distinct xs

-- the sum of f over a list
unfoldable pub sum_over : (ℕ → ℕ) → List ℕ → ℕ
sum_over f [] = 0
sum_over f (x ∷ xs) = f x + sum_over f xs

-- ---- breadth first

-- one number more, where it is new
abbrev pub meet_one : List ℕ → ℕ → List ℕ
meet_one found j = if has found j then found else found ++ j ∷ []

-- more numbers, those that are new, in order
unfoldable pub meet : List ℕ → List ℕ → List ℕ
meet found [] = found
meet found (j ∷ js) = meet (meet_one found j) js

-- goes on where there is a number
abbrev pub on_some : Option ℕ → List ℕ → (ℕ → List ℕ) → List ℕ
on_some None found go = found
on_some (Some j) found go = go j

-- the i-th number found and at most n - 1 after it bring, one after the other, the numbers that come next to them
unfoldable pub spread : (ℕ → List ℕ) → ℕ → ℕ → List ℕ → List ℕ
spread next zero i found = found
spread next (suc n) i found = on_some (slice_get found i) found (λ j. spread next n (suc i) (meet found (next j)))

-- ---- junctions

-- a junction, before others
abbrev pub with_junction : Dest → List ℕ → List ℕ
with_junction (State d) js = js
with_junction (Junction j) js = j ∷ js

-- the junctions to which the transitions of a list lead, in order
unfoldable pub junctions_to : List Trans → List ℕ
junctions_to [] = []
junctions_to (t ∷ ts) = with_junction t.dest (junctions_to ts)

-- the junctions that are reached from a list
unfoldable pub reached : Chart → List Trans → List ℕ
reached c list =
    spread (λ j. junctions_to (junction c j)) (junction_count c) 0 (meet [] (junctions_to list))

-- all has each junction that is reached from the list, and no other, once, and each is a junction of the chart
pub record AreReached (c : Chart) (list : List Trans) (all : List ℕ) : Type 0 where
  pub exact : (j : ℕ) → IsTrue (has all j) ↔ Reached (links_of c) list j
  pub once : Distinct all
  pub within : AllByRecursion (λ j. j < junction_count c) all
