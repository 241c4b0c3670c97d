-- One turn of the loop that spreads, and its end.
use Rattle.std.proofs.Common.{◌≡◌, ℕ, zero, suc, ◌+◌, ◌-◌, ◌<◌, ◌≤◌, Bool, true}
use Rattle.std.proofs.Common.{false, List, [], ◌∷◌, ◌++◌, length, Some, None, cond}
use Rattle.std.proofs.Common.{refl, sym, ap, ◌∙◌, arith}
use Rattle.std.specs.Prelude.{slice_get, slice_index_or}
use Rattle.std.specs.List.{AllByRecursion}
use Rattle.checked_chart.specs.declared.parts.Dest.{Dest}
use Rattle.checked_chart.specs.declared.parts.Dest.TheVariants.{State, Junction}
use Rattle.checked_chart.specs.Chart.{Chart, Trans, junction_count}
use Rattle.checked_chart.specs.Valid.{AreTrans, IsDest}
use Rattle.chart_code.specs.ReachedJunctions.{has, meet_one, meet, on_some, spread, with_junction, junctions_to}

-- within a list an item stands
pub get_there : (xs : List ℕ) (i d : ℕ) → i < length xs → slice_get xs i ≡ Some (slice_index_or xs i d)
get_there [] i d h = absurd (omega arith)
get_there (x ∷ xs) zero d h = refl
get_there (x ∷ xs) (suc i) d h = get_there xs i d (omega arith)

-- the same, where the list is known by another name
pub get_in : (xs ys : List ℕ) (i d : ℕ) → ys ≡ xs → i < length ys → slice_get xs i ≡ Some (slice_index_or ys i d)
get_in xs ys i d e h = rw (← e) (get_there ys i d h)

-- past a list none stands
get_past : (xs : List ℕ) (i : ℕ) → length xs ≤ i → slice_get xs i ≡ None
get_past [] i h = refl
get_past (x ∷ xs) zero h = absurd (omega arith)
get_past (x ∷ xs) (suc i) h = get_past xs i (omega arith)

-- what is found and what is left to look at are all, before and after a turn
pub spread_turn : (next : ℕ → List ℕ) (m i y : ℕ) (found new all : List ℕ) → i < m → slice_get found i ≡ Some y
    → spread next (m - i) i found ≡ all → new ≡ meet found (next y) → spread next (m - (i + 1)) (i + 1) new ≡ all
unfolding spread
spread_turn next m i y found new all h is inv step =
    let n : m - i ≡ suc (m - (i + 1)) = omega arith in
    let s : i + 1 ≡ suc i = omega arith in
    ap (λ xs. spread next (m - (i + 1)) (i + 1) xs) step
    ∙ ap (λ k. spread next (m - (i + 1)) k (meet found (next y))) s
    ∙ sym (ap (λ o. on_some o found (λ j. spread next (m - (i + 1)) (suc i) (meet found (next j)))) is)
    ∙ sym (ap (λ k. spread next k i found) n) ∙ inv

-- before the first turn
pub spread_start : (next : ℕ → List ℕ) (n : ℕ) (found all : List ℕ) → found ≡ all
    → spread next (n - 0) 0 found ≡ spread next n 0 all
spread_start next n found all e =
    let k : n - 0 ≡ n = omega arith in ap (λ m. spread next m 0 found) k ∙ ap (λ xs. spread next n 0 xs) e

-- no junctions are left
pub spread_over : (next : ℕ → List ℕ) (m i : ℕ) (found all : List ℕ) → m ≤ i → spread next (m - i) i found ≡ all
    → found ≡ all
unfolding spread
spread_over next m i found all h inv =
    let n : m - i ≡ 0 = omega arith in sym (ap (λ k. spread next k i found) n) ∙ inv

-- all that were found were looked at
pub spread_none : (next : ℕ → List ℕ) (n i : ℕ) (found all : List ℕ) → length found ≤ i → spread next n i found ≡ all
    → found ≡ all
unfolding spread
spread_none next zero i found all h inv = inv
spread_none next (suc n) i found all h inv =
    sym (ap (λ o. on_some o found (λ j. spread next n (suc i) (meet found (next j)))) (get_past found i h)) ∙ inv

-- one more where it is new, all of them below n
met_one_below : (n : ℕ) (found : List ℕ) (j : ℕ) → AllByRecursion (λ x. x < n) found → j < n
    → AllByRecursion (λ x. x < n) (meet_one found j)
met_one_below n found j a h = at (has found j)
  where
    more : (xs : List ℕ) → AllByRecursion (λ x. x < n) xs → AllByRecursion (λ x. x < n) (xs ++ j ∷ [])
    more [] a = (h, tt)
    more (x ∷ xs) a = (a.0, more xs a.1)

    at : (b : Bool) → AllByRecursion (λ x. x < n) (cond b found (found ++ j ∷ []))
    at true = a
    at false = more found a

-- more of them, all of them below n
pub met_below : (n : ℕ) (found js new : List ℕ) → new ≡ meet found js → AllByRecursion (λ x. x < n) found
    → AllByRecursion (λ x. x < n) js → AllByRecursion (λ x. x < n) new
unfolding meet
met_below n found [] new e a b = rw e a
met_below n found (j ∷ js) new e a b = met_below n (meet_one found j) js new e (met_one_below n found j a b.0) b.1

-- a list of a chart leads to junctions of the chart
pub targets_below : (c : Chart) (ts : List Trans) → AreTrans c ts
    → AllByRecursion (λ j. j < junction_count c) (junctions_to ts)
unfolding junctions_to
targets_below c [] a = tt
targets_below c (t ∷ ts) a = at t.dest a.0.dest (targets_below c ts a.1)
  where
    at : (d : Dest) → IsDest c d → AllByRecursion (λ j. j < junction_count c) (junctions_to ts)
        → AllByRecursion (λ j. j < junction_count c) (with_junction d (junctions_to ts))
    at (State s) i rest = rest
    at (Junction j) i rest = (i, rest)

-- the item at a place has what all have
pub all_below_at : (n : ℕ) (xs : List ℕ) (i d : ℕ) → AllByRecursion (λ x. x < n) xs → i < length xs
    → slice_index_or xs i d < n
all_below_at n [] i d a h = absurd (omega arith)
all_below_at n (x ∷ xs) zero d a h = a.0
all_below_at n (x ∷ xs) (suc i) d a h = all_below_at n xs i d a.1 (omega arith)
