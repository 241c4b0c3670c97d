-- Bounds by what procedures are of: where each procedure keeps its own, no procedure of the code has more.
use Rattle.std.proofs.Common.{◌≡◌, ℕ, zero, suc, ◌+◌, ◌≤◌, List, [], ◌∷◌, map, Option, Some, None, refl, ap, arith}
use Rattle.std.specs.Prelude.{slice_get, slice_index}
use Rattle.std.specs.Option.{option_map_or}
use Rattle.checked_chart.specs.Chart.{Chart}
use Rattle.code_language.specs.Instrs.{Instr}
use Rattle.code_language.specs.Measures.{greatest, reckon}
use Rattle.code_language.proofs.Reckoned.{IsMeasure, reckon_bounded}
use Rattle.chart_code.specs.Bodies.{body, procedures_of}
use Rattle.chart_code.specs.Keys.{Key, layout}
use Rattle.chart_code.proofs.StateStands.{StandsAt}

-- the greatest of numbers is at most what each is
pub greatest_most : (m : ℕ) (ns : List ℕ) → ((p : ℕ) → slice_index ns p ≤ m) → greatest ns ≤ m
greatest_most m [] h = omega arith
greatest_most m (n ∷ ns) h = omega (arith, h 0, greatest_most m ns (λ p. h (suc p)))

-- what stands in the list that f makes is made of what stands there
made_of : {A B : Type 0} (f : A → B) (xs : List A) (k : ℕ) (y : B) → slice_get (map f xs) k ≡ Some y
    → (x : A) × (slice_get xs k ≡ Some x) × (f x ≡ y)
made_of f [] k y e = absurd cc
made_of f (x ∷ xs) zero y e = (x, refl, cc e)
made_of f (x ∷ xs) (suc k) y e = made_of f xs k y e

module _ (c : Chart) (bound : Key → ℕ) where
  -- the bound of what the procedure at a number is of, 0 where there is none
  unfoldable pub bound_at : ℕ → ℕ
  bound_at p = option_map_or bound (slice_get (layout c) p) 0

  -- where a key stands it is that of the key
  pub at_key : (p : ℕ) (key : Key) → StandsAt c p key → bound_at p ≡ bound key
  unfolding bound_at
  at_key p key e = ap (λ o. option_map_or bound o 0) e

  -- what no key that stands there is above, no number is
  pub at_most : (m : ℕ) → ((p : ℕ) (key : Key) → StandsAt c p key → bound key ≤ m) → (p : ℕ) → bound_at p ≤ m
  unfolding bound_at
  at_most m h p = go (slice_get (layout c) p) refl
    where
      go : (o : Option Key) → slice_get (layout c) p ≡ o → option_map_or bound o 0 ≤ m
      go None e = omega arith
      go (Some key) e = h p key e

  -- where each procedure keeps its bound by those that it calls, no procedure of the code has more than its number's
  pub all_bounded : (F : (ℕ → ℕ) → List Instr → ℕ) → IsMeasure F
      → ((p : ℕ) (key : Key) → StandsAt c p key → F bound_at (body c key) ≤ bound key) → (p : ℕ)
      → slice_index (reckon F [] (procedures_of c).procs) p ≤ bound_at p
  unfolding procedures_of
  all_bounded F measure keeps p =
      reckon_bounded F measure bound_at (map (body c) (layout c)) [] (λ q. omega arith) (λ k is e.
      let made = made_of (body c) (layout c) k is e in
      let n : 0 + k ≡ k = omega arith in
      omega (
        arith,
        keeps k made.0 made.1,
        at_key k made.0 made.1,
        ap (F bound_at) made.2,
        ap bound_at n,
      )) p
