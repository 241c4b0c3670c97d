-- Sums over numbers, over the numbers between two, and over lists. Those up to a number of sums, of one number and of
-- multiples are `sum_to_plus`, `sum_to_constant` and `sum_to_times` of `chart_code/proofs/Sums.antt`.
use Rattle.std.proofs.Common.{◌≡◌, ℕ, zero, suc, ◌+◌, ◌-◌, ◌*◌, ◌<◌, ◌≤◌, refl, ap}
use Rattle.std.proofs.Common.{◌⊎◌, inl, inr, arith, add-mul}
use Rattle.std.proofs.lemmas.Bool.{cases_lt}
use Rattle.chart_code.specs.Orders.{sum_to, sum_between}
use Rattle.chart_code.proofs.Sums.{sum_next, sum_to_le, sum_between_is, sum_to_constant}

-- ---- sums to a number

-- a sum of terms that are no less is no less
pub sum_to_most : (f g : ℕ → ℕ) (n : ℕ) → ((i : ℕ) → i < n → f i ≤ g i) → sum_to f n ≤ sum_to g n
unfolding sum_to
sum_to_most f g zero h = omega arith
sum_to_most f g (suc n) h = omega (arith, h n (omega arith), sum_to_most f g n (λ i l. h i (omega arith)))

-- sums of terms that are the same below n are the same
pub sum_to_equal : (f g : ℕ → ℕ) (n : ℕ) → ((i : ℕ) → i < n → f i ≡ g i) → sum_to f n ≡ sum_to g n
unfolding sum_to
sum_to_equal f g zero h = refl
sum_to_equal f g (suc n) h = omega (arith, h n (omega arith), sum_to_equal f g n (λ i l. h i (omega arith)))

-- each term is at most the sum
pub sum_to_term : (f : ℕ → ℕ) (n i : ℕ) → i < n → f i ≤ sum_to f n
sum_to_term f n i h = omega (arith, sum_next f i, sum_to_le f (suc i) n (omega arith))

-- ---- sums between two numbers

-- nothing stands between a number and one that isn't greater
pub sum_between_none : (f : ℕ → ℕ) (a b : ℕ) → b ≤ a → sum_between f a b ≡ 0
unfolding sum_between
sum_between_none f a b h = omega (arith, sum_to_le f b a h)

rest_times : (k s a b : ℕ) → s + a ≡ b → s * k + a * k ≡ b * k
rest_times k s a b e = omega (arith, add-mul s a k, ap (λ n. n * k) e)

-- a sum of one number
pub sum_between_constant : (k a b : ℕ) → sum_between (λ i. k) a b ≡ (b - a) * k
sum_between_constant k a b = at (cases_lt b a)
  where
    at : (b < a) ⊎ (a ≤ b) → sum_between (λ i. k) a b ≡ (b - a) * k
    at (inl less) =
        let none : b - a ≡ 0 = omega arith in
        omega (arith, sum_between_none (λ i. k) a b (omega arith), ap (λ n. n * k) none)
    at (inr le) =
        omega (
          arith,
          sum_between_is (λ i. k) a b le,
          sum_to_constant k a,
          sum_to_constant k b,
          rest_times k (b - a) a b (omega arith),
        )
