-- Sums over numbers.
use Rattle.std.proofs.Common.{◌≡◌, ℕ, zero, suc, ◌+◌, ◌-◌, ◌*◌, ◌≤◌, refl, ap, arith, suc-mul}
use Rattle.chart_code.specs.Orders.{sum_to, sum_between}

-- one number more
pub sum_next : (f : ℕ → ℕ) (n : ℕ) → sum_to f (suc n) ≡ sum_to f n + f n
unfolding sum_to
sum_next f n = refl

-- a sum over so many more numbers is no less
sum_to_grows : (f : ℕ → ℕ) (a k : ℕ) → sum_to f a ≤ sum_to f (a + k)
sum_to_grows f a zero = let e : a + 0 ≡ a = omega arith in omega (arith, ap (sum_to f) e)
sum_to_grows f a (suc k) =
    let e : a + suc k ≡ suc (a + k) = omega arith in
    omega (arith, ap (sum_to f) e, sum_next f (a + k), sum_to_grows f a k)

-- a sum over more numbers is no less
pub sum_to_le : (f : ℕ → ℕ) (a b : ℕ) → a ≤ b → sum_to f a ≤ sum_to f b
sum_to_le f a b h = let e : a + (b - a) ≡ b = omega arith in omega (arith, ap (sum_to f) e, sum_to_grows f a (b - a))

-- a sum up to b is that up to a and that from a to b
pub sum_between_is : (f : ℕ → ℕ) (a b : ℕ) → a ≤ b → sum_between f a b + sum_to f a ≡ sum_to f b
unfolding sum_between
sum_between_is f a b h = omega (arith, sum_to_le f a b h)

-- nothing stands between a number and itself
pub between_none : (f : ℕ → ℕ) (n : ℕ) → sum_between f n n ≡ 0
between_none f n = omega (arith, sum_between_is f n n (omega arith))

-- one number more at the end
pub between_more : (f : ℕ → ℕ) (a n : ℕ) → a ≤ n → sum_between f a (suc n) ≡ f n + sum_between f a n
between_more f a n h =
    omega (arith, sum_between_is f a n h, sum_between_is f a (suc n) (omega arith), sum_next f n)

-- a sum of sums
pub sum_to_plus : (f g : ℕ → ℕ) (n : ℕ) → sum_to (λ i. f i + g i) n ≡ sum_to f n + sum_to g n
unfolding sum_to
sum_to_plus f g zero = refl
sum_to_plus f g (suc n) = omega (arith, sum_to_plus f g n)

-- a sum of one number
pub sum_to_constant : (k n : ℕ) → sum_to (λ i. k) n ≡ n * k
unfolding sum_to
sum_to_constant k zero = omega arith
sum_to_constant k (suc n) = omega (arith, sum_to_constant k n, suc-mul n k)

-- the numbers from a to below b are so many
pub ones : (a b : ℕ) → a ≤ b → sum_between (λ i. 1) a b ≡ b - a
ones a b h = omega (arith, sum_between_is (λ i. 1) a b h, sum_to_constant 1 a, sum_to_constant 1 b)

-- a sum of multiples
pub sum_to_times : (k : ℕ) (f : ℕ → ℕ) (n : ℕ) → sum_to (λ i. k * f i) n ≡ k * sum_to f n
unfolding sum_to
sum_to_times k f zero = omega arith
sum_to_times k f (suc n) = let h = sum_to_times k f n in grind (arith, h)

-- sums of the same numbers are the same
pub sum_to_same : (f g : ℕ → ℕ) → ((i : ℕ) → f i ≡ g i) → (n : ℕ) → sum_to f n ≡ sum_to g n
unfolding sum_to
sum_to_same f g e zero = refl
sum_to_same f g e (suc n) = omega (arith, e n, sum_to_same f g e n)
