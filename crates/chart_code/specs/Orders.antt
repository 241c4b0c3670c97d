-- Sums over numbers, and lists that are made number by number.
use Rattle.std.specs.Prelude.{ℕ, zero, suc, ◌+◌, ◌-◌, List, [], ◌∷◌, ◌++◌}

-- the sum of f over the numbers below n
unfoldable pub sum_to : (ℕ → ℕ) → ℕ → ℕ
sum_to f zero = 0
sum_to f (suc n) = sum_to f n + f n

-- the sum of f over the numbers from a to below b
unfoldable pub sum_between : (ℕ → ℕ) → ℕ → ℕ → ℕ
sum_between f a b = sum_to f b - sum_to f a

-- what f gives for each number below n, from 0 up
unfoldable pub ascending : {A : Type 0} → (ℕ → List A) → ℕ → List A
ascending f zero = []
ascending f (suc n) = ascending f n ++ f n

-- what f gives for each number below n, down to 0
unfoldable pub descending : {A : Type 0} → (ℕ → List A) → ℕ → List A
descending f zero = []
descending f (suc n) = f n ++ descending f n

-- an item for each of n numbers from a on
unfoldable pub span : {A : Type 0} → (ℕ → A) → ℕ → ℕ → List A
span f a zero = []
span f a (suc n) = f a ∷ span f (suc a) n
