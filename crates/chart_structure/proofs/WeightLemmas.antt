-- Sums over the numbers of a set.
use Rattle.std.proofs.Common.{◌≡◌, ◌≢◌, ℕ, zero, suc, ◌+◌, ◌≤◌, ◌<◌, Bool, true, false, refl, sym, ap, subst, cond}
use Rattle.std.proofs.Common.{arith, ⊎_elim}
use Rattle.std.proofs.lemmas.Bool.{cases_lt}
use Rattle.checked_chart.specs.Reached.{weight}

-- sets that have the same numbers below the limit weigh the same
pub weight_same : (p q : ℕ → Bool) (w : ℕ → ℕ) (n : ℕ) → ((i : ℕ) → i < n → q i ≡ p i) → weight q w n ≡ weight p w n
weight_same p q w zero f = refl
weight_same p q w (suc n) f =
    let rest = weight_same p q w n (λ i lt. f i (omega arith)) in
    let here : cond (q n) (w n) 0 ≡ cond (p n) (w n) 0 = ap (λ b. cond b (w n) 0) (f n (omega arith)) in
    omega arith

-- one more number in the set adds its weight
pub weight_more : (p q : ℕ → Bool) (w : ℕ → ℕ) (n j : ℕ) → j < n → p j ≡ false → q j ≡ true →
    ((i : ℕ) → i ≢ j → q i ≡ p i) → weight q w n ≡ weight p w n + w j
weight_more p q w zero j lt off on other = absurd (omega arith)
weight_more p q w (suc n) j lt off on other = ⊎_elim
    (λ below. let rest = weight_more p q w n j below off on other in
    let here : cond (q n) (w n) 0 ≡ cond (p n) (w n) 0 = ap (λ b. cond b (w n) 0)
    (other n (λ e. absurd (omega arith))) in
    omega arith)
    (λ at. let e : j ≡ n = omega arith in
    let rest = weight_same p q w n (λ i lt. other i (λ f. absurd (omega arith))) in
    let a : cond (q n) (w n) 0 ≡ w n = ap (λ b. cond b (w n) 0) (subst (λ i. q i ≡ true) e on) in
    let b : cond (p n) (w n) 0 ≡ 0 = ap (λ b. cond b (w n) 0) (subst (λ i. p i ≡ false) e off) in
    let c : w j ≡ w n = ap w e in
    omega arith)
    (cases_lt j n)

-- one number counts at most one
ones : (p : ℕ → Bool) (n : ℕ) (b : Bool) → cond b 1 0 ≤ 1
ones p n true = omega arith
ones p n false = omega arith

-- a set has no more numbers below a limit than there are
pub weight_ones : (p : ℕ → Bool) (n : ℕ) → weight p (λ _. 1) n ≤ n
weight_ones p zero = omega arith
weight_ones p (suc n) = let rest = weight_ones p n in let here = ones p n (p n) in omega arith

-- so do sets of which each has what the other has
pub weight_where : (p q : ℕ → Bool) (w : ℕ → ℕ) (n : ℕ) → ((i : ℕ) → p i ≡ true → q i ≡ true) →
    ((i : ℕ) → q i ≡ true → p i ≡ true) → weight q w n ≡ weight p w n
weight_where p q w n f g = weight_same p q w n (λ i lt. go (q i) (p i) (g i) (f i))
  where
    go : (a b : Bool) → (a ≡ true → b ≡ true) → (b ≡ true → a ≡ true) → a ≡ b
    go true b h k = sym (h refl)
    go false true h k = k refl
    go false false h k = refl

-- two weights that are the same everywhere give the same sum
pub weight_by : (p : ℕ → Bool) (v w : ℕ → ℕ) → ((j : ℕ) → v j ≡ w j) → (n : ℕ) → weight p v n ≡ weight p w n
weight_by p v w f zero = refl
weight_by p v w f (suc n) =
    let rest = weight_by p v w f n in
    let here : cond (p n) (v n) 0 ≡ cond (p n) (w n) 0 = ap (λ x. cond (p n) x 0) (f n) in
    omega arith
