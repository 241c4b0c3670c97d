-- Bits of numbers.
use Rattle.std.proofs.Common.{◌≡◌, ◌≢◌, ◌<◌, ◌≤◌, ◌-◌, ◌^◌, ◌/◌, ◌%◌, ℕ, zero, suc, nat_eq, nat_lt}
use Rattle.std.proofs.Common.{false, if◌then◌else◌, Some, None, refl, sym, ap, arith}
use Rattle.std.proofs.Math.Nat.{div-eq_of_lt}
use Rattle.std.specs.Int.{bit_at}
use Rattle.std.proofs.lemmas.Bool.Decides.{nat_tests}
use Rattle.fixed_point.proofs.Powers.{power-le}
use Rattle.c_facts.specs.Asking.{single_bit, single_gap}

-- a number of 32 bits has no higher ones
pub high_bit : (n b : ℕ) → n < 2 ^ 32 → nat_lt b 32 ≡ false → 0 ≡ bit_at n b
high_bit n b small high =
    let most : 32 ≤ b = grind (arith, nat_tests) in
    let wide = power-le 32 b most in
    let none : n / 2 ^ b ≡ 0 = div-eq_of_lt (omega (arith, wide)) in
    ap (λ x. x % 2) (sym none)

-- no bit is left
pub single_none : (n mask : ℕ) → n ≡ 0 → None ≡ single_bit n mask
single_none n mask e = sym (ap (λ n. single_bit n mask) e)

-- the last bit, and those that are left
pub single_more : (n mask : ℕ) → n ≢ 0
    → (if nat_eq mask (2 ^ (n - 1)) then Some (n - 1) else single_bit (n - 1) mask) ≡ single_bit n mask
single_more zero mask h = absurd (h refl)
single_more (suc n) mask h =
    let e : suc n - 1 ≡ n = omega arith in
    ap (λ k. if nat_eq mask (2 ^ k) then Some k else single_bit k mask) e

-- no bit is left
pub gap_none : (n mask : ℕ) → n ≡ 0 → None ≡ single_gap n mask
gap_none n mask e = sym (ap (λ n. single_gap n mask) e)

-- the last bit, and those that are left
pub gap_more : (n mask : ℕ) → n ≢ 0
    → (if nat_eq mask (2 ^ 32 - 1 - 2 ^ (n - 1)) then Some (n - 1) else single_gap (n - 1) mask) ≡ single_gap n mask
gap_more zero mask h = absurd (h refl)
gap_more (suc n) mask h =
    let e : suc n - 1 ≡ n = omega arith in
    ap (λ k. if nat_eq mask (2 ^ 32 - 1 - 2 ^ k) then Some k else single_gap k mask) e
