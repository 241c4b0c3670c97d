-- Digits of numbers.
use Rattle.std.proofs.Common.{◌≡◌, ℕ, zero, suc, ◌-◌, ◌/◌, ◌%◌, ◌<◌, [], ◌++◌, refl, arith}
use Rattle.std.specs.Prelude.{decimal}
use Rattle.std.proofs.lemmas.Fmt.{decimal_digit}
use Rattle.std.proofs.lemmas.Grind.{common_steps}
use Rattle.fixed_point.specs.Text.{last_digits}

-- no digits are no bytes
pub last_digits-zero : (k n : ℕ) → k ≡ 0 → last_digits k n ≡ []
unfolding last_digits
last_digits-zero k n none = rw none refl

-- the last digit after those before it
pub last_digits-split : (k n : ℕ) → 0 < k → last_digits k n ≡ last_digits (k - 1) (n / 10) ++ decimal (n % 10)
unfolding last_digits
last_digits-split zero n some = absurd (omega arith)
last_digits-split (suc k) n some =
    let less : suc k - 1 ≡ k = omega arith in
    rw (less, decimal_digit (n % 10) (omega arith)) refl

-- what was taken off digit by digit
pub ruleset digits = (common_steps, last_digits-zero, last_digits-split)
