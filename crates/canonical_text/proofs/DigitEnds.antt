-- Digits with no digit after them.
use Rattle.std.proofs.Common.{◌≡◌, ℕ, false, List, [], ◌∷◌, ◌++◌, length, refl, ◌∙◌}
use Rattle.std.specs.List.{prefix_len}
use Rattle.std.specs.Char.{is_ascii_digit}
use Rattle.fixed_point.proofs.Numerals.{AreDigits}
use Rattle.chart_lexer.specs.Bytes.{begins}
use Rattle.canonical_text.proofs.Runs.{run_ends}

-- no digit is in front
abbrev pub DigitsEnd : List ℕ → Type 0
DigitsEnd rest = begins is_ascii_digit rest ≡ false

-- so the run of digits in front is empty
pub no_digits : (rest : List ℕ) → DigitsEnd rest → prefix_len is_ascii_digit rest ≡ 0
no_digits [] none = refl
no_digits (b ∷ rest) none = rw none refl

-- digits with no digit after them are all that is in front
pub digits_end : (digits rest : List ℕ) → AreDigits digits → DigitsEnd rest
    → prefix_len is_ascii_digit (digits ++ rest) ≡ length digits
digits_end digits rest all none = run_ends is_ascii_digit digits rest none ∙ all
