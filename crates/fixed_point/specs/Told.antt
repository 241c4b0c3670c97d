-- Which number the digits of a text denote, as texts are read.
use Rattle.std.specs.Prelude.{◌≡◌, ℕ, ◌*◌, ◌^◌, ◌≤◌, ◌++◌, ℤ, pos, int_lt, unsigned_abs, IsTrue, IsFalse, List, length}
use Rattle.fixed_point.specs.Reading.{is_number, is_negative, has_bits, whole_digits, behind_digits, value_of}

-- the text is a number without `q`, and it denotes mantissa / 2 ^ frac exactly
pub record TellsExactly (mantissa : ℤ) (frac : ℕ) (text : List ℕ) : Type 0 where
  pub number : IsTrue (is_number text)
  pub no_bits : IsFalse (has_bits text)
  pub sign : is_negative text ≡ int_lt mantissa (pos 0)
  pub value : value_of (whole_digits text ++ behind_digits text) * 2 ^ frac
      ≡ unsigned_abs mantissa * 10 ^ length (behind_digits text)

-- no text that denotes it exactly has fewer bytes
abbrev pub IsShortest : ℤ → ℕ → List ℕ → Type 0
IsShortest mantissa frac text =
    (other : List ℕ) → TellsExactly mantissa frac other → length text ≤ length other
