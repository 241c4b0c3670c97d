-- The parts into which the reader splits a text.
use Rattle.std.specs.Prelude.{◌≡◌, ℕ, List, IsTrue}
use Rattle.fixed_point.specs.Reading.{is_number, is_negative, whole_digits, behind_digits, bits_of}
use Rattle.fixed_point.specs.declared.reading.Numeral.{Numeral}

-- these are the parts of the text, which is a number
pub record IsSplit (text : List ℕ) (parts : Numeral) : Type 0 where
  pub number : IsTrue (is_number text)
  pub negative_is : parts.negative ≡ is_negative text
  pub whole_is : parts.whole.now ≡ whole_digits text
  pub behind_is : parts.behind.now ≡ behind_digits text
  pub bits_is : parts.bits ≡ bits_of text
