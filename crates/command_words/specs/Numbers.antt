-- The numbers that words of the command line write.
use Rattle.std.specs.Prelude.{ℕ, nat_le, nat_lt, Bool, ◌&&◌, List, length}
use Rattle.std.specs.List.{list_all}
use Rattle.std.specs.Char.{digit_value}
use Rattle.std.specs.Str.Parse.{digits_value, without_leading_plus}

-- a word, by its bytes
abbrev pub Text : Type 0
Text = List ℕ

-- a number is an optional `+` and at least one digit; leading zeros are allowed
abbrev pub is_number : Text → Bool
is_number text = nat_lt 0 (length (without_leading_plus text))
    && list_all (λ b. nat_lt (digit_value b) 10) (without_leading_plus text)

-- the number that such a text denotes
abbrev pub number_of : Text → ℕ
number_of text = digits_value 10 (without_leading_plus text)

-- a number from `least` to `most`
abbrev pub is_number_in : ℕ → ℕ → Text → Bool
is_number_in least most text = is_number text && (nat_le least (number_of text) && nat_le (number_of text) most)
