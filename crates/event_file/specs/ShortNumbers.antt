-- Short whole numbers: an optional minus sign, and 1 to 9 digits.
use Rattle.std.specs.Prelude.{ℕ, nat_eq, nat_lt, nat_le, ℤ, pos, neg_ℤ, Bool, ◌&&◌}
use Rattle.std.specs.Prelude.{◌||◌, if◌then◌else◌, List, length, Option, Some, None}
use Rattle.std.specs.List.{prefix_len}
use Rattle.std.specs.Char.{is_ascii_digit}
use Rattle.fixed_point.specs.Reading.{value_of}
use Rattle.fixed_point.specs.declared.num.Num.{Num}
use Rattle.event_file.specs.declared.short_numbers.TheConstants.{SHORT_LIMIT}

-- the text is 1 to 9 digits
abbrev pub are_few_digits : List ℕ → Bool
are_few_digits text =
    nat_lt 0 (length text) && nat_le (length text) SHORT_LIMIT && nat_eq (prefix_len is_ascii_digit text) (length text)

-- the number that they denote
abbrev pub short_value : List ℕ → Option ℕ
short_value text = if are_few_digits text then Some (value_of text) else None

-- the mantissa of a sign and a magnitude
abbrev pub signed : Bool → ℕ → ℤ
signed negative n = if negative then neg_ℤ (pos n) else pos n

-- the whole number of a sign and a magnitude
abbrev pub whole_number : Bool → ℕ → Num
whole_number negative n = record { mantissa = signed negative n; frac = 0 }

-- a mantissa of that sign and magnitude is from the limit's negative, or from 0 where there is no sign, up to below the limit
abbrev pub is_within : Bool → Bool → ℕ → ℕ → Bool
is_within signed negative steps limit =
    if negative then nat_eq steps 0 || (signed && nat_le steps limit) else nat_lt steps limit
