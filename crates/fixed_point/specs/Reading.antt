-- Decimal text as a number: an optional minus sign, digits, optionally a point and digits, and
-- optionally `q` and one or two digits, the number of bits after the point.
use Rattle.std.specs.Prelude.{ℕ, ◌+◌, ◌-◌, ◌*◌, ◌/◌, ◌%◌, ◌^◌, ◌==◌, nat_lt, nat_le, pos, neg_ℤ}
use Rattle.std.specs.Prelude.{Bool, true, false, not, ◌&&◌, if◌then◌else◌, List, [], ◌∷◌, ◌++◌}
use Rattle.std.specs.Prelude.{length, drop, take_while, Option, Some, None, Result, Ok, Err}
use Rattle.std.specs.Char.{is_ascii_digit}
use Rattle.fixed_point.specs.Text.{first_from}
use Rattle.fixed_point.specs.declared.num.Num.{Num}
use Rattle.fixed_point.specs.declared.reading.TheConstants.{DIGIT_LIMIT}
use Rattle.fixed_point.specs.declared.rounding.TheConstants.{READ_LIMIT}
use Rattle.fixed_point.specs.declared.scale.TheConstants.{PLACES_LIMIT}
use Rattle.fixed_point.specs.declared.reading.NumFault.{NumFault}
use Rattle.fixed_point.specs.declared.reading.NumFault.TheVariants.{NotNumber, TooLong, NotBinary}

-- 1 to 3, in the order of the variants
abbrev pub fault_number : NumFault → ℕ
fault_number NotNumber = 1
fault_number TooLong = 2
fault_number NotBinary = 3

-- ---- the parts of a text

-- the text begins with this byte
abbrev pub starts_with : ℕ → List ℕ → Bool
starts_with byte [] = false
starts_with byte (first ∷ rest) = first == byte

-- the text without this byte at its front, if it is there
abbrev pub without : ℕ → List ℕ → List ℕ
without byte text = if starts_with byte text then drop 1 text else text

-- the digits at the front
abbrev pub leading_digits : List ℕ → List ℕ
leading_digits text = take_while is_ascii_digit text

-- what comes after the digits at the front
abbrev pub after_digits : List ℕ → List ℕ
after_digits text = drop (length (leading_digits text)) text

-- the digits after a point at the front, if there is one
abbrev pub digits_behind : List ℕ → List ℕ
digits_behind text = if starts_with 46 text then leading_digits (drop 1 text) else []

-- what comes after the point and those digits
abbrev pub rest_behind : List ℕ → List ℕ
rest_behind text = if starts_with 46 text then after_digits (drop 1 text) else text

-- a minus sign stands at the front
abbrev pub is_negative : List ℕ → Bool
is_negative text = starts_with 45 text

-- the digits before the point
abbrev pub whole_digits : List ℕ → List ℕ
whole_digits text = leading_digits (without 45 text)

-- what comes after the digits before the point
abbrev pub after_whole : List ℕ → List ℕ
after_whole text = after_digits (without 45 text)

-- a point stands there
abbrev pub has_point : List ℕ → Bool
has_point text = starts_with 46 (after_whole text)

-- the digits after the point, if there is one
abbrev pub behind_digits : List ℕ → List ℕ
behind_digits text = digits_behind (after_whole text)

-- what comes after the digits after the point
abbrev pub after_behind : List ℕ → List ℕ
after_behind text = rest_behind (after_whole text)

-- a `q` stands there
abbrev pub has_bits : List ℕ → Bool
has_bits text = starts_with 113 (after_behind text)

-- what comes after the `q`
abbrev pub bits_digits : List ℕ → List ℕ
bits_digits text = drop 1 (after_behind text)

-- ---- the number that digits denote

-- the number that digits denote, after the digits of another number
unfoldable pub value_after : ℕ → List ℕ → ℕ
value_after n [] = n
value_after n (digit ∷ digits) = value_after (n * 10 + (digit - 48)) digits

-- the number that digits tell
abbrev pub value_of : List ℕ → ℕ
value_of digits = value_after 0 digits

-- one or two digits, of a value up to 32
abbrev pub is_bits : List ℕ → Bool
is_bits digits = length (leading_digits digits) == length digits
    && nat_le 1 (length digits) && nat_le (length digits) 2 && nat_le (value_of digits) PLACES_LIMIT

-- the number of bits that the digits denote, if they are one or two of a value up to 32
abbrev pub bits_read : List ℕ → Option ℕ
bits_read digits = if is_bits digits then Some (value_of digits) else None

-- the bits that `q` asks for, if it stands there
abbrev pub bits_of : List ℕ → Option ℕ
bits_of text = if has_bits text then Some (value_of (bits_digits text)) else None

-- ---- the number of a text

-- the text is a number
abbrev pub is_number : List ℕ → Bool
is_number text = nat_lt 0 (length (whole_digits text))
    && (if has_point text then nat_lt 0 (length (behind_digits text)) else true)
    && (if has_bits text then not (is_negative text) && is_bits (bits_digits text)
    else length (after_behind text) == 0)

-- units / 10 ^ places is a whole number of steps of 2 ^ -frac
abbrev pub is_exact : ℕ → ℕ → ℕ → Bool
is_exact units places frac = (units * 2 ^ frac) % 10 ^ places == 0

-- the fewest bits after the point, up to 32, at which units / 10 ^ places is exact, if there are any
abbrev pub exact_frac : ℕ → ℕ → Option ℕ
exact_frac units places =
    let frac = first_from (is_exact units places) 0 (PLACES_LIMIT + 1) in
    if nat_lt frac (PLACES_LIMIT + 1) then Some frac else None

-- the bits that `q` asks for, else the fewest that are exact
abbrev pub frac_of : Option ℕ → ℕ → ℕ → Option ℕ
frac_of None units places = exact_frac units places
frac_of (Some bits) units places = Some bits

-- the floor of units / 10 ^ places in steps of 2 ^ -frac
abbrev pub steps_of : ℕ → ℕ → ℕ → ℕ
steps_of units places frac = units * 2 ^ frac / 10 ^ places

-- that floor, where it is less than 2 ^ 99
abbrev pub steps_within : ℕ → ℕ → ℕ → Option ℕ
steps_within units places frac =
    if nat_lt (steps_of units places frac) READ_LIMIT then Some (steps_of units places frac) else None

-- the number of `steps` steps, with its sign, where there is a number of steps
abbrev pub signed_number : Bool → ℕ → Option ℕ → Result Num NumFault
signed_number negative frac None = Err TooLong
signed_number negative frac (Some steps) = Ok (record {
  mantissa = (if negative then neg_ℤ (pos steps) else pos steps);
  frac = frac;
})

-- the number at its fraction, where there is one
abbrev pub number_of : Bool → ℕ → ℕ → Option ℕ → Result Num NumFault
number_of negative units places None = Err NotBinary
number_of negative units places (Some frac) =
    signed_number negative frac (steps_within units places frac)

-- the number that digits before and after the point denote, with the bits that are asked for, if
-- any are, or the first fault; over 36 digits are too long
abbrev pub number_told : Bool → List ℕ → List ℕ → Option ℕ → Result Num NumFault
number_told negative whole behind bits =
    let units = value_of (whole ++ behind) in
    let places = length behind in
    if nat_lt DIGIT_LIMIT (length (whole ++ behind)) then Err TooLong
    else number_of negative units places (frac_of bits units places)

-- the number that a text denotes, or the first fault
unfoldable pub number_read : List ℕ → Result Num NumFault
number_read text =
    if is_number text
    then number_told (is_negative text) (whole_digits text) (behind_digits text) (bits_of text)
    else Err NotNumber
