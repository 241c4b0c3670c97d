-- Numbers of literals.
use Rattle.std.specs.Prelude.{ℕ, ◌+◌, ◌-◌, ◌*◌, ◌/◌, ◌%◌, ◌^◌, ◌==◌, ◌&&◌, nat_lt, nat_le, Option, Some, None}
use Rattle.std.specs.Prelude.{if◌then◌else◌}
use Rattle.std.specs.Option.{option_map, option_and_then}
use Rattle.fixed_point.specs.Reading.{frac_of, steps_within}
use Rattle.fixed_point.specs.declared.reading.TheConstants.{DIGIT_LIMIT}
use Rattle.fixed_point.specs.declared.scale.TheConstants.{PLACES_LIMIT}
use Rattle.chart_tree.specs.declared.name.LitText.{LitText}

-- a whole number as it is written
abbrev pub number : ℕ → LitText
number n = record { units = n; places = 0; q = None }

-- the number mantissa / 2^bits
pub record Binary : Type 0 where
  pub mantissa : ℕ
  pub bits : ℕ

-- the number that a literal denotes in a chart text; none where it has too many digits or bits, or isn't binary
abbrev pub binary_at : LitText → Option ℕ → Option Binary
binary_at lit None = None
binary_at lit (Some bits) =
    if nat_le bits PLACES_LIMIT
    then option_map (λ (m : ℕ). record { mantissa = m; bits = bits }) (steps_within lit.units lit.places bits)
    else None

-- the number that a literal denotes in a chart text
abbrev pub binary_of : LitText → Option Binary
binary_of lit =
    if nat_le lit.places DIGIT_LIMIT then binary_at lit (frac_of lit.q lit.units lit.places) else None

-- a quotient that is whole
abbrev pub exact_quotient : ℕ → ℕ → Option ℕ
exact_quotient a b = if nat_lt 0 b && a % b == 0 then Some (a / b) else None

-- the number that a literal denotes, where it is whole
abbrev pub whole_of : LitText → Option ℕ
whole_of lit = option_and_then (λ (b : Binary). exact_quotient b.mantissa (2 ^ b.bits)) (binary_of lit)

-- numbers of 64 bits are less than this
abbrev pub wide : ℕ
wide = 2 ^ 64

-- the literal whose value has that mantissa at so many bits behind the point: a decimal of ten places, rounded up
abbrev pub with_mantissa : ℕ → ℕ → LitText
with_mantissa bits m =
    if bits == 0 then number m
    else record { units = (m * 10 ^ 10 + (2 ^ bits - 1)) / 2 ^ bits; places = 10; q = Some bits }

-- a literal with that mantissa, if it has 64 bits at most
abbrev pub short_mantissa : LitText → ℕ → ℕ → LitText
short_mantissa lit bits m = if nat_lt m wide then with_mantissa bits m else lit

-- a number with so many bits behind the point; one of over 64 bits isn't accepted
abbrev pub binary_with : ℕ → LitText → Binary → LitText
binary_with bits lit b =
    if b.bits == bits then lit
    else (if nat_lt b.mantissa wide then short_mantissa lit bits (b.mantissa * 2 ^ bits / 2 ^ b.bits) else lit)

-- a literal with so many bits behind the point, where it denotes a number
abbrev pub at_bits : ℕ → LitText → Option Binary → LitText
at_bits bits lit None = lit
at_bits bits lit (Some b) = binary_with bits lit b
