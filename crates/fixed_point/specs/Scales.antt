-- How a number is brought to a scale: in range, at its fraction.
use Rattle.std.specs.Prelude.{◌≡◌, ℕ, ◌-◌, ◌^◌, ◌≤◌, ℤ, pos, ◌+ℤ◌, ◌-ℤ◌, neg_ℤ, int_lt, int_le}
use Rattle.std.specs.Prelude.{Bool, ◌&&◌, if◌then◌else◌, Option, Some, None, Result, Ok, Err}
use Rattle.std.specs.Int.{int_rem_euclid}
use Rattle.fixed_point.specs.Numbers.{floored, is_whole}
use Rattle.fixed_point.specs.declared.num.Num.{Num}
use Rattle.fixed_point.specs.declared.scale.Scale.{Scale}
use Rattle.fixed_point.specs.declared.scale.TheConstants.{WIDTH_LIMIT, PLACES_LIMIT}
use Rattle.fixed_point.specs.declared.fitting.Mode.{Mode}
use Rattle.fixed_point.specs.declared.fitting.Mode.TheVariants.{Saturate, Wrap, Error}
use Rattle.fixed_point.specs.declared.fitting.Overflow.{Overflow}

-- a width of 1 to 64, and a fraction of at most 32 and at most the width
pub record IsWithinLimits (width frac : ℕ) : Type 0 where
  pub some_bits : 1 ≤ width
  pub bits_within : width ≤ WIDTH_LIMIT
  pub frac_within : frac ≤ PLACES_LIMIT
  pub frac_in_width : frac ≤ width

-- the scale has these parts
pub record HasParts (signed : Bool) (width frac : ℕ) (scale : Scale) : Type 0 where
  pub signed_kept : scale.signed ≡ signed
  pub width_kept : scale.width ≡ width
  pub frac_kept : scale.frac ≡ frac

-- the least mantissa
abbrev pub least : Scale → ℤ
least scale = if scale.signed then neg_ℤ (pos (2 ^ (scale.width - 1))) else pos 0

-- the greatest mantissa
abbrev pub greatest : Scale → ℤ
greatest scale =
    if scale.signed then pos (2 ^ (scale.width - 1) - 1) else pos (2 ^ scale.width - 1)

-- the mantissa lies from the least to the greatest
abbrev pub is_in_range : Scale → ℤ → Bool
is_in_range scale mantissa = int_le (least scale) mantissa && int_le mantissa (greatest scale)

-- the end of the range that is nearest to a mantissa out of it
abbrev pub nearest_end : Scale → ℤ → ℤ
nearest_end scale mantissa = if int_lt mantissa (least scale) then least scale else greatest scale

-- the mantissa in range that differs by a multiple of 2 ^ width
abbrev pub wrapped : Scale → ℤ → ℤ
wrapped scale mantissa =
    least scale +ℤ int_rem_euclid (mantissa -ℤ least scale) (pos (2 ^ scale.width))

-- what a mode makes of a mantissa that is out of range
abbrev pub by_mode : Mode → Scale → ℤ → Result ℤ Overflow
by_mode Saturate scale mantissa = Ok (nearest_end scale mantissa)
by_mode Wrap scale mantissa = Ok (wrapped scale mantissa)
by_mode Error scale mantissa = Err (record {})

-- a mantissa in range is kept; for one out of range the mode decides
abbrev pub within : Scale → Mode → ℤ → Result ℤ Overflow
within scale mode mantissa =
    if is_in_range scale mantissa then Ok mantissa else by_mode mode scale mantissa

-- the number at the scale's fraction, by floor, and then in its range
unfoldable pub fitted : Num → Scale → Mode → Result ℤ Overflow
fitted a scale mode = within scale mode (floored a scale.frac)

-- the mantissa of the value at the scale, where it is one of its values
unfoldable pub exact_mantissa : Num → Scale → Option ℤ
exact_mantissa a scale =
    if is_whole a scale.frac && is_in_range scale (floored a scale.frac)
    then Some (floored a scale.frac) else None
