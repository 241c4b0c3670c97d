-- Scales from their parts.
use Rattle.std.specs.Prelude.{◌≡◌, ℕ, nat_le, Bool, true, false, ◌&&◌, Option, Some, None}
use Rattle.std.proofs.Common.{refl}
use Rattle.std.proofs.lemmas.Bool.{and_parts, leb-true}
use Rattle.fixed_point.specs.declared.scale.Scale.{Scale}
use Rattle.fixed_point.specs.declared.scale.TheConstants.{WIDTH_LIMIT, PLACES_LIMIT}
use Rattle.fixed_point.specs.Scales.{IsWithinLimits}

-- a width of 1 to 64, and a fraction of at most 32 and at most the width
abbrev pub is_within : ℕ → ℕ → Bool
is_within width frac =
    (nat_le 1 width && nat_le width WIDTH_LIMIT) && (nat_le frac PLACES_LIMIT && nat_le frac width)

-- parts that pass this test are within the limits
abbrev pub within_limits : (width frac : ℕ) → is_within width frac ≡ true → IsWithinLimits width frac
within_limits width frac passes =
    let both = and_parts (nat_le 1 width && nat_le width WIDTH_LIMIT) (nat_le frac PLACES_LIMIT && nat_le frac width) passes in
    let wide = and_parts (nat_le 1 width) (nat_le width WIDTH_LIMIT) both.0 in
    let short = and_parts (nat_le frac PLACES_LIMIT) (nat_le frac width) both.1 in
    record {
      some_bits = leb-true 1 width wide.0;
      bits_within = leb-true width WIDTH_LIMIT wide.1;
      frac_within = leb-true frac PLACES_LIMIT short.0;
      frac_in_width = leb-true frac width short.1;
    }

-- the scale of parts within the limits
abbrev pub scale_from : (signed : Bool) (width frac : ℕ) → IsWithinLimits width frac → Scale
scale_from signed width frac limits =
    record {
      signed = signed;
      width = width;
      frac = frac;
      some_bits = limits.some_bits;
      bits_within = limits.bits_within;
      frac_within = limits.frac_within;
      frac_in_width = limits.frac_in_width;
    }

-- the scale of parts that were tested
abbrev pub scale_if : (signed : Bool) (width frac : ℕ) (passes : Bool) → is_within width frac ≡ passes → Option Scale
scale_if signed width frac true is = Some (scale_from signed width frac (within_limits width frac is))
scale_if signed width frac false is = None

-- the scale of these parts, where they are within the limits
unfoldable pub scale_of_parts : Bool → ℕ → ℕ → Option Scale
scale_of_parts signed width frac = scale_if signed width frac (is_within width frac) refl
