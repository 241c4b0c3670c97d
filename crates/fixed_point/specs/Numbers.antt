-- What the calls answer, in exact numbers: mantissa / 2 ^ frac, with no bound on either.
use Rattle.std.specs.Prelude.{ℕ, suc, ◌+◌, ◌-◌, ◌*◌, ◌/◌, ◌%◌, ◌^◌, ◌≤◌, ◌==◌, max, ℤ, pos, negsuc, ◌+ℤ◌}
use Rattle.std.specs.Prelude.{◌-ℤ◌, ◌*ℤ◌, neg_ℤ, unsigned_abs, Bool, if◌then◌else◌, Result, Ok, Err}
use Rattle.std.specs.Ordering.{int_cmp}
use Rattle.std.specs.declared.cmp.Ordering.{Ordering}
use Rattle.fixed_point.specs.declared.num.Num.{Num}
use Rattle.fixed_point.specs.declared.num.TheConstants.{MAGNITUDE_LIMIT, FRACTION_LIMIT}
use Rattle.fixed_point.specs.declared.quotient.Zero.{Zero}

-- the mantissa of the same value at a fraction that is at least its own
abbrev pub scaled : Num → ℕ → ℤ
scaled a frac = a.mantissa *ℤ pos (2 ^ (frac - a.frac))

-- the greater of the two fractions
abbrev pub common_frac : Num → Num → ℕ
common_frac a b = max a.frac b.frac

-- fractions of at most 64, and at the greater of them mantissas of at most 2 ^ 100 in magnitude
pub record CanAlign (a b : Num) : Type 0 where
  pub left_frac : a.frac ≤ FRACTION_LIMIT
  pub right_frac : b.frac ≤ FRACTION_LIMIT
  pub left_size : unsigned_abs (scaled a (common_frac a b)) ≤ MAGNITUDE_LIMIT
  pub right_size : unsigned_abs (scaled b (common_frac a b)) ≤ MAGNITUDE_LIMIT

-- the sum of the values, at the greater fraction
abbrev pub sum_of : Num → Num → Num
sum_of a b = record {
  mantissa = scaled a (common_frac a b) +ℤ scaled b (common_frac a b);
  frac = common_frac a b;
}

-- the difference of the values, at the greater fraction
abbrev pub difference_of : Num → Num → Num
difference_of a b = record {
  mantissa = scaled a (common_frac a b) -ℤ scaled b (common_frac a b);
  frac = common_frac a b;
}

-- the value with the other sign
abbrev pub negation_of : Num → Num
negation_of a = record { mantissa = neg_ℤ a.mantissa; frac = a.frac }

-- the product of the values, at the sum of the fractions
abbrev pub product_of : Num → Num → Num
product_of a b = record { mantissa = a.mantissa *ℤ b.mantissa; frac = a.frac + b.frac }

-- the order of the values: that of their mantissas at one fraction
abbrev pub order_of : Num → Num → Ordering
order_of a b = int_cmp (scaled a (common_frac a b)) (scaled b (common_frac a b))

-- the greatest whole number that is at most z / n, for n above 0
abbrev pub floor_by : ℤ → ℕ → ℤ
floor_by (pos z) n = pos (z / n)
floor_by (negsuc z) n = negsuc (z / n)

-- the greatest whole number that is at most z / d, for d other than 0
abbrev pub floor_div : ℤ → ℤ → ℤ
floor_div z (pos d) = floor_by z d
floor_div z (negsuc d) = floor_by (neg_ℤ z) (suc d)

-- the dividend's mantissa, scaled so that the quotient of the two mantissas is at the greater fraction
abbrev pub dividend_of : Num → Num → ℤ
dividend_of a b = a.mantissa *ℤ pos (2 ^ ((common_frac a b - a.frac) + b.frac))

-- fractions of at most 64, and a dividend of at most 2 ^ 100 in magnitude
pub record CanDivide (a b : Num) : Type 0 where
  pub left_frac : a.frac ≤ FRACTION_LIMIT
  pub right_frac : b.frac ≤ FRACTION_LIMIT
  pub size : unsigned_abs (dividend_of a b) ≤ MAGNITUDE_LIMIT

-- the floor of the quotient of the values, at the greater fraction; none by 0
abbrev pub quotient_of : Num → Num → Result Num Zero
quotient_of a b = if unsigned_abs b.mantissa == 0 then Err (record {}) else Ok (record {
  mantissa = floor_div (dividend_of a b) b.mantissa;
  frac = common_frac a b;
})

-- the value in steps of 2 ^ -frac, rounded down to a whole number of them
abbrev pub floored : Num → ℕ → ℤ
floored a frac = floor_by (a.mantissa *ℤ pos (2 ^ frac)) (2 ^ a.frac)

-- the value is a whole number of steps of 2 ^ -frac
abbrev pub is_whole : Num → ℕ → Bool
is_whole a frac = (unsigned_abs a.mantissa * 2 ^ frac) % 2 ^ a.frac == 0
