-- What the statements and the test of counters do with numbers.
use Rattle.std.proofs.Common.{◌≡◌, ℕ, ℤ, ◌+◌, ◌-◌, ◌^◌, ◌&&◌, min, max, pos, ◌+ℤ◌, Bool, false, Ok, Result}
use Rattle.std.proofs.Common.{cond, Less, Greater, Equal, is_ge, int_cmp}
use Rattle.std.proofs.Common.{refl, sym, ap, ap₂, ◌∙◌, subst, arith, nat_le, nat_lt, int_le, int_lt, neg_ℤ, if◌then◌else◌}
use Rattle.fixed_point.specs.declared.num.Num.{Num}
use Rattle.fixed_point.specs.declared.scale.Scale.{Scale}
use Rattle.fixed_point.specs.declared.fitting.Mode.TheVariants.{Saturate}
use Rattle.fixed_point.specs.declared.fitting.Overflow.{Overflow}
use Rattle.fixed_point.specs.Numbers.{sum_of}
use Rattle.fixed_point.specs.Scales.{fitted, within}
use Rattle.fixed_point.proofs.Floors.{floored-raised, scaled-own}
use Rattle.actions.specs.declared.expr.Value.TheVariants.{Flag, Number}
use Rattle.actions.specs.Data.{Datum, datum, value_of_datum, kept, keep, assigned}
use Rattle.actions.specs.Values.{value_of, number_of, compared}
use Rattle.actions.specs.Changes.{with_data, assigned_in}
use Rattle.actions.specs.World.{World}
use Rattle.counting_rules.specs.Counters.{whole, one_more}
use Rattle.counting_rules.specs.Numbers.{IsCounter, with_count, has_counted}

-- a whole number at a fraction
abbrev num : ℕ → ℕ → Num
num frac n = record { mantissa = pos n; frac = frac }

-- what an unsigned type makes of a whole number
abbrev cut : ℕ → ℕ → Result ℤ Overflow
cut n c = if nat_le 0 n && nat_le n c then Ok (pos n) else Ok (if nat_lt n 0 then pos 0 else pos c)

cut_off : (n c : ℕ) → cut n c ≡ Ok (pos (min n c))
cut_off n c = grind arith

-- what a type makes of a whole number, by its sign
abbrev signed_cut : Bool → ℕ → ℕ → Result ℤ Overflow
signed_cut b width n =
    if int_le (if b then neg_ℤ (pos (2 ^ (width - 1))) else pos 0) (pos n)
    && int_le (pos n) (if b then pos (2 ^ (width - 1) - 1) else pos (2 ^ width - 1))
    then Ok (pos n)
    else Ok (
    if int_lt (pos n) (if b then neg_ℤ (pos (2 ^ (width - 1))) else pos 0)
    then (if b then neg_ℤ (pos (2 ^ (width - 1))) else pos 0)
    else (if b then pos (2 ^ (width - 1) - 1) else pos (2 ^ width - 1)))

-- the comparison of whole numbers
at_least : (n t : ℕ) → is_ge (cond (nat_lt n t) Less (cond (nat_lt t n) Greater Equal)) ≡ nat_le t n
at_least n t = grind arith

module _ (scale : Scale) (unsigned : scale.signed ≡ false) (is_whole : scale.frac ≡ 0) where
  fitted_num : (frac n : ℕ) → frac ≡ 0 → fitted (num frac n) scale Saturate ≡ Ok (pos (min n (2 ^ scale.width - 1)))
  unfolding fitted
  fitted_num frac n e =
      ap (within scale Saturate) (floored-raised (num frac n) scale.frac (omega arith)
      ∙ scaled-own (num frac n) scale.frac (omega arith))
      ∙ ap (λ b. signed_cut b scale.width n) unsigned ∙ cut_off n (2 ^ scale.width - 1)

  sum_num : (n : ℕ) → sum_of (num scale.frac n) (num 0 1) ≡ num (max scale.frac 0) (n + 1)
  sum_num n =
      ap₂ (λ x y. record { mantissa = x +ℤ y; frac = max scale.frac 0 })
      (scaled-own (num scale.frac n) (max scale.frac 0) (omega arith))
      (scaled-own (num 0 1) (max scale.frac 0) (omega arith))

module _ (v greatest n : ℕ) (w : World) (h : IsCounter (datum w.vals v) greatest n) where
  -- the counter and one more
  pub one_more_is : assigned_in v (one_more v) w ≡ Ok (with_count v (min (n + 1) greatest) w)
  unfolding assigned_in assigned value_of
  one_more_is =
      subst (λ (d : Datum).
      with_data (keep w.vals v (kept (Number (sum_of (number_of (value_of_datum d)) (num 0 1))) d)) w
      ≡ Ok (with_count v (min (n + 1) greatest) w)) (sym h.is)
      (ap (λ s. with_data (keep w.vals v (fitted s h.scale Saturate)) w) (sum_num h.scale h.unsigned h.whole n)
      ∙ ap (λ r. with_data (keep w.vals v r) w)
      (fitted_num h.scale h.unsigned h.whole (max h.scale.frac 0) (n + 1) (let q = h.whole in omega arith))
      ∙ ap (λ c. Ok (with_count v (min (n + 1) c) w)) (sym h.top))

  -- the counter that begins again
  pub reset_is : assigned_in v (whole 0) w ≡ Ok (with_count v 0 w)
  unfolding assigned_in assigned value_of
  reset_is =
      subst (λ (d : Datum). with_data (keep w.vals v (kept (Number (num 0 0)) d)) w ≡ Ok (with_count v 0 w)) (sym h.is)
      (ap (λ r. with_data (keep w.vals v r) w) (fitted_num h.scale h.unsigned h.whole 0 0 refl)
      ∙ ap (λ c. Ok (with_count v c w)) (let q : min 0 (2 ^ h.scale.width - 1) ≡ 0 = omega arith in q))

  -- the test of `after`
  pub test_is : (t : ℕ) → value_of w.vals w.marks (has_counted v t) ≡ Ok (Flag (nat_le t n))
  unfolding value_of
  test_is t =
      subst (λ (d : Datum).
      compared is_ge (value_of_datum d) (Number (num 0 t)) ≡ Ok (Flag (nat_le t n))) (sym h.is)
      (ap₂ (λ x y. Ok (Flag (is_ge (int_cmp x y))))
      (scaled-own (num h.scale.frac n) (max h.scale.frac 0) (let q = h.whole in omega arith))
      (scaled-own (num 0 t) (max h.scale.frac 0) (let q = h.whole in omega arith))
      ∙ ap (λ x. Ok (Flag x)) (at_least n t))
