-- Values of a datum's sort, which are stored as they are.
use Rattle.std.proofs.Common.{◌≡◌, ℕ, zero, suc, ℤ, pos, negsuc, int_lt, Bool, true, false, cond, ◌&&◌}
use Rattle.std.proofs.Common.{List, Option, Some, None, Ok, IsTrue, refl, sym, ap, ◌∙◌, subst, arith}
use Rattle.std.proofs.lemmas.Int.{ints}
use Rattle.std.specs.Prelude.{IsSome}
use Rattle.fixed_point.proofs.Floors.{is_whole-raised}
use Rattle.fixed_point.specs.Numbers.{floored, is_whole}
use Rattle.fixed_point.specs.Scales.{fitted, within, by_mode, is_in_range, exact_mantissa}
use Rattle.fixed_point.specs.declared.fitting.Mode.{Mode}
use Rattle.fixed_point.specs.declared.num.Num.{Num}
use Rattle.fixed_point.specs.declared.scale.Scale.{Scale}
use Rattle.actions.specs.declared.expr.Value.{Value}
use Rattle.actions.specs.declared.expr.Value.TheVariants as values
use Rattle.actions.specs.declared.names.Sort.{Sort}
use Rattle.actions.specs.declared.names.Sort.TheVariants as sorts
use Rattle.actions.specs.Data.{Datum, is_mantissa_of, datum, value_at, with_mantissa}
use Rattle.actions.specs.Data.{kept, assigned, mantissa_in, IsValueOf}
use Rattle.actions.proofs.AssignmentLemmas.{assigned_kept}
use Rattle.actions.proofs.SizeLemmas.{floored_at_own}

-- a number that equals one of a scale is whole there, in range, and has that mantissa
pub record IsExactAt (n : Num) (scale : Scale) (m : ℤ) : Type 0 where
  pub whole : is_whole n scale.frac ≡ true
  pub in_range : is_in_range scale m ≡ true
  pub floor : floored n scale.frac ≡ m

pub exact_gives : (n : Num) (scale : Scale) (m : ℤ) → exact_mantissa n scale ≡ Some m → IsExactAt n scale m
unfolding exact_mantissa
exact_gives n scale m e = at (is_whole n scale.frac) (is_in_range scale (floored n scale.frac)) refl refl e
  where
    at : (whole within : Bool) → is_whole n scale.frac ≡ whole → is_in_range scale (floored n scale.frac) ≡ within
        → cond (whole && within) (Some (floored n scale.frac)) None ≡ Some m → IsExactAt n scale m
    at true true w r e =
        let floor : floored n scale.frac ≡ m = cc in
        record { whole = w; in_range = ap (is_in_range scale) (sym floor) ∙ r; floor = floor }
    at true false w r e = absurd cc
    at false within w r e = absurd cc

-- brought to the scale it stays, in every mode
fitted_exact : (n : Num) (scale : Scale) (mode : Mode) (m : ℤ) → exact_mantissa n scale ≡ Some m
    → fitted n scale mode ≡ Ok m
unfolding fitted
fitted_exact n scale mode m e =
    let is = exact_gives n scale m e in
    ap (within scale mode) is.floor ∙ ap (λ (b : Bool). cond b (Ok m) (by_mode mode scale m)) is.in_range

-- so a datum keeps the mantissa of a value of its sort
kept_exact : (sort : Sort) (mode : Mode) (old m : ℤ) (value : Value) → mantissa_in sort value ≡ Some m
    → kept value (record { sort = sort; mode = mode; mantissa = old }) ≡ Ok m
kept_exact sorts.Flag mode old m (values.Flag b) e = let same : cond b (pos 1) (pos 0) ≡ m = cc in ap Ok same
kept_exact sorts.Flag mode old m (values.Number n) e = absurd cc
kept_exact (sorts.Number scale) mode old m (values.Flag b) e = absurd cc
kept_exact (sorts.Number scale) mode old m (values.Number n) e = fitted_exact n scale mode m e

-- and an assignment stores it
pub stored : (vals : List Datum) (v : ℕ) (value : Value) (m : ℤ) → mantissa_in (datum vals v).sort value ≡ Some m
    → assigned vals v value ≡ Ok (with_mantissa vals v m)
stored vals v value m e =
    let d = datum vals v in assigned_kept vals v value d m refl (sym (kept_exact d.sort d.mode d.mantissa m value e))

-- that mantissa is one of the sort
flag_in : (b : Bool) (m : ℤ) → cond b (pos 1) (pos 0) ≡ m → is_mantissa_of sorts.Flag m ≡ true
flag_in true m e = ap (is_mantissa_of sorts.Flag) (sym e)
flag_in false m e = ap (is_mantissa_of sorts.Flag) (sym e)

pub stored_in_range : (sort : Sort) (value : Value) (m : ℤ) → mantissa_in sort value ≡ Some m
    → IsTrue (is_mantissa_of sort m)
stored_in_range sorts.Flag (values.Flag b) m e = flag_in b m cc
stored_in_range sorts.Flag (values.Number n) m e = absurd cc
stored_in_range (sorts.Number scale) (values.Flag b) m e = absurd cc
stored_in_range (sorts.Number scale) (values.Number n) m e = (exact_gives n scale m e).in_range

-- the value that a mantissa of the sort stands for has that mantissa
flag_shown : (m : ℤ) → is_mantissa_of sorts.Flag m ≡ true → cond (int_lt (pos 0) m) (pos 1) (pos 0) ≡ m
flag_shown (pos zero) is = refl
flag_shown (pos (suc zero)) is = refl
flag_shown (pos (suc (suc m))) is = absurd (grind (arith, ints))
flag_shown (negsuc m) is = absurd (grind (arith, ints))

number_shown : (scale : Scale) (m : ℤ) → is_in_range scale m ≡ true
    → exact_mantissa (record { mantissa = m; frac = scale.frac }) scale ≡ Some m
unfolding exact_mantissa
number_shown scale m is =
    let n : Num = record { mantissa = m; frac = scale.frac } in
    ap (λ (z : ℤ). cond (is_whole n scale.frac && is_in_range scale z) (Some z) None) (floored_at_own m scale.frac)
    ∙ ap (λ (b : Bool). cond (b && is_in_range scale m) (Some m) None) (is_whole-raised n scale.frac (omega arith))
    ∙ ap (λ (b : Bool). cond (true && b) (Some m) None) is

pub mantissa_in-value_at : (sort : Sort) (m : ℤ) → IsTrue (is_mantissa_of sort m)
    → mantissa_in sort (value_at sort m) ≡ Some m
mantissa_in-value_at sorts.Flag m is = ap Some (flag_shown m is)
mantissa_in-value_at (sorts.Number scale) m is = number_shown scale m is

-- so it is a value of the sort
pub IsValueOf-value_at : (sort : Sort) (m : ℤ) → IsTrue (is_mantissa_of sort m) → IsValueOf sort (value_at sort m)
IsValueOf-value_at sort m is = subst IsSome (sym (mantissa_in-value_at sort m is)) refl

-- a value of a sort has a mantissa there
pub mantissa_there : (sort : Sort) (value : Value) → IsValueOf sort value → (m : ℤ) × (mantissa_in sort value ≡ Some m)
mantissa_there sort value is = at (mantissa_in sort value) is
  where
    at : (o : Option ℤ) → IsSome o → (m : ℤ) × (o ≡ Some m)
    at None is = absurd cc
    at (Some m) is = (m, refl)

-- what was found for a datum of the code is what there is for the datum that it stands for
pub mantissa_found : (d same : Datum) (value : Value) (r o : Option ℤ) → d ≡ same → r ≡ mantissa_in d.sort value → r ≡ o
    → mantissa_in same.sort value ≡ o
mantissa_found d same value r o is found e = sym (ap (λ (x : Datum). mantissa_in x.sort value) is) ∙ sym found ∙ e
