-- What is kept where numbers out of range wrap.
use Rattle.std.proofs.Common.{◌≡◌, ℕ, suc, ◌-◌, ◌*◌, ◌^◌, ◌<◌, ◌≤◌, ℤ, pos, ◌+ℤ◌, ◌-ℤ◌, neg_ℤ, unsigned_abs, int_le}
use Rattle.std.proofs.Common.{Bool, true, false, cond, ◌&&◌, Ok, refl, sym, ap, ◌∙◌, subst, arith, mod-eq_of_lt}
use Rattle.std.proofs.Common.{pow-suc}
use Rattle.std.proofs.lemmas.Int.{ints}
use Rattle.std.proofs.lemmas.Nat.{pow_pos}
use Rattle.std.specs.Int.{int_rem_euclid}
use Rattle.fixed_point.specs.Numbers.{floored}
use Rattle.fixed_point.specs.Scales.{least, greatest, is_in_range, wrapped, by_mode, fitted}
use Rattle.fixed_point.specs.declared.num.Num.{Num}
use Rattle.fixed_point.specs.declared.scale.Scale.{Scale}
use Rattle.fixed_point.specs.declared.fitting.Mode.TheVariants.{Wrap}
use Rattle.c_subset.specs.Trees.{CExpr}
use Rattle.c_subset.specs.declared.trees.Width.{Width}
use Rattle.c_subset.specs.declared.trees.CType.TheVariants.{Unsigned}
use Rattle.c_subset.specs.declared.trees.Width.TheVariants.{W64}
use Rattle.c_subset.specs.Meaning.{bits, gives, Store, Locals, meaning}
use Rattle.c_functions.specs.Storing.{low_bits_c, signed_c}
use Rattle.c_functions.specs.Claims.{Has}
use Rattle.c_functions.proofs.StoringWraps.{low_bits-is, wrapped-unsigned}
use Rattle.c_functions.proofs.StoringSignedWraps.{rest_of, HasLow, wrapped-signed}

-- a number in a range of n wraps to itself
stays-in : (low high z : ℤ) (n : ℕ) → 0 < n → low +ℤ pos n ≡ high +ℤ pos 1 → (int_le low z && int_le z high) ≡ true
    → low +ℤ int_rem_euclid (z -ℤ low) (pos n) ≡ z
stays-in low high z n some span is =
    let d = unsigned_abs (z -ℤ low) in
    let up : z -ℤ low ≡ pos d = grind (arith, ints) in
    let below : d < n = grind (arith, ints) in
    let rem : int_rem_euclid (z -ℤ low) (pos n) ≡ pos d =
    ap (λ (y : ℤ). int_rem_euclid y (pos n)) up ∙ ap pos (mod-eq_of_lt below) in
    ap (λ (y : ℤ). low +ℤ y) rem ∙ sum d up
  where
    sum : (d : ℕ) → z -ℤ low ≡ pos d → low +ℤ pos d ≡ z
    sum d up = omega (arith, ints, up)

-- so does a mantissa of a scale
wrapped-in_range : (scale : Scale) (z : ℤ) → is_in_range scale z ≡ true → wrapped scale z ≡ z
wrapped-in_range scale z is = stays-in (least scale) (greatest scale) z (2 ^ scale.width) (pow_pos scale.width)
    (at scale.signed) is
  where
    at : (signed : Bool) → cond signed (neg_ℤ (pos (2 ^ (scale.width - 1)))) (pos 0) +ℤ pos (2 ^ scale.width)
        ≡ cond signed (pos (2 ^ (scale.width - 1) - 1)) (pos (2 ^ scale.width - 1)) +ℤ pos 1
    at true =
        let some = scale.some_bits in
        let h : 0 < 2 ^ (scale.width - 1) = pow_pos (scale.width - 1) in
        let w : scale.width ≡ suc (scale.width - 1) = omega arith in
        let all : 2 ^ scale.width ≡ 2 ^ (scale.width - 1) * 2 = ap (λ (x : ℕ). 2 ^ x) w ∙ pow-suc 2 (scale.width - 1) in
        omega (arith, ints, all, h)
    at false = let h : 0 < 2 ^ scale.width = pow_pos scale.width in omega (arith, ints, h)

-- what is kept is what the number wraps to
pub kept-wrapped : (n : Num) (scale : Scale) (m : ℤ) → fitted n scale Wrap ≡ Ok m → wrapped scale (floored n scale.frac)
    ≡ m
unfolding fitted
kept-wrapped n scale m is = at (is_in_range scale (floored n scale.frac)) refl is
  where
    at : (b : Bool) → is_in_range scale (floored n scale.frac) ≡ b
        → cond b (Ok (floored n scale.frac)) (by_mode Wrap scale (floored n scale.frac)) ≡ Ok m
        → wrapped scale (floored n scale.frac) ≡ m
    at true e f = let same : floored n scale.frac ≡ m = cc in wrapped-in_range scale (floored n scale.frac) e ∙ same
    at false e f = cc

-- the low bits, which an unsigned scale keeps
pub wraps-unsigned : (int : Width) (s : Store) (l : Locals) (n : Num) (scale : Scale) (x : CExpr) (m : ℤ)
    → bits int ≤ 64
    → scale.signed ≡ false → Has int s l x (floored n scale.frac) → fitted n scale Wrap ≡ Ok m
    → Has int s l (low_bits_c scale x) m
wraps-unsigned int s l n scale x m most sign has is =
    subst (λ (z : ℤ). Has int s l (low_bits_c scale x) z)
    (sym (wrapped-unsigned scale (floored n scale.frac) sign) ∙ kept-wrapped n scale m is)
    (Unsigned W64, low_bits-is int s l scale x (floored n scale.frac) most has)

-- the number of a signed scale with these low bits, which x gives, where y gives what the mask is more
pub wraps-signed : (int : Width) (s : Store) (l : Locals) (n : Num) (scale : Scale) (x y : CExpr) (m : ℤ)
    (h : HasLow scale (floored n scale.frac)) → bits int ≤ 64
    → scale.signed ≡ true → meaning int s l x ≡ gives (Unsigned W64) (pos h.low)
    → meaning int s l y ≡ gives (Unsigned W64) (pos (rest_of scale h.low))
    → fitted n scale Wrap ≡ Ok m → Has int s l (signed_c scale x y) m
wraps-signed int s l n scale x y m h most sign low rest is =
    subst (λ (z : ℤ). Has int s l (signed_c scale x y) z) (kept-wrapped n scale m is)
    (wrapped-signed int s l scale x y (floored n scale.frac) h most sign low rest)
