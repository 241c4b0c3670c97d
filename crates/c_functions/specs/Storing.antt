-- Which C brings a number to the scale of a datum and stores it.
use Rattle.std.specs.Prelude.{◌≡◌, Result, Ok, Err, ℕ, ◌+◌, ◌-◌, ◌^◌, nat_le, max, ℤ, pos, Bool, not, ◌||◌}
use Rattle.std.specs.Prelude.{if◌then◌else◌}
use Rattle.fixed_point.specs.declared.scale.Scale.{Scale}
use Rattle.fixed_point.specs.declared.fitting.Mode.{Mode}
use Rattle.fixed_point.specs.declared.fitting.Mode.TheVariants.{Saturate, Wrap, Error}
use Rattle.fixed_point.specs.declared.fitting.Overflow.{Overflow}
use Rattle.flow_base.specs.declared.fault.Fault.TheVariants.{Overflow as Overflows}
use Rattle.c_subset.specs.Meaning.{Store, Locals}
use Rattle.c_functions.specs.Code.{CCode, Nothing, Then, Set, Divide, FaultIf, ending, Goes, Faults}
use Rattle.c_functions.specs.Claims.{Has, AgreeBelow}
use Rattle.fixed_point.specs.Scales.{least, greatest}
use Rattle.actions.specs.Sorts.{size_at, magnitude_bits}
use Rattle.c_subset.specs.declared.trees.Width.{Width}
use Rattle.c_subset.specs.declared.trees.CType.TheVariants.{Signed, Unsigned, Truth}
use Rattle.c_subset.specs.declared.trees.Width.TheVariants.{W64}
use Rattle.c_subset.specs.declared.trees.Arithmetic.TheVariants.{Less}
use Rattle.c_subset.specs.declared.trees.Comparison.TheVariants.{IsBelow, IsAtMost, IsAbove}
use Rattle.c_subset.specs.Trees.{CExpr, Const, Local, Cast, Minus, Calc, Compare, Either, Choose, Bits}
use Rattle.c_subset.specs.declared.trees.Bitwise.TheVariants.{BitAnd}
use Rattle.c_functions.specs.Translation.{Flat, width_for, brought}

-- ---- at the datum's fraction

-- the width in which a number of that fraction and size is brought to fraction t
abbrev pub floored_width : ℕ → ℕ → ℕ → Width
floored_width frac size t = width_for (max (size_at t frac size) (frac - t))

-- the number at fraction t, by floor, as local k
abbrev pub floored_code : ℕ → ℕ → ℕ → ℕ → CExpr → CCode
floored_code k frac size t e = let w = floored_width frac size t in
    if nat_le frac t then Set (Signed w) k (brought w (t - frac) e) else Divide w k e
    (Const (Signed w) (pos (2 ^ (frac - t))))

-- ---- ends of the range; an end that no number of the size passes isn't tested, and need not fit the type

-- numbers of the size can pass the upper end of a scale, and the lower one where it is signed
abbrev pub can_pass : Scale → ℕ → Bool
can_pass scale size = nat_le (magnitude_bits scale) size

-- numbers of the size can pass the lower end: that of a scale without a sign is 0
abbrev pub can_pass_low : Scale → ℕ → Bool
can_pass_low scale size = not scale.signed || can_pass scale size

-- (T)LO, the lower end
abbrev pub low_c : Scale → Width → CExpr
low_c scale w = Const (Signed w) (least scale)

-- (T)HI, the upper end
abbrev pub high_c : Scale → Width → CExpr
high_c scale w = Const (Signed w) (greatest scale)

-- x < (T)LO
abbrev pub below_c : Scale → Width → CExpr → CExpr
below_c scale w x = Compare IsBelow x (low_c scale w)

-- x > (T)HI
abbrev pub above_c : Scale → Width → CExpr → CExpr
above_c scale w x = Compare IsAbove x (high_c scale w)

-- the nearest number in range of a number x of that size, which lies in type w
abbrev pub saturated_c : Scale → ℕ → Width → CExpr → CExpr
saturated_c scale size w x =
    let upper = if can_pass scale size then Choose (Signed w) (above_c scale w x) (high_c scale w) x else x in
    if can_pass_low scale size then Choose (Signed w) (below_c scale w x) (low_c scale w) upper else upper

-- the number is out of range: the test before an overflow
abbrev pub out_c : Scale → ℕ → Width → CExpr → CExpr
out_c scale size w x =
    if can_pass_low scale size
    then (if can_pass scale size then Either (below_c scale w x) (above_c scale w x) else below_c scale w x)
    else (if can_pass scale size then above_c scale w x else Const Truth (pos 0))

-- ---- modulo 2 ^ width

-- (uint64_t)x & MASK
abbrev pub low_bits_c : Scale → CExpr → CExpr
low_bits_c scale x = Bits BitAnd (Cast (Unsigned W64) x) (Const (Unsigned W64) (pos (2 ^ scale.width - 1)))

-- MASK - u
abbrev pub rest_c : Scale → CExpr → CExpr
rest_c scale u = Calc Less (Const (Unsigned W64) (pos (2 ^ scale.width - 1))) u

-- the number of a signed scale whose low bits are u, an unsigned number below 2 ^ width, where rest is MASK - u: u
-- itself, or for the upper half -rest - 1, which no step takes out of int64_t
abbrev pub signed_c : Scale → CExpr → CExpr → CExpr
signed_c scale u rest =
    Choose (Signed W64) (Compare IsAtMost u (Const (Unsigned W64) (pos (2 ^ (scale.width - 1) - 1))))
    (Cast (Signed W64) u)
    (Calc Less (Minus (Cast (Signed W64) rest)) (Const (Signed W64) (pos 1)))

-- ---- an assignment of a number

-- code, with the fault of an overflow, and then what the field takes
pub record Stores : Type 0 where
  pub code : CCode
  pub kept : CExpr

-- the local that has the number at the datum's fraction
abbrev pub brought_local : ℕ → ℕ → Scale → Flat → CExpr
brought_local frac size scale x = Local (Signed (floored_width frac size scale.frac)) x.next

-- the number that the expression gives, at the datum's fraction, as the next local
abbrev pub brought_code : ℕ → ℕ → Scale → Flat → CCode
brought_code frac size scale x =
    Then x.code (floored_code x.next frac size scale.frac x.expr)

-- the local after that, which has its low bits
abbrev pub low_local : Flat → CExpr
low_local x = Local (Unsigned W64) (x.next + 1)

-- the local after both, which has MASK less the low bits where the datum is signed
abbrev pub rest_local : Flat → CExpr
rest_local x = Local (Unsigned W64) (x.next + 2)

-- the code of the low bits, and of what the mask is more than they
abbrev pub low_code : ℕ → ℕ → Scale → Flat → CCode
low_code frac size scale x =
    Then (Set (Unsigned W64) (x.next + 1) (low_bits_c scale (brought_local frac size scale x)))
    (if scale.signed then Set (Unsigned W64) (x.next + 2) (rest_c scale (low_local x)) else Nothing)

-- The C that stores a number of that fraction and size in datum v, by the mode of the datum
abbrev pub stored_c : ℕ → ℕ → ℕ → Scale → Mode → Flat → Stores
stored_c v frac size scale Saturate x = record {
  code = brought_code frac size scale x;
  kept = saturated_c scale (size_at scale.frac frac size) (floored_width frac size scale.frac)
      (brought_local frac size scale x);
}
stored_c v frac size scale Error x = record {
  code = Then (brought_code frac size scale x) (FaultIf (Overflows v)
      (out_c scale (size_at scale.frac frac size) (floored_width frac size scale.frac)
      (brought_local frac size scale x)));
  kept = brought_local frac size scale x;
}
stored_c v frac size scale Wrap x = record {
  code = Then (brought_code frac size scale x) (low_code frac size scale x);
  kept = if scale.signed then signed_c scale (low_local x) (rest_local x) else low_local x;
}

-- ---- claims

-- the code goes on, with the same locals below n, and then the field takes what is kept, as it is; or it faults, where
-- the datum overflows
abbrev pub StoresAs : Width → Store → ℕ → Locals → ℕ → Stores → Result ℤ Overflow → Type 0
StoresAs int s n l v c (Ok m) =
    (after : Locals) × (ending int s l c.code ≡ Goes after) × AgreeBelow n l after × Has int s after c.kept m
StoresAs int s n l v c (Err e) = ending int s l c.code ≡ Faults (Overflows v)
