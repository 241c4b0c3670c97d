-- What a guard leaves of the spans of data.
use Rattle.std.specs.Prelude.{◌==◌, ◌-◌, ◌^◌, ℕ, nat_le, ℤ, pos, ◌+ℤ◌, ◌-ℤ◌, ◌*ℤ◌, Bool, true, false, not, ◌&&◌}
use Rattle.std.specs.Prelude.{Option, Some, None, int_le, if◌then◌else◌}
use Rattle.fixed_point.specs.declared.num.Num.{Num}
use Rattle.actions.specs.declared.expr.Op.{Op}
use Rattle.actions.specs.declared.expr.Op.TheVariants as ops
use Rattle.actions.specs.declared.names.Sort.{Sort}
use Rattle.actions.specs.declared.names.Sort.TheVariants as sorts
use Rattle.actions.specs.Exprs.{Expr, Lit, Flag, Read, Active, Neg, Not, Bin}
use Rattle.range_spans.specs.Spans.{Span, greater, smaller, joined}

-- a span for each datum
abbrev pub Box : Type 0
Box = ℕ → Span

-- a datum has another span
abbrev pub put : ℕ → Span → Box → Box
put v s box u = if u == v then s else box u

-- ---- comparisons

-- a span without a number, where that is one of its ends
abbrev pub without : ℤ → Span → Span
without c s = record {
  low = if int_le s.low c && int_le c s.low then c +ℤ pos 1 else s.low;
  high = if int_le s.high c && int_le c s.high then c -ℤ pos 1 else s.high;
}

-- how a comparison that holds bounds a mantissa
abbrev pub cut : Op → Bool → ℤ → Span → Span
cut ops.Lt true c s = record { low = s.low; high = smaller s.high (c -ℤ pos 1) }
cut ops.Lt false c s = record { low = greater s.low c; high = s.high }
cut ops.Le true c s = record { low = s.low; high = smaller s.high c }
cut ops.Le false c s = record { low = greater s.low (c +ℤ pos 1); high = s.high }
cut ops.Gt true c s = record { low = greater s.low (c +ℤ pos 1); high = s.high }
cut ops.Gt false c s = record { low = s.low; high = smaller s.high c }
cut ops.Ge true c s = record { low = greater s.low c; high = s.high }
cut ops.Ge false c s = record { low = s.low; high = smaller s.high (c -ℤ pos 1) }
cut ops.Eq true c s = record { low = greater s.low c; high = smaller s.high c }
cut ops.Eq false c s = without c s
cut ops.Ne true c s = without c s
cut ops.Ne false c s = record { low = greater s.low c; high = smaller s.high c }
cut ops.Or truth c s = s
cut ops.And truth c s = s
cut ops.Add truth c s = s
cut ops.Sub truth c s = s
cut ops.Mul truth c s = s
cut ops.Div truth c s = s

-- a datum that is compared with a literal of no greater fraction
abbrev pub cut_at : Sort → Op → Bool → Num → Span → Span
cut_at sorts.Flag op truth n s = s
cut_at (sorts.Number scale) op truth n s =
    if nat_le n.frac scale.frac then cut op truth (n.mantissa *ℤ pos (2 ^ (scale.frac - n.frac))) s else s

-- the datum that an expression reads, if it is no more than that
abbrev pub datum_of : Expr → Option ℕ
datum_of (Lit n) = None
datum_of (Flag b) = None
datum_of (Read v) = Some v
datum_of (Active s) = None
datum_of (Neg a) = None
datum_of (Not a) = None
datum_of (Bin op a b) = None

-- the literal that an expression is, if it is one
abbrev pub literal_of : Expr → Option Num
literal_of (Lit n) = Some n
literal_of (Flag b) = None
literal_of (Read v) = None
literal_of (Active s) = None
literal_of (Neg a) = None
literal_of (Not a) = None
literal_of (Bin op a b) = None

-- what is left where a datum compares so with a literal to its right
abbrev pub compare_narrow : (ℕ → Sort) → Op → Bool → Option ℕ → Option Num → Box → Box
compare_narrow sort op truth None n box = box
compare_narrow sort op truth (Some v) None box = box
compare_narrow sort op truth (Some v) (Some n) box = put v (cut_at (sort v) op truth n (box v)) box

-- a flag that is read is above 0 where it is true
abbrev pub flag_narrow : Sort → ℕ → Bool → Box → Box
flag_narrow sorts.Flag v truth box = put v (cut ops.Gt truth (pos 0) (box v)) box
flag_narrow (sorts.Number scale) v truth box = box

-- for each datum the spans of two boxes, and what lies between
abbrev pub joined_box : Box → Box → Box
joined_box left right v = joined (left v) (right v)

-- both sides of `&&` have the value true where it has, and one of them false; left and right are what they leave. So
-- with `||` and false
abbrev pub both_narrow : Op → Bool → (Box → Box) → (Box → Box) → (Box → Box) → Box → Box
both_narrow ops.And true left right other box = right (left box)
both_narrow ops.And false left right other box = joined_box (left box) (right box)
both_narrow ops.Or true left right other box = joined_box (left box) (right box)
both_narrow ops.Or false left right other box = right (left box)
both_narrow ops.Eq truth left right other box = other box
both_narrow ops.Ne truth left right other box = other box
both_narrow ops.Lt truth left right other box = other box
both_narrow ops.Le truth left right other box = other box
both_narrow ops.Gt truth left right other box = other box
both_narrow ops.Ge truth left right other box = other box
both_narrow ops.Add truth left right other box = other box
both_narrow ops.Sub truth left right other box = other box
both_narrow ops.Mul truth left right other box = other box
both_narrow ops.Div truth left right other box = other box

-- what is left of a box where an expression has that truth
abbrev pub narrowed : (ℕ → Sort) → Expr → Bool → Box → Box
narrowed sort (Lit n) truth box = box
narrowed sort (Flag b) truth box = box
narrowed sort (Read v) truth box = flag_narrow (sort v) v truth box
narrowed sort (Active s) truth box = box
narrowed sort (Neg a) truth box = box
narrowed sort (Not a) truth box = narrowed sort a (not truth) box
narrowed sort (Bin op a b) truth box =
    both_narrow op truth (narrowed sort a truth) (narrowed sort b truth)
    (compare_narrow sort op truth (datum_of a) (literal_of b)) box

-- the box in which the right side is evaluated: that of `&&` only where the left one is true, that of `||` where it is
-- false
abbrev pub right_box : (ℕ → Sort) → Op → Expr → Box → Box
right_box sort ops.And a box = narrowed sort a true box
right_box sort ops.Or a box = narrowed sort a false box
right_box sort ops.Eq a box = box
right_box sort ops.Ne a box = box
right_box sort ops.Lt a box = box
right_box sort ops.Le a box = box
right_box sort ops.Gt a box = box
right_box sort ops.Ge a box = box
right_box sort ops.Add a box = box
right_box sort ops.Sub a box = box
right_box sort ops.Mul a box = box
right_box sort ops.Div a box = box
