-- Spans of whole numbers.
pub use Rattle.range_spans.specs.declared.span.Span.{Span}
use Rattle.std.specs.Prelude.{ℕ, ◌^◌, ◌≤ℤ◌, max, ℤ, pos, ◌*ℤ◌, neg_ℤ, unsigned_abs, Bool, ◌&&◌, int_le}
use Rattle.std.specs.Prelude.{if◌then◌else◌}

-- a number of a span
pub record IsIn (s : Span) (z : ℤ) : Type 0 where
  pub above : s.low ≤ℤ z
  pub below : z ≤ℤ s.high

-- all numbers of the first span are in the second
abbrev pub is_inside : Span → Span → Bool
is_inside s t = int_le t.low s.low && int_le s.high t.high

-- the numbers with at most that magnitude
abbrev pub around_zero : ℕ → Span
around_zero n = record { low = neg_ℤ (pos n); high = pos n }

-- the greatest magnitude in a span
abbrev pub magnitude : Span → ℕ
magnitude s = max (unsigned_abs s.low) (unsigned_abs s.high)

-- products with a power of two
abbrev pub raised : Span → ℕ → Span
raised s bits = record { low = s.low *ℤ pos (2 ^ bits); high = s.high *ℤ pos (2 ^ bits) }

-- the greater of two numbers
abbrev pub greater : ℤ → ℤ → ℤ
greater a b = if int_le a b then b else a

-- the smaller of two numbers
abbrev pub smaller : ℤ → ℤ → ℤ
smaller a b = if int_le a b then a else b

-- from the smaller of two numbers to the greater
abbrev pub between : ℤ → ℤ → Span
between a b = record { low = smaller a b; high = greater a b }

-- the numbers of two spans, and those between
abbrev pub joined : Span → Span → Span
joined s t = record { low = smaller s.low t.low; high = greater s.high t.high }

-- products with a number
abbrev pub times : Span → ℤ → Span
times s c = between (s.low *ℤ c) (s.high *ℤ c)

-- products with the numbers of a span, whose ends are those of the corners
abbrev pub products : Span → Span → Span
products s t = joined (times s t.low) (times s t.high)
