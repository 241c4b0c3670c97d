-- Boxes: a span for each datum, what an assignment leaves in a datum, and inputs, which may have any value.
use Rattle.std.specs.Prelude.{◌≡◌, ℕ, ℤ, pos, Bool, true, false, ◌&&◌, List, Option, Some, None, if◌then◌else◌}
use Rattle.std.specs.Prelude.{slice_get, slice_index_or, IsTrue, Result, Ok, Err}
use Rattle.flow_base.specs.declared.fault.Fault.{Fault}
use Rattle.flow_base.specs.declared.fault.Fault.TheVariants as faults
use Rattle.fixed_point.specs.declared.fitting.Mode.{Mode}
use Rattle.fixed_point.specs.declared.fitting.Mode.TheVariants.{Saturate, Wrap, Error}
use Rattle.fixed_point.specs.declared.scale.Scale.{Scale}
use Rattle.fixed_point.specs.Numbers.{floored}
use Rattle.fixed_point.specs.Scales.{least, greatest, is_in_range}
use Rattle.actions.specs.declared.names.Sort.{Sort}
use Rattle.actions.specs.declared.names.Sort.TheVariants as sorts
use Rattle.actions.specs.declared.names.Var.{Var}
use Rattle.actions.specs.declared.names.VarKind.{VarKind}
use Rattle.actions.specs.declared.names.VarKind.TheVariants as kinds
use Rattle.actions.specs.Data.{Datum, datum, initial, is_mantissa_of}
use Rattle.actions.specs.Names.{Names}
use Rattle.actions.specs.World.{of_data, of_names}
use Rattle.range_spans.specs.Spans.{Span, IsIn, greater, smaller}
use Rattle.range_spans.specs.Known.{Known, Truth, Number, Nothing}
-- the mantissas that a datum may keep, and whether there may be an overflow
pub use Rattle.range_spans.specs.declared.kept.Kept.{Kept}
pub use Rattle.range_spans.specs.Narrow.{Box, put, narrowed}

-- the box of a list of spans: a number without a span has 0 alone
abbrev pub box_of : List Span → Box
box_of spans v = slice_index_or spans v (record { low = pos 0; high = pos 0 })

-- the sort of a datum
abbrev pub sort_at : Names → ℕ → Sort
sort_at n v = (datum (initial n) v).sort

-- what is done with a number out of range that it is given
abbrev pub mode_at : Names → ℕ → Mode
mode_at n v = (datum (initial n) v).mode

-- the data are those that are declared, each in the span that it has at each moment and in the span of the box
pub record IsBox (n : Names) (always box : Box) (vals : List Datum) : Type 0 where
  pub declared : of_data vals ≡ of_names n
  pub at_each_moment : (v : ℕ) → IsIn (always v) (datum vals v).mantissa
  pub inside : (v : ℕ) → IsIn (box v) (datum vals v).mantissa

-- ---- assignments

-- all mantissas of a scale
abbrev pub range_of : Scale → Span
range_of scale = record { low = least scale; high = greatest scale }

-- the ends of a span, none beyond the other end of a range
abbrev pub inner_ends : Span → Span → Span
inner_ends ends s = record { low = smaller s.low ends.high; high = greater s.high ends.low }

-- the ends of a span, none beyond the same end of a range
abbrev pub outer_ends : Span → Span → Span
outer_ends ends s = record { low = greater ends.low s.low; high = smaller ends.high s.high }

-- the mantissas of a scale that are nearest to those of a span
abbrev pub clamped : Scale → Span → Span
clamped scale s = record {
  low = greater (least scale) (smaller s.low (greatest scale));
  high = smaller (greatest scale) (greater s.high (least scale));
}

-- all mantissas of the span are in range
abbrev pub all_in_range : Scale → Span → Bool
all_in_range scale s = is_in_range scale s.low && is_in_range scale s.high

-- what the mode makes of numbers of which one may be out of range
abbrev pub by_mode_kept : Mode → Scale → Span → Kept
by_mode_kept Saturate scale s = record { span = clamped scale s; over = false }
by_mode_kept Wrap scale s = record { span = record { low = least scale; high = greatest scale }; over = false }
by_mode_kept Error scale s = record { span = clamped scale s; over = true }

-- what a datum of a scale keeps of whole mantissas
abbrev pub fit_kept : Mode → Scale → Span → Kept
fit_kept mode scale s = if all_in_range scale s then record { span = s; over = false } else by_mode_kept mode scale s

-- the floors of a span of numbers of some fraction at a scale
abbrev pub floors : Span → ℕ → Scale → Span
floors s frac scale = record {
  low = floored (record { mantissa = s.low; frac = frac }) scale.frac;
  high = floored (record { mantissa = s.high; frac = frac }) scale.frac;
}

-- what a datum keeps of numbers of some fraction; a flag is given none
abbrev pub number_kept : Sort → Mode → Span → ℕ → Option Kept
number_kept sorts.Flag mode s frac = None
number_kept (sorts.Number scale) mode s frac = Some (fit_kept mode scale (floors s frac scale))

-- Data after an assignment are in a box, or the datum overflows, where that is told.
abbrev pub IsStored : Names → Box → Box → ℕ → Bool → Result (List Datum) Fault → Type 0
IsStored n always box v over (Ok vals) = IsBox n always box vals
IsStored n always box v over (Err fault) = (fault ≡ faults.Overflow v) × (over ≡ true)

-- the mantissa of a flag
abbrev pub point : Bool → Span
point b = record { low = if b then pos 1 else pos 0; high = if b then pos 1 else pos 0 }

-- ---- guards

-- whether a value may have that truth
abbrev pub may_be : Bool → Known → Bool
may_be truth (Truth f t) = if truth then t else f
may_be truth (Number s frac) = true
may_be truth Nothing = true

-- ---- inputs

-- whether a datum is an input
abbrev pub is_input : VarKind → Bool
is_input kinds.Input = true
is_input kinds.Output = false
is_input kinds.Local = false

-- whether what is declared at a number is an input
abbrev pub is_input_at : Option Var → Bool
is_input_at None = false
is_input_at (Some decl) = is_input decl.kind

-- inputs have any value that they have at some moment
abbrev pub freed : Names → Box → Box → Box
freed n always box v = if is_input_at (slice_get n.vars v) then always v else box v

-- each value of an input's sort is in its span
pub record CoversInputs (n : Names) (always : Box) : Type 0 where
  pub covers : (v : ℕ) (decl : Var) (m : ℤ) → slice_get n.vars v ≡ Some decl → decl.kind ≡ kinds.Input
      → IsTrue (is_mantissa_of decl.sort m) → IsIn (always v) m
