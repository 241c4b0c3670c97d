-- All mantissas of a sort.
use Rattle.std.specs.Prelude.{pos}
use Rattle.actions.specs.declared.names.Sort.{Sort}
use Rattle.actions.specs.declared.names.Sort.TheVariants as sorts
use Rattle.range_spans.specs.Boxes.{range_of}
use Rattle.range_spans.specs.Spans.{Span}

-- 0 and 1 of a flag, and those in the range of a scale
abbrev pub all_of : Sort → Span
all_of sorts.Flag = record { low = pos 0; high = pos 1 }
all_of (sorts.Number scale) = range_of scale
