-- Values of the code as definitions see them.
use Rattle.std.specs.Prelude.{ℕ, List, map, Option, Some, None}
use Rattle.statechart_meaning.specs.Numbers as numbers
use Rattle.statechart_meaning.specs.Times as times
use Rattle.statechart_meaning.specs.Values as values
use Rattle.statechart_values.specs.declared.counts.Timer.{Timer}
use Rattle.statechart_values.specs.declared.events.Clock.{Clock}
use Rattle.statechart_values.specs.declared.enumerations.Whole.{Whole}
use Rattle.statechart_values.specs.declared.binary.Binary.{Binary}
use Rattle.statechart_values.specs.declared.value.Value.{Value}
use Rattle.statechart_values.specs.declared.value.Value.TheVariants as variants
use Rattle.statechart_values.specs.declared.value.Valued.{Valued}

-- the number mantissa / 2^bits of the code
abbrev pub binary_seen : Binary → numbers.Binary
binary_seen b = record { mantissa = b.mantissa; bits = b.bits }

-- a value of the code
abbrev pub value_seen : Value → values.Value
value_seen (variants.Number negative lit) = values.NumberValue negative lit
value_seen (variants.Flag value) = values.FlagValue value

-- a value with its name of the code
abbrev pub valued_seen : Valued → values.Valued
valued_seen v = record { name = v.name.now.text; value = value_seen v.value }

-- a whole number of the code
abbrev pub whole_seen : Whole → values.Whole
whole_seen w = record { negative = w.negative; size = w.size }

-- a clock of the code
abbrev pub clock_seen : Clock → times.Clock
clock_seen c = record { name = c.name.now.text; period = c.period }

-- a unit with the clock of the code
abbrev pub timer_seen : Timer → times.Timer
timer_seen t = record { unit = t.unit; clock = clock_seen t.clock }
