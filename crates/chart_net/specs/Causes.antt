-- Which answers of a net tell that a read or a write failed, or that memory ran out.
use Rattle.std.specs.Prelude.{Bool, true, false, Result, Ok, Err}
use Rattle.chart_net.specs.declared.driver.NetEnd.{NetEnd}
use Rattle.chart_net.specs.declared.driver.NetEnd.TheVariants as ends

-- the answer is a write fault
abbrev pub is_write : {T : Type 0} → Result T NetEnd → Bool
is_write (Ok done) = false
is_write (Err (ends.Line number fault)) = false
is_write (Err (ends.Fault p c fault)) = false
is_write (Err ends.Read) = false
is_write (Err ends.Write) = true
is_write (Err ends.TooManyLines) = false
is_write (Err ends.FileTooLong) = false
is_write (Err ends.Memory) = false
is_write (Err (ends.Full p r)) = false
is_write (Err (ends.Empty p r)) = false

-- the answer is a read fault
abbrev pub is_read : {T : Type 0} → Result T NetEnd → Bool
is_read (Ok done) = false
is_read (Err (ends.Line number fault)) = false
is_read (Err (ends.Fault p c fault)) = false
is_read (Err ends.Read) = true
is_read (Err ends.Write) = false
is_read (Err ends.TooManyLines) = false
is_read (Err ends.FileTooLong) = false
is_read (Err ends.Memory) = false
is_read (Err (ends.Full p r)) = false
is_read (Err (ends.Empty p r)) = false

-- memory ran out
abbrev pub is_memory : {T : Type 0} → Result T NetEnd → Bool
is_memory (Ok done) = false
is_memory (Err (ends.Line number fault)) = false
is_memory (Err (ends.Fault p c fault)) = false
is_memory (Err ends.Read) = false
is_memory (Err ends.Write) = false
is_memory (Err ends.TooManyLines) = false
is_memory (Err ends.FileTooLong) = false
is_memory (Err ends.Memory) = true
is_memory (Err (ends.Full p r)) = false
is_memory (Err (ends.Empty p r)) = false
