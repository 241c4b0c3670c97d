-- The causes of the driver's read and write faults.
use Rattle.std.specs.Prelude.{◌≡◌, ℕ, Bool, true, false, List, Result, Ok, Err}
use Rattle.flow_base.specs.Causes.{Rose, AllStay}
use Rattle.step_driver.specs.declared.driver.DriveEnd.{DriveEnd}
use Rattle.step_driver.specs.declared.driver.DriveEnd.TheVariants as ends

-- the answer is a read fault
abbrev pub is_read : {T : Type 0} → Result T DriveEnd → Bool
is_read (Ok done) = false
is_read (Err (ends.Line number fault)) = false
is_read (Err (ends.Fault index fault)) = false
is_read (Err ends.Read) = true
is_read (Err ends.Write) = false
is_read (Err ends.TooManyLines) = false
is_read (Err ends.FileTooLong) = false
is_read (Err ends.Memory) = false

-- the answer is a write fault
abbrev pub is_write : {T : Type 0} → Result T DriveEnd → Bool
is_write (Ok done) = false
is_write (Err (ends.Line number fault)) = false
is_write (Err (ends.Fault index fault)) = false
is_write (Err ends.Read) = false
is_write (Err ends.Write) = true
is_write (Err ends.TooManyLines) = false
is_write (Err ends.FileTooLong) = false
is_write (Err ends.Memory) = false

-- the count of that name rose where there was a read fault, and else each count is as it was
pub record ReadCause (is_fault : Bool) (name : List ℕ) (before after : List ℕ → ℕ) : Type 0 where
  pub fault : is_fault ≡ true → Rose (before name) (after name)
  pub others : is_fault ≡ false → AllStay before after

-- a read fault comes only where the count of that name rose, and with every other answer each count is as it was
abbrev pub HasReadCause : {T : Type 0} → List ℕ → (List ℕ → ℕ) → (List ℕ → ℕ) → Result T DriveEnd → Type 0
HasReadCause name before after result = ReadCause (is_read result) name before after

-- the sink's count rose where there was a write fault, and else it is as it was
pub record WriteCause (is_fault : Bool) (before after : ℕ) : Type 0 where
  pub fault : is_fault ≡ true → Rose before after
  pub others : is_fault ≡ false → after ≡ before

-- a write fault comes only where the sink's count rose, and with every other answer the count is as it was
abbrev pub HasWriteCause : {T : Type 0} → ℕ → ℕ → Result T DriveEnd → Type 0
HasWriteCause before after result = WriteCause (is_write result) before after
