-- The limits of an event file, and the first of them that a line passes.
use Rattle.std.specs.Prelude.{ℕ, ◌+◌, nat_lt, nat_le, Bool, ◌&&◌, if◌then◌else◌, Option, Some, None}
use Rattle.event_file.specs.declared.limits.TheConstants.{LINE_LIMIT, FILE_LIMIT}

-- a line has too many bytes, or it holds the first byte that a file has no room for
pub data Limit : Type 0 where
  TooLong : Limit
  PastFile : Limit

-- Which limit a line of n bytes passes that begins after `at` bytes of its file; long says whether the file has more bytes
-- than it may. The line's first byte too many counts before the file's where it is earlier; its newline is a byte of the file.
abbrev pub line_limit : Bool → ℕ → ℕ → Option Limit
line_limit long at n =
    if nat_lt LINE_LIMIT n && nat_lt (at + LINE_LIMIT) FILE_LIMIT then Some TooLong
    else (if nat_le FILE_LIMIT (at + n) && long then Some PastFile else None)
