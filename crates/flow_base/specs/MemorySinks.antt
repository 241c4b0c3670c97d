-- A sink in memory: which bytes a write takes, and which writes fail.
use Rattle.std.specs.Prelude.{ℕ, ◌-◌, min, List, [], ◌++◌, length, take, ◌==◌, nat_lt}
use Rattle.std.specs.Prelude.{◌&&◌, ◌||◌, Bool, if◌then◌else◌, Option, Some, None}
use Rattle.flow_base.specs.Counts.{counted, is_listed}

-- the bytes taken so far, the most bytes in all and by one write, the numbers of the writes that fail, and how many
-- writes were made and failed
pub record SinkState : Type 0 where
  pub bytes : List ℕ
  pub room : ℕ
  pub piece : ℕ
  pub fail : List ℕ
  pub writes : ℕ
  pub failed : ℕ

-- a sink to which nothing was written
abbrev pub fresh_sink : ℕ → ℕ → List ℕ → SinkState
fresh_sink room piece fail =
    record { bytes = []; room = room; piece = piece; fail = fail; writes = 0; failed = 0 }

-- the number of the next write is listed, or it has bytes and all the room is taken
abbrev pub fails_write : List ℕ → SinkState → Bool
fails_write piece sink =
    is_listed sink.fail (counted sink.writes)
    || (nat_lt 0 (length piece) && (length sink.bytes == sink.room))

-- how many bytes of the piece the next write takes, where it doesn't fail
abbrev pub taken_count : List ℕ → SinkState → ℕ
taken_count piece sink = min (min (length piece) sink.piece) (sink.room - length sink.bytes)

-- how many bytes of the piece the next write takes, none where it fails
abbrev pub write_count : List ℕ → SinkState → Option ℕ
write_count piece sink = if fails_write piece sink then None else Some (taken_count piece sink)

-- the sink after it took the front of the piece
abbrev pub after_taking : List ℕ → SinkState → SinkState
after_taking piece sink =
    record sink {
      writes = counted sink.writes;
      bytes = sink.bytes ++ take (taken_count piece sink) piece;
    }

-- the sink after a write that failed
abbrev pub after_refusing : SinkState → SinkState
after_refusing sink = record sink { writes = counted sink.writes; failed = counted sink.failed }

-- the sink after a write of the piece
abbrev pub after_write : List ℕ → SinkState → SinkState
after_write piece sink =
    if fails_write piece sink then after_refusing sink else after_taking piece sink
