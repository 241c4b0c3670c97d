use Rattle.std.proofs.Common.{◌≡◌, ◌-◌, ◌≤◌, length, take}
use Rattle.std.specs.Io.KnownBytes.{append_known}
use Rattle.flow_base.proofs.sink.write_all.Given as goal

-- `written` bytes of the piece are written, and no write failed
abbrev pub invariant-pieces : goal.invariant-pieces
invariant-pieces g l = record {
  bound : l.written ≤ length l.piece;
  bytes : g.O.Sink.wrote l.out ≡ append_known (g.O.Sink.wrote l.fn.out) (take l.written l.piece);
  untouched : length l.piece ≡ 0 → l.out ≡ l.fn.out;
  count : g.O.Sink.faults l.out ≡ g.O.Sink.faults l.fn.out;
}

abbrev pub decreases-pieces : goal.decreases-pieces
decreases-pieces g l = length l.piece - l.written
