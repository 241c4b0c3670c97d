use Rattle.std.proofs.Common.{take, map}
use Rattle.std.specs.List.{join_with_byte}
use Rattle.actions.specs.Names.{names_of}
use Rattle.trace_text.specs.Pieces.{Puts}
use Rattle.trace_text.specs.Trace.{event_name}
use Rattle.trace_text.proofs.trace_parts.put_outputs.Given as goal

-- the names up to the index are put
abbrev pub invariant-loop-index : goal.invariant-loop-index
invariant-loop-index g l =
    Puts (g.O.Sink.wrote l.fn.out) (g.O.Sink.wrote l.out) (g.O.Sink.faults l.fn.out) (g.O.Sink.faults l.out) l.fn.pieces l.pieces
    (join_with_byte 44 (take l.index (map (event_name (names_of l.names)) l.outputs)))
