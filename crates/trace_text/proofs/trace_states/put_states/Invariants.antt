use Rattle.std.proofs.Common.{◌≡◌, ◌≤◌, ◌-◌, nat_eq, length, map}
use Rattle.std.specs.List.{join_with_byte}
use Rattle.actions.specs.Names.{names_of}
use Rattle.trace_text.specs.Pieces.{Puts}
use Rattle.trace_text.specs.Trace.{path_of}
use Rattle.trace_text.proofs.StateLemmas.{active_before}
use Rattle.trace_text.proofs.trace_states.put_states.Given as goal

-- the active states with a lower number are put
abbrev pub invariant-states : goal.invariant-states
invariant-states g l = record {
  low : 1 ≤ l.from;
  high : l.from ≤ l.states;
  first : l.is_first ≡ nat_eq (length (active_before l.marks l.from)) 0;
  puts : Puts (g.O.Sink.wrote l.fn.out) (g.O.Sink.wrote l.out) (g.O.Sink.faults l.fn.out) (g.O.Sink.faults l.out) l.fn.pieces l.pieces
      (join_with_byte 44 (map (path_of l.shape (names_of l.names)) (active_before l.marks l.from)));
}

abbrev pub decreases-states : goal.decreases-states
decreases-states g l = l.states - l.from
