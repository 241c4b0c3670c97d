use Rattle.std.proofs.Common.{◌≡◌, ◌≤◌, ◌<◌, ◌-◌, true}
use Rattle.active_config.specs.Tree.{is_at_or_below}
use Rattle.actions.specs.Names.{names_of}
use Rattle.trace_text.specs.Pieces.{Puts}
use Rattle.trace_text.specs.Trace.{path_of}
use Rattle.trace_text.specs.TraceParts.{item}
use Rattle.trace_text.proofs.trace_states.put_path.Given as goal

-- the path of a state that is above, or that one, is put
abbrev pub invariant-names : goal.invariant-names
invariant-names g l = record {
  puts : Puts (g.O.Sink.wrote l.fn.out) (g.O.Sink.wrote l.out) (g.O.Sink.faults l.fn.out) (g.O.Sink.faults l.out) l.fn.pieces l.pieces
      (item 44 l.is_first (path_of l.shape (names_of l.names) l.last));
  below : 0 < l.last;
  above : is_at_or_below l.shape l.state l.last ≡ true;
  within : l.last ≤ l.state;
}

abbrev pub decreases-names : goal.decreases-names
decreases-names g l = l.state - l.last
