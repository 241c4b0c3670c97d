use Rattle.std.proofs.Common.{◌≡◌, ◌+◌, ◌-◌, ◌≤◌, length, cond}
use Rattle.event_file.specs.declared.limits.TheConstants.{LINE_LIMIT, FILE_LIMIT, BUFFER_SIZE}
use Rattle.flow_base.specs.Causes.{OthersKept, AllStay}
use Rattle.event_file.specs.Lines.{line_length}
use Rattle.event_file.specs.NextLine.{Fills}
use Rattle.event_file.proofs.line_reader.LineReader.next_line.Given as goal

-- bytes were read so far, and no read failed
abbrev pub invariant-pieces : goal.invariant-pieces
invariant-pieces g l = record {
  fills : Fills l.fn.self l.self (g.I.Inputs.left l.fn.inputs l.name) (g.I.Inputs.left l.inputs l.name);
  line : l.plain_length ≡ line_length l.self.pending;
  within : l.plain_length ≤ length l.self.pending;
  room : length l.self.pending ≤ BUFFER_SIZE;
  file : l.self.at + length l.self.pending ≤ FILE_LIMIT + 1;
  others : OthersKept l.name (g.I.Inputs.left l.fn.inputs) (g.I.Inputs.left l.inputs);
  counts : AllStay (g.I.Inputs.faults l.fn.inputs) (g.I.Inputs.faults l.inputs);
}

-- nothing is left at the end, and room becomes less before
abbrev pub decreases-pieces : goal.decreases-pieces
decreases-pieces g l = cond l.self.ended 0 (LINE_LIMIT + 1 - length l.self.pending)
