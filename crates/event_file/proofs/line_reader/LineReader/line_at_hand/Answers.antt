use Rattle.std.proofs.Common.{true, sym, ◌∙◌}
use Rattle.event_file.specs.Reading.{is_ready}
use Rattle.event_file.proofs.NextLemmas.{next_at_hand}
use Rattle.event_file.proofs.line_reader.LineReader.line_at_hand.Goals as goal

-- the line is taken without a read
pub returns-then-is_ready : goal.returns-then-is_ready
returns-then-is_ready c =
    let p = c.plain_length-plain_length.ensures in
    let ready = sym c.is_ready.ensures ∙ c.if-is_ready.true in
    (ready, λ left. next_at_hand c.args.self.now c.take_line.new.self c.take_line.result left ready p.room p.file c.take_line.ensures)
