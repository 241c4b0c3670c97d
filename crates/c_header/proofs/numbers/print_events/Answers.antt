use Rattle.std.proofs.Common.{append_assoc}
use Rattle.c_header.specs.Header.{events_text}
use Rattle.c_header.proofs.PartLemmas.{last}
use Rattle.c_header.proofs.numbers.print_events.Goals as goal

pub returns : goal.returns
unfolding events_text
returns c =
    last _ _ _ _ c.print_tick.ensures
    (rw (
      c.in_ok-print_event_lines.ensures,
      c.in_ok-print_named.ensures,
    )
    (simp append_assoc))
