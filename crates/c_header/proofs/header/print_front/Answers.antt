use Rattle.c_header.specs.Header.{front_text, events_text}
use Rattle.c_header.proofs.PartLemmas.{last, nine_parts, of_same}
use Rattle.c_header.proofs.header.print_front.Goals as goal

pub returns : goal.returns
unfolding front_text
returns c =
    last _ _ _ _ c.print_sums.ensures
    (nine_parts _ _ _ _ _ _ _ _ _ _ _ _ _ _ _ _ _ _ c.in_ok-print_identity.ensures c.in_ok-print_usage.ensures
    c.in_ok-print_needs.ensures c.in_ok-print_wide.ensures
    (of_same (events_text c.args.chart.now) _ _ _ _ c.in_ok-print_events.ensures c.items.ensures)
    c.in_ok-print_faults.ensures c.in_ok-print_bounds.ensures c.in_ok-print_calls.ensures)
