use Rattle.c_header.specs.Header.{back_text}
use Rattle.c_header.proofs.PartLemmas.{last, pushed, six_parts}
use Rattle.c_header.proofs.header.print_back.Goals as goal

pub returns : goal.returns
unfolding back_text
returns c =
    last _ _ _ _ (pushed _ _ _ _ c.push_str.ensures.bytes)
    (six_parts _ _ _ _ _ _ _ _ _ _ _ _ c.in_ok-print_struct.ensures c.in_ok-print_init.ensures
    c.in_ok-print_start.ensures c.in_ok-print_react.ensures c.in_ok-print_states.ensures)
