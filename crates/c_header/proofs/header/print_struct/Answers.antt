use Rattle.std.proofs.Common.{append_assoc}
use Rattle.c_header.specs.Header.{struct_text}
use Rattle.c_header.proofs.PartLemmas.{last}
use Rattle.c_header.proofs.header.print_struct.Goals as goal

pub returns : goal.returns
unfolding struct_text
returns c =
    last _ _ _ _ c.print_named.ensures
    (rw (
      c.in_ok-print_rows.ensures,
      c.in_ok-print_states_fields.ensures,
      c.in_ok-print_values_fields.ensures,
      c.in_ok-push_str.ensures.bytes,
    )
    (simp append_assoc))
