use Rattle.std.proofs.Common.{append_assoc}
use Rattle.c_header.specs.Fields.{active_field}
use Rattle.c_header.proofs.PartLemmas.{last, pushed}
use Rattle.c_header.proofs.states.print_active.Goals as goal

pub returns : goal.returns
unfolding active_field
returns c =
    last _ _ _ _ (pushed _ _ _ _ c.push_str-2.ensures.bytes)
    (rw (
      c.in_ok-print_children.ensures,
      c.in_ok-print_place.ensures,
      c.in_ok-push_str.ensures.bytes,
      c.in_ok-print_field.ensures,
      c.chosen_field.ensures,
    )
    (simp append_assoc))
