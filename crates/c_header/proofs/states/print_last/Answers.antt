use Rattle.std.proofs.Common.{append_assoc}
use Rattle.c_header.specs.Fields.{last_field}
use Rattle.c_header.proofs.PartLemmas.{last, pushed}
use Rattle.c_header.proofs.states.print_last.Goals as goal

pub returns : goal.returns
unfolding last_field
returns c =
    last _ _ _ _ (pushed _ _ _ _ c.push_str-2.ensures.bytes)
    (rw (
      c.in_ok-print_place.ensures,
      c.in_ok-push_str.ensures.bytes,
      c.in_ok-print_field.ensures,
      c.kept_field.ensures,
    )
    (simp append_assoc))
