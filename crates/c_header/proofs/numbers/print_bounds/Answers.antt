use Rattle.std.proofs.Common.{append_assoc}
use Rattle.c_header.specs.Header.{bounds_text}
use Rattle.c_header.proofs.PartLemmas.{last}
use Rattle.c_header.proofs.numbers.print_bounds.Goals as goal

pub returns : goal.returns
unfolding bounds_text
returns c =
    last _ _ _ _ c.print_define-4.ensures
    (rw (
      c.in_ok-print_define-3.ensures,
      c.in_ok-push_str-2.ensures.bytes,
      c.in_ok-print_define-2.ensures,
      c.in_ok-print_define.ensures,
      c.in_ok-push_str.ensures.bytes,
      c.from.ensures,
      c.from-2.ensures,
      c.from-3.ensures,
    )
    (simp append_assoc))
