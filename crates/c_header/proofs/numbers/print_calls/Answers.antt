use Rattle.std.proofs.Common.{append_assoc}
use Rattle.c_header.specs.Header.{calls_text}
use Rattle.c_header.proofs.PartLemmas.{last}
use Rattle.c_header.proofs.numbers.print_calls.Goals as goal

pub returns : goal.returns
unfolding calls_text
returns c =
    last _ _ _ _ c.print_recursion.ensures
    (rw (
      c.in_ok-print_define.ensures,
      c.in_ok-push_str.ensures.bytes,
      c.calls_number.ensures,
      c.calls_comment.ensures,
    )
    (simp append_assoc))
