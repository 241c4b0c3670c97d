use Rattle.std.proofs.Common.{append_assoc}
use Rattle.c_header.specs.Header.{test_comment}
use Rattle.c_header.proofs.PartLemmas.{last, pushed}
use Rattle.c_header.proofs.states.print_test_comment.Goals as goal

pub returns : goal.returns
unfolding test_comment
returns c =
    last _ _ _ _ (pushed _ _ _ _ c.push_str-2.ensures.bytes)
    (rw (
      c.in_ok-print_path.ensures,
      c.in_ok-push_str.ensures.bytes,
    )
    (simp append_assoc))
