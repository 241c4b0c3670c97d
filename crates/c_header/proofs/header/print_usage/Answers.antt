use Rattle.std.proofs.Common.{append_assoc}
use Rattle.c_header.specs.Header.{usage_text}
use Rattle.c_header.proofs.PartLemmas.{last, pushed}
use Rattle.c_header.proofs.header.print_usage.Goals as goal

pub returns : goal.returns
unfolding usage_text
returns c =
    last _ _ _ _ (pushed _ _ _ _ c.push_str-6.ensures.bytes)
    (rw (
      c.in_ok-push_str-5.ensures.bytes,
      c.in_ok-print_named.ensures,
      c.in_ok-push_str-4.ensures.bytes,
      c.in_ok-push_str-3.ensures.bytes,
      c.in_ok-push_str-2.ensures.bytes,
      c.in_ok-push_str.ensures.bytes,
    )
    (simp append_assoc))
