use Rattle.std.proofs.Common.{append_assoc}
use Rattle.c_header.specs.Identity.{sums_text}
use Rattle.c_header.proofs.PartLemmas.{last, pushed}
use Rattle.c_header.proofs.identity.print_sums.Goals as goal

pub returns : goal.returns
unfolding sums_text
returns c =
    last _ _ _ _ (pushed _ _ _ _ c.push_str-2.ensures.bytes)
    (rw (c.in_ok-print_sum_numbers.ensures, c.in_ok-push_str.ensures.bytes) (simp append_assoc))
