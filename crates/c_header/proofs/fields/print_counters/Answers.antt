use Rattle.std.proofs.Common.{append_assoc}
use Rattle.c_header.specs.Fields.{counters_text}
use Rattle.c_header.proofs.PartLemmas.{last}
use Rattle.c_header.proofs.fields.print_counters.Goals as goal

pub returns : goal.returns
unfolding counters_text
returns c =
    last _ _ _ _ c.print_commented-6.ensures
    (rw (
      c.in_ok-print_commented-5.ensures,
      c.in_ok-print_commented-4.ensures,
      c.in_ok-print_commented-3.ensures,
      c.in_ok-print_commented-2.ensures,
      c.in_ok-print_commented.ensures,
      c.used_words.ensures,
    )
    (simp append_assoc))
