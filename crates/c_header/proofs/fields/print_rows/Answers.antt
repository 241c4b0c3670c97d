use Rattle.std.proofs.Common.{append_assoc}
use Rattle.c_header.specs.Header.{rows_text}
use Rattle.c_header.proofs.PartLemmas.{last, pushed}
use Rattle.c_header.proofs.fields.print_rows.Goals as goal

pub returns : goal.returns
unfolding rows_text
returns c =
    last _ _ _ _ (pushed _ _ _ _ c.push_str.ensures.bytes)
    (rw (
      c.in_ok-print_number-2.ensures,
      c.in_ok-print_number.ensures,
      c.from.ensures,
    )
    (simp append_assoc))
