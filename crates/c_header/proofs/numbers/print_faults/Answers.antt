use Rattle.std.proofs.Common.{append_assoc}
use Rattle.c_header.specs.Header.{faults_text}
use Rattle.c_header.proofs.PartLemmas.{last}
use Rattle.c_header.proofs.numbers.print_faults.Goals as goal

pub returns : goal.returns
unfolding faults_text
returns c =
    last _ _ _ _ c.print_define-6.ensures
    (rw (
      c.in_ok-print_define-5.ensures,
      c.in_ok-print_define-4.ensures,
      c.in_ok-print_define-3.ensures,
      c.in_ok-print_define-2.ensures,
      c.in_ok-print_define.ensures,
      c.in_ok-push_str.ensures.bytes,
    )
    (simp append_assoc))
