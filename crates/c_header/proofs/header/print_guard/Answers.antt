use Rattle.std.proofs.Common.{append_assoc}
use Rattle.std.specs.Prelude.{codes, string_bytes}
use Rattle.c_header.specs.Header.{guard_text, guard_line}
use Rattle.c_header.proofs.PartLemmas.{last}
use Rattle.c_header.proofs.header.print_guard.Goals as goal

pub returns : goal.returns
unfolding guard_text
returns c =
    last _ _ _ _ c.print_guard_line-2.ensures
    (rw c.in_ok-print_guard_line.ensures
    (append_assoc (string_bytes c.args.out.now) (guard_line (codes "#ifndef ") c.args.chart.now (codes "\n"))
    (guard_line (codes "#define ") c.args.chart.now (codes "\n\n"))))
