use Rattle.std.proofs.Common.{◌≡◌, ◌++◌, sym, subst}
use Rattle.std.specs.Prelude.{codes, string_bytes}
use Rattle.c_file.specs.Source.{wide_text}
use Rattle.c_header.specs.Header.{named_text}
use Rattle.c_file.proofs.PrintLemmas.{two_printed}
use Rattle.c_file.proofs.printing.print_wide.Goals as goal

pub returns-in_ok-print_named-2 : goal.returns-in_ok-print_named-2
returns-in_ok-print_named-2 c =
    subst
    (λ wide. string_bytes c.print_named-then-wide.new.out
    ≡ string_bytes c.args.out.now ++ wide_text c.args.chart.now wide)
    (sym c.if-wide.true)
    (two_printed _ (named_text (codes "\n__extension__ typedef __int128 ") c.args.chart.now (codes "int128;\n"))
    (named_text (codes "__extension__ typedef unsigned __int128 ") c.args.chart.now (codes "uint128;\n")) _ _
    c.in_ok-print_named.ensures c.in_ok-print_named-2.ensures)
