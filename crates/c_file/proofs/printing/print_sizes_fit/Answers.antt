use Rattle.std.specs.Prelude.{[], codes}
use Rattle.c_file.specs.Source.{sizes_fit, number_is}
use Rattle.c_file.proofs.PrintLemmas.{of_same, six_printed}
use Rattle.c_file.proofs.printing.print_sizes_fit.Goals as goal

pub returns : goal.returns
unfolding sizes_fit
returns c =
    six_printed _ _ _ _ _ _ _ _ _ _ _ _ _ c.in_ok-print_named.ensures
    (of_same (number_is [] c.args.chart.now (codes "DEPTH == ")) _ _ _ _
    c.in_ok-print_number_is.ensures c.from.ensures)
    (of_same (number_is (codes ")\n    && (") c.args.chart.now (codes "STEPS == ")) _ _ _ _
    c.in_ok-print_number_is-2.ensures c.from-2.ensures)
    (of_same (number_is (codes ")\n    && (") c.args.chart.now (codes "OUTPUTS == ")) _ _ _ _
    c.in_ok-print_number_is-3.ensures c.from-3.ensures)
    c.in_ok-print_number_is-4.ensures c.in_ok-print_number_is-5.ensures
