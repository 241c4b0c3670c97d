use Rattle.c_file.specs.Source.{fits_text}
use Rattle.c_file.proofs.PrintLemmas.{three_printed}
use Rattle.c_file.proofs.printing.print_fits.Goals as goal

pub returns : goal.returns
unfolding fits_text
returns c =
    three_printed _ _ _ _ _ _ _ c.in_ok-print_sizes_fit.ensures c.in_ok-print_sum_numbers.ensures
    c.in_ok-push_str.ensures.bytes
