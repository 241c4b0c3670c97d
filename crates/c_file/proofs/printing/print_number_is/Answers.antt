use Rattle.c_file.specs.Source.{number_is}
use Rattle.c_file.proofs.PrintLemmas.{two_printed}
use Rattle.c_file.proofs.printing.print_number_is.Goals as goal

pub returns : goal.returns
unfolding number_is
returns c = two_printed _ _ _ _ _ c.in_ok-print_named.ensures c.in_ok-print_number.ensures
