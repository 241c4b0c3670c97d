use Rattle.c_file.proofs.PrintLemmas.{first_printed}
use Rattle.c_file.proofs.printing.printed_source.Goals as goal

pub returns : goal.returns
returns c = first_printed _ _ _ c.new-text.ensures.bytes c.in_ok-print_source.ensures
