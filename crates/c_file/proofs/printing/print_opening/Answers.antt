use Rattle.c_file.specs.Source.{opening_text}
use Rattle.c_file.proofs.PrintLemmas.{four_printed}
use Rattle.c_file.proofs.printing.print_opening.Goals as goal

pub returns : goal.returns
unfolding opening_text
returns c =
    four_printed _ _ _ _ _ _ _ _ _ c.in_ok-print_identity.ensures c.in_ok-print_words.ensures
    c.in_ok-print_words-2.ensures c.in_ok-push_str.ensures.bytes
