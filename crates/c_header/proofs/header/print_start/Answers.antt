use Rattle.std.proofs.Common.{append_assoc}
use Rattle.c_header.specs.Header.{start_text}
use Rattle.c_header.proofs.PartLemmas.{last}
use Rattle.c_header.proofs.header.print_start.Goals as goal

pub returns : goal.returns
unfolding start_text
returns c =
    last _ _ _ _ (rw c.start_function.ensures at c.print_prototype.ensures)
    (rw c.in_ok-print_named.ensures (simp append_assoc))
