use Rattle.std.proofs.Common.{append_assoc}
use Rattle.c_header.specs.Header.{init_text}
use Rattle.c_header.proofs.PartLemmas.{last}
use Rattle.c_header.proofs.header.print_init.Goals as goal

pub returns : goal.returns
unfolding init_text
returns c =
    last _ _ _ _ (rw c.init_function.ensures at c.print_prototype.ensures)
    (rw (c.in_ok-push_str-2.ensures.bytes, c.in_ok-push_str.ensures.bytes) (simp append_assoc))
