use Rattle.std.proofs.Common.{append_assoc}
use Rattle.c_header.specs.Header.{react_text}
use Rattle.c_header.proofs.PartLemmas.{last, pushed}
use Rattle.c_header.proofs.header.print_react.Goals as goal

pub returns : goal.returns
unfolding react_text
returns c =
    last _ _ _ _ (pushed _ _ _ _ c.push_str-2.ensures.bytes)
    (rw (
      rw c.react_function.ensures at c.in_ok-print_prototype.ensures,
      c.in_ok-push_str.ensures.bytes,
      c.in_ok-print_named.ensures,
    )
    (simp append_assoc))
