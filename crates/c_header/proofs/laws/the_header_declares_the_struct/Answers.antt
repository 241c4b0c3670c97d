use Rattle.c_header.proofs.CommentLemmas.{name_plain}
use Rattle.c_header.proofs.StructLemmas.{declares, declares_inside}
use Rattle.c_header.proofs.laws.the_header_declares_the_struct.Goals as goal

pub returns-clause-declares : goal.returns-clause-declares
returns-clause-declares c chart K tree = declares chart K tree

pub returns-clause-comments : goal.returns-clause-comments
returns-clause-comments c chart K is_named named =
    declares_inside chart K named.tree (name_plain chart is_named) named.names.states
