use Rattle.c_file.proofs.CopyLemmas.{copy_plain}
use Rattle.c_file.proofs.laws.words_for_copies_can_stand_in_a_comment.Goals as goal

pub returns : goal.returns
returns c t n tag states events = copy_plain t n states events tag
