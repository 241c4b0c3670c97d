use Rattle.c_readers.proofs.ReadLemmas.{call-left}
use Rattle.c_readers.proofs.laws.what_only_reads_leaves_the_struct.Goals as goal

pub returns : goal.returns
returns c = call-left
