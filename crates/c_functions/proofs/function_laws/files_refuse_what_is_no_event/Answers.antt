use Rattle.c_functions.proofs.StartsRuns.{refuses}
use Rattle.c_functions.proofs.function_laws.files_refuse_what_is_no_event.Goals as goal

pub returns : goal.returns
returns c k T b room bodies int is most = refuses k T b room bodies int is most
