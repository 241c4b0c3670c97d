use Rattle.actions.proofs.InputLemmas.{IsInputSet-fits, begun_fits}
use Rattle.actions.proofs.laws.inputs_keep_worlds_fitting.Goals as goal

pub returns : goal.returns
returns c = record { set = IsInputSet-fits; begun = begun_fits }
