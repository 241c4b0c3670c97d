use Rattle.code_language.proofs.Accepted.{procs_right, no_procs_fault}
use Rattle.code_language.proofs.AcceptLemmas.{start_known, react_known, procs_sound}
use Rattle.code_language.proofs.laws.well_formed_code_is_sound.Goals as goal

pub returns-clause-start : goal.returns-clause-start
returns-clause-start c = start_known

pub returns-clause-react : goal.returns-clause-react
returns-clause-react c = react_known

pub returns-clause-procs : goal.returns-clause-procs
returns-clause-procs c = procs_sound

pub returns-clause-sound : goal.returns-clause-sound
returns-clause-sound c = procs_right

pub returns-clause-back : goal.returns-clause-back
returns-clause-back c = no_procs_fault
