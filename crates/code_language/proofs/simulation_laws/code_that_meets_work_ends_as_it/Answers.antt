use Rattle.std.proofs.Common.{refl}
use Rattle.code_language.proofs.Endings.{reached_leads, falls_leads}
use Rattle.code_language.proofs.simulation_laws.code_that_meets_work_ends_as_it.Goals as goal

pub returns-clause-no_frame : goal.returns-clause-no_frame
returns-clause-no_frame x C m m' h e = reached_leads h e

pub returns-clause-falls : goal.returns-clause-falls
returns-clause-falls x C m w f h = falls_leads h

pub returns-clause-end : goal.returns-clause-end
returns-clause-end x C m saved now a w h = reached_leads h.by.reached refl

pub returns-clause-fault : goal.returns-clause-fault
returns-clause-fault x C m saved now f w h = falls_leads h.by
