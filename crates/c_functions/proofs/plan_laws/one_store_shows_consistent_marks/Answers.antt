use Rattle.c_functions.proofs.StatesMarks.{shown_shows, one_store, one_configuration, single_shown}
use Rattle.c_functions.proofs.plan_laws.one_store_shows_consistent_marks.Goals as goal

pub returns-clause-shows : goal.returns-clause-shows
returns-clause-shows c t n m num same k = shown_shows t n num same m k

pub returns-clause-one : goal.returns-clause-one
returns-clause-one c t n st st' m num h h' = one_store t n num st st' m h h'

pub returns-clause-told : goal.returns-clause-told
returns-clause-told c t n st m m' num k k' h h' = one_configuration t n num st m m' k k' h h'

pub returns-clause-single : goal.returns-clause-single
returns-clause-single c t n st m p x y num h o ux uy ox oy = single_shown t n num st m h p x y o ux uy ox oy
