use Rattle.c_functions.proofs.StatesChanges.{mark_shows, clear_shows, keep_shows}
use Rattle.c_functions.proofs.plan_laws.changes_of_fields_are_those_of_marks.Goals as goal

pub returns-clause-mark : goal.returns-clause-mark
returns-clause-mark c t n st m s num same k h lt = mark_shows t n num same st m h k s lt

pub returns-clause-clear : goal.returns-clause-clear
returns-clause-clear c t n st m s num same k h lt = clear_shows t n num same st m h k s lt

pub returns-clause-keep : goal.returns-clause-keep
returns-clause-keep c t n st m s p num same k h up o = keep_shows t n num same st m h k s p up o
