use Rattle.code_language.specs.WellFormed.{known_of}
use Rattle.code_language.proofs.Accepted.{no_procs_fault}
use Rattle.chart_code.specs.Bodies.{code_of_chart}
use Rattle.layout_bounds.proofs.SoundCode.{code_sound}
use Rattle.layout_bounds.proofs.SoundTables.{table, starts}
use Rattle.layout_bounds.proofs.FewProcedures.{code_few}
use Rattle.layout_bounds.proofs.code_soundness.the_code_of_a_chart_is_sound.Goals as goal

pub returns-clause-sound : goal.returns-clause-sound
returns-clause-sound x c valid = code_sound c valid

pub returns-clause-no_fault : goal.returns-clause-no_fault
returns-clause-no_fault x c valid =
    no_procs_fault (known_of (code_of_chart c)) 0 (code_of_chart c).procedures.procs (code_sound c valid)

pub returns-clause-starts : goal.returns-clause-starts
returns-clause-starts x c valid = starts c valid

pub returns-clause-table : goal.returns-clause-table
returns-clause-table x c valid = table c valid

pub returns-clause-few : goal.returns-clause-few
returns-clause-few x c valid = code_few c valid
