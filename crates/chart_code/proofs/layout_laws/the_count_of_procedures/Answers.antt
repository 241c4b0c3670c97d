use Rattle.chart_code.proofs.Count.{total_is}
use Rattle.chart_code.proofs.Pairs.{reached_pairs}
use Rattle.chart_code.proofs.Sizes.{layout_length}
use Rattle.chart_code.proofs.Whole.{procedures_length, process_number}
use Rattle.chart_code.proofs.layout_laws.the_count_of_procedures.Goals as goal

pub returns-clause-listed : goal.returns-clause-listed
returns-clause-listed x c = layout_length c

pub returns-clause-count : goal.returns-clause-count
returns-clause-count x c = procedures_length c

pub returns-clause-sum : goal.returns-clause-sum
returns-clause-sum x c = total_is c

pub returns-clause-pairs : goal.returns-clause-pairs
returns-clause-pairs x c count valid pairs = reached_pairs c valid count pairs

pub returns-clause-process : goal.returns-clause-process
returns-clause-process x c s lt = process_number c s lt
