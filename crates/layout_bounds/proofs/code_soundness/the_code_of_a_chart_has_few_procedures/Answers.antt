use Rattle.layout_bounds.proofs.FewProcedures.{procedures_few}
use Rattle.layout_bounds.proofs.code_soundness.the_code_of_a_chart_has_few_procedures.Goals as goal

pub returns : goal.returns
returns x c pairs valid are = procedures_few c valid pairs are
