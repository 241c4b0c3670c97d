use Rattle.layout_bounds.proofs.CodeWorks.{works_by_kind}
use Rattle.layout_bounds.proofs.code_works.each_procedure_has_the_work_of_its_kind.Goals as goal

pub returns : goal.returns
returns x c p key valid e = works_by_kind c valid p key e
