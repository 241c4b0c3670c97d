use Rattle.flow_base.specs.declared.real_inputs.RealFile.{RealFile}
use Rattle.flow_base.proofs.real_inputs.RealInputs.open.Goals.{in-Ok-push, in-Err}
use Rattle.flow_base.proofs.real_inputs.RealInputs.open.Goals as goal

-- the file that is kept has the name, and the system's answer
pub returns-clause-opened : goal.returns-clause-opened
returns-clause-opened g c =
    let file : RealFile g.row.R-File.Denot = record { name = c.in-Ok.name; source = c.source_of-source.result } in
    elim c.match-push.branch [
      | in-Ok-push w ↦ rw w.result-is (record {
        file = file;
        name_is = c.in-Ok.ensures.ok;
        not_ended = c.source_of-source.ensures.not_ended;
        added = w.in-Ok-push.ensures.items;
      })
      | in-Err w ↦ rw w.result-is tt
    ]
