use Rattle.commands.specs.Call.{sources_of, call_of}
use Rattle.commands.proofs.ReadingLemmas.{both_of_two}
use Rattle.commands.proofs.TraceLemmas.{file_ran, trace_others}
use Rattle.commands.specs.CodeText.{IsCodeText}
use Rattle.commands.specs.Exec.{runs_by_code}
use Rattle.commands.proofs.exec.exec_code.Goals as goal

-- the code ran
pub returns-clause-ends : goal.returns-clause-ends
returns-clause-ends g c =
    file_ran IsCodeText runs_by_code
    (call_of g.I.Inputs g.O.Sink c.args.inputs.now c.run_code.new.inputs c.args.out.now c.run_code.new.out)
    c.args.code_file.now c.args.event_file.now
    (sources_of g.I.Inputs c.read_code_file.new.inputs) c.in-Ok.code c.args.bounds c.run_code.result
    c.in-Ok.ensures c.run_code.ensures

pub returns-clause-others : goal.returns-clause-others
returns-clause-others g c =
    both_of_two (sources_of g.I.Inputs c.args.inputs.now) (sources_of g.I.Inputs c.read_code_file.new.inputs)
    (sources_of g.I.Inputs c.run_code.new.inputs) c.args.code_file.now c.args.event_file.now c.in-Ok.ensures.read.others
    (trace_others _ (call_of g.I.Inputs g.O.Sink c.read_code_file.new.inputs c.run_code.new.inputs c.args.out.now c.run_code.new.out)
    c.args.event_file.now c.run_code.result c.run_code.ensures)
