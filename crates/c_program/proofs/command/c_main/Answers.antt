use Rattle.std.proofs.Common.{Option, subst}
use Rattle.commands.specs.Call.{Output, Call, call_of, output_of}
use Rattle.c_program.specs.Commands.{Command}
use Rattle.c_program.specs.Ending.{line_of}
use Rattle.c_program.specs.Answer.{CallEnds}
use Rattle.commands.proofs.ErrorLineLemmas.{line_stands, line_whole}
use Rattle.c_program.proofs.UsageLemmas.{usage_only, no_command}
use Rattle.c_program.proofs.command.c_main.Goals as goal

-- the status is that of the ending, which is Usage only where the words ask for no command
pub returns-clause-usage : goal.returns-clause-usage
returns-clause-usage g c = rw c.status.ensures (usage_only _ _ c.call-ending.result c.call-ending.ensures.ends)

-- and then it is Usage, unless memory ran out
pub returns-clause-no_command : goal.returns-clause-no_command
returns-clause-no_command g c =
    let call : Call = call_of g.I.Inputs g.O.Sink c.args.inputs.now c.call-ending.new.inputs c.args.out.now
    c.call-ending.new.out in
    rw c.status.ensures (λ none.
    no_command call c.call-ending.result
    (subst (λ (command : Option Command). CallEnds command call c.call-ending.result) none c.call-ending.ensures.ends))

-- the call ends so, and its line stands on standard error, or a proper prefix of it
pub returns-clause-answer : goal.returns-clause-answer
returns-clause-answer g c =
    let before : Output = output_of g.E.Sink c.args.err.now in
    let after : Output = output_of g.E.Sink c.report.new.err in
    let line = line_of c.call-ending.result in
    record {
      ending = c.call-ending.result;
      ends = c.call-ending.ensures.ends;
      others = c.call-ending.ensures.others;
      answered = c.status.ensures;
      line = line_whole before after line c.report.result c.report.ensures.ok c.report.ensures.cause;
      written = line_stands before after line c.report.result c.report.ensures.ok c.report.ensures.failed
          c.report.ensures.cause;
    }
