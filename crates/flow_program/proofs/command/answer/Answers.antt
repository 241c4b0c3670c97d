use Rattle.std.proofs.Common.{Some, sym, refl, subst}
use Rattle.commands.specs.Call.{call_of}
use Rattle.command_words.specs.declared.words.Command.{Command}
use Rattle.command_words.specs.Seen.{command_seen}
use Rattle.flow_program.specs.Answer.{Ends}
use Rattle.flow_program.proofs.command.answer.Goals as goal

-- `rules` runs under its bounds
pub returns-in-Rules-clause-ends : goal.returns-in-Rules-clause-ends
returns-in-Rules-clause-ends g c =
    let call = call_of g.I.Inputs g.O.Sink c.args.inputs.now c.run_chart.new.inputs c.args.out.now c.run_chart.new.out in
    subst (λ (command : Command). Ends (Some (command_seen command)) call c.from-in-Rules.result) (sym c.in-Rules.is)
    (record {
      end = c.run_chart.result;
      ends = record { bounds = c.in-Rules.bounds; depth = refl; steps = refl; ends = c.run_chart.ensures.ends };
      ending_is = c.from-in-Rules.ensures;
    })

-- `exec` runs under its bounds
pub returns-in-Exec-clause-ends : goal.returns-in-Exec-clause-ends
returns-in-Exec-clause-ends g c =
    let call = call_of g.I.Inputs g.O.Sink c.args.inputs.now c.exec_code.new.inputs c.args.out.now c.exec_code.new.out in
    subst (λ (command : Command). Ends (Some (command_seen command)) call c.from-in-Exec.result) (sym c.in-Exec.is)
    (record {
      end = c.exec_code.result;
      ends = record { bounds = c.in-Exec.bounds; depth = refl; steps = refl; ends = c.exec_code.ensures.ends };
      ending_is = c.from-in-Exec.ensures;
    })

-- `run` runs under its bounds
pub returns-in-Run-clause-ends : goal.returns-in-Run-clause-ends
returns-in-Run-clause-ends g c =
    let call = call_of g.I.Inputs g.O.Sink c.args.inputs.now c.run_compiled.new.inputs c.args.out.now c.run_compiled.new.out in
    subst (λ (command : Command). Ends (Some (command_seen command)) call c.from-in-Run.result) (sym c.in-Run.is)
    (record {
      end = c.run_compiled.result;
      ends = record { bounds = c.in-Run.bounds; depth = refl; steps = refl; ends = c.run_compiled.ensures.ends };
      ending_is = c.from-in-Run.ensures;
    })

-- `net` runs under its bounds
pub returns-in-Net-clause-ends : goal.returns-in-Net-clause-ends
returns-in-Net-clause-ends g c =
    let call = call_of g.I.Inputs g.O.Sink c.args.inputs.now c.run_net.new.inputs c.args.out.now c.run_net.new.out in
    subst (λ (command : Command). Ends (Some (command_seen command)) call c.from-in-Net.result) (sym c.in-Net.is)
    (record {
      end = c.run_net.result;
      ends = record { bounds = c.in-Net.bounds; depth = refl; steps = refl; ends = c.run_net.ensures.ends };
      ending_is = c.from-in-Net.ensures;
    })
