use Rattle.std.proofs.Common.{refl}
use Rattle.commands.specs.Call.{call_of}
use Rattle.c_program.specs.Words.{command_of}
use Rattle.c_program.proofs.OthersLemmas.{none_read}
use Rattle.c_program.proofs.command.call.Goals as goal

-- memory ran out before anything was read
pub returns-in-Err-clause-others : goal.returns-in-Err-clause-others
returns-in-Err-clause-others g c =
    none_read (command_of c.args.words.now)
    (call_of g.I.Inputs g.O.Sink c.args.inputs.now c.args.inputs.now c.args.out.now c.args.out.now) refl
