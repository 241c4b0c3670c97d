use Rattle.std.proofs.Common.{subst, sym}
use Rattle.commands.specs.Call.{call_of}
use Rattle.code_language.specs.Code.{code_of}
use Rattle.code_machine.specs.Engine.{Program}
use Rattle.commands.specs.Trace.{HasShortNames, TraceEnds}
use Rattle.commands.proofs.NameLemmas.{names_short}
use Rattle.commands.specs.Exec.{by_code}
use Rattle.commands.proofs.exec.run_code.Goals as goal

-- the names of well-formed code are short
pub trace-requires-clause-short : goal.trace-requires-clause-short
trace-requires-clause-short g c =
    subst (λ (p : Program). HasShortNames p.code.names) (sym c.in-Ok.ensures.program)
    (names_short (code_of c.args.code).names c.raw.ensures.well_formed.table.names.declared)

-- the program of the machine is the code with its bounds
pub returns : goal.returns
returns g c =
    subst
    (λ (p : Program). TraceEnds (by_code p.code p.bounds)
    (call_of g.I.Inputs g.O.Sink c.args.inputs.now c.trace.new.inputs c.args.out.now c.trace.new.out)
    c.args.event_file.now c.trace.result)
    c.in-Ok.ensures.program c.trace.ensures
