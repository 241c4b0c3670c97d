use Rattle.std.proofs.Common.{sym, ap, subst, ◌∙◌}
use Rattle.actions.specs.Engines.{AnswersBy, CanReactTo, IsFaultOf, fault_of, stage_of}
use Rattle.code_machine.specs.Engine.{EngineState, IsIdle, Reacts, ReactsShortly, program_of, program_of_loaded}
use Rattle.code_machine.specs.States.{code_in, world_of}
use Rattle.code_machine.proofs.EngineLemmas.{reaction_moment, reaction_room, answers_by, same_fault}
use Rattle.code_machine.proofs.EngineLemmas.{never_refused, ended_machine}
use Rattle.code_machine.proofs.engine.MachineEngine.react.Goals as goal

pub process-requires-clause-moment : goal.process-requires-clause-moment
process-requires-clause-moment c =
    reaction_moment c.self.inside.code c.self.inside.state (stage_of c.self.inside.phase) c.self.invariant
    c.args.event
    (subst (λ (e : EngineState). CanReactTo (code_in e.code).names c.args.event) (sym c.self.view_is) c.requires.event)

pub process-requires-clause-roomy : goal.process-requires-clause-roomy
process-requires-clause-roomy c =
    reaction_room c.self.inside.code c.self.inside.state (stage_of c.self.inside.phase) c.self.invariant
    c.args.event

pub process-requires-clause-code : goal.process-requires-clause-code
process-requires-clause-code c = c.self.invariant.code

pub process-requires-clause-answers : goal.process-requires-clause-answers
process-requires-clause-answers c = c.self.invariant.answers

pub process-requires-clause-jumps : goal.process-requires-clause-jumps
process-requires-clause-jumps c = c.self.invariant.jumps

pub process-requires-clause-operations : goal.process-requires-clause-operations
process-requires-clause-operations c = c.self.invariant.operations

pub process-requires-clause-reserve : goal.process-requires-clause-reserve
process-requires-clause-reserve c = c.self.invariant.reserve

pub process-requires-clause-idle : goal.process-requires-clause-idle
process-requires-clause-idle c =
    subst (λ s. IsIdle s c.self.inside.state)
    (ap (λ (e : EngineState). e.stage) c.self.view_is ∙ c.requires.running)
    c.self.invariant.idle

-- it is still a machine
pub invariant_of-self : goal.invariant_of-self
invariant_of-self c =
    ended_machine c.self.inside.code c.self.inside.state c.process.new.machine (stage_of c.self.inside.phase) _ _
    c.process.result c.halting-end.result c.self.invariant c.process.ensures.ends c.halting-end.ensures
    c.after-self-inside.ensures

-- what it answers
pub returns-clause-defined : goal.returns-clause-defined
returns-clause-defined c =
    let p = c.self.inside.code in
    let w = world_of c.process.new.machine in
    subst (λ (e : EngineState). AnswersBy (Reacts (program_of e) e.world c.args.event w) c.halting-end.result) c.self.view_is
    (answers_by (Reacts (program_of_loaded p) (world_of c.self.inside.state) c.args.event w) c.process.result
    c.halting-end.result c.halting-end.ensures c.process.ensures.ends.leads)

pub returns-clause-short : goal.returns-clause-short
returns-clause-short c =
    let p = c.self.inside.code in
    let w = world_of c.process.new.machine in
    subst (λ (e : EngineState). AnswersBy (ReactsShortly (program_of e) e.world c.args.event w) c.halting-end.result)
    c.self.view_is
    (answers_by (ReactsShortly (program_of_loaded p) (world_of c.self.inside.state) c.args.event w) c.process.result
    c.halting-end.result c.halting-end.ensures c.process.ensures.short)

pub returns-clause-fault : goal.returns-clause-fault
returns-clause-fault c =
    subst (λ (e : EngineState). IsFaultOf (program_of e).code.names (fault_of c.halting-end.result)) c.self.view_is
    (subst (IsFaultOf (code_in c.self.inside.code).names)
    (same_fault c.process.result c.halting-end.result c.halting-end.ensures) c.process.ensures.ends.fault)

pub returns-clause-program : goal.returns-clause-program
returns-clause-program c = ap program_of c.self.view_is

pub returns-clause-memory : goal.returns-clause-memory
returns-clause-memory c = never_refused c.process.result c.halting-end.result c.halting-end.ensures
