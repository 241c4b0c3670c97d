use Rattle.std.proofs.Common.{subst}
use Rattle.actions.specs.Engines.{fault_of, IsFaultOf}
use Rattle.checked_chart.specs.Kept.{chart_of}
use Rattle.sos_interpreter.specs.Engine.{EngineState}
use Rattle.sos_interpreter.proofs.engine.RulesEngine.start.Goals as goal

pub returns-clause-fault : goal.returns-clause-fault
returns-clause-fault c =
    subst (λ (e : EngineState). IsFaultOf (chart_of e.chart).names (fault_of c.start-end.result)) c.self.view_is
    c.start-end.ensures.fault
