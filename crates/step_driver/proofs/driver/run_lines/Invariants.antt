use Rattle.std.proofs.Common.{◌≡◌, ◌-◌}
use Rattle.event_file.specs.LineValues.{IsMadeFor}
use Rattle.event_file.specs.declared.limits.TheConstants.{FILE_LIMIT}
use Rattle.flow_base.specs.Causes.{OthersKept, AllStay}
use Rattle.actions.specs.Engines.{Running}
use Rattle.step_driver.specs.Driving.{engine_runs}
use Rattle.step_driver.proofs.Buffered.{Buffered}
use Rattle.step_driver.proofs.EngineRuns.{so_far}
use Rattle.step_driver.proofs.driver.run_lines.Given as goal

-- the lines so far were taken, their trace was written or is kept, and no read or write failed
abbrev pub invariant-lines : goal.invariant-lines
invariant-lines g l =
    let e = g.G.Engine in
    let p = e.program l.fn.engine in
    record {
      driven : Buffered (engine_runs (e.Starts p) (e.Reacts p) (e.tree p) (e.declared p))
          (so_far (e.Starts p) (e.Reacts p) (e.tree p) (e.declared p) (e.world l.engine)) (g.O.Sink.wrote l.fn.out)
          (g.O.Sink.wrote l.out) (g.O.Sink.faults l.fn.out) (g.O.Sink.faults l.out)
          (g.I.Inputs.left l.fn.inputs l.name) (g.I.Inputs.left l.inputs l.name) l.pieces l.lines l.index;
      program : e.program l.engine ≡ p;
      running : e.stage l.engine ≡ Running;
      vals : IsMadeFor (e.declared p) l.vals;
      others : OthersKept l.name (g.I.Inputs.left l.fn.inputs) (g.I.Inputs.left l.inputs);
      counts : AllStay (g.I.Inputs.faults l.fn.inputs) (g.I.Inputs.faults l.inputs);
    }

-- each line takes bytes of the file
abbrev pub decreases-lines : goal.decreases-lines
decreases-lines g l = FILE_LIMIT - l.lines.at
