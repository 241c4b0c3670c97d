use Rattle.std.proofs.Common.{◌≡◌}
use Rattle.actions.specs.Engines.{Running}
use Rattle.library_tests.proofs.engine.run.Given as goal

abbrev pub invariant-loop-time : goal.invariant-loop-time
invariant-loop-time g l =
    (g.E.Engine.stage l.engine ≡ Running) × (g.E.Engine.program l.engine ≡ g.E.Engine.program l.fn.engine)
