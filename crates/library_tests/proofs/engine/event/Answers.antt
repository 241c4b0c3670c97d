use Rattle.std.proofs.Common.{refl}
use Rattle.sample_engine.specs.Chart.{go_decl}
use Rattle.library_tests.proofs.engine.event.Goals as goal

pub returns-then-goes : goal.returns-then-goes
returns-then-goes c = λ scale. (go_decl, refl, refl)
