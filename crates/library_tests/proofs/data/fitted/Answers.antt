use Rattle.std.proofs.Common.{refl}
use Rattle.library_tests.proofs.DataLemmas.{small_can_fit, fitted_in_range}
use Rattle.library_tests.proofs.data.fitted.Goals as goal

pub fit-requires-clause-brought : goal.fit-requires-clause-brought
fit-requires-clause-brought c = (small_can_fit c.args.number c.args.scale (c.if-not-is_small.ensures refl)).brought

pub returns : goal.returns
returns c = fitted_in_range c.args.number c.args.scale _ _ _ c.fit.ensures c.ok.ensures.value
