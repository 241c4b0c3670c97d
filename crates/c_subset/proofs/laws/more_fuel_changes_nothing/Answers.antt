use Rattle.c_subset.proofs.Fuel.{enough-fuel}
use Rattle.c_subset.proofs.laws.more_fuel_changes_nothing.Goals as goal

pub returns : goal.returns
returns c = enough-fuel
