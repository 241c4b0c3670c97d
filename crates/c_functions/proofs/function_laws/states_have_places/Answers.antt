use Rattle.c_functions.proofs.LayoutPlaces.{is-layout}
use Rattle.c_functions.proofs.function_laws.states_have_places.Goals as goal

pub returns : goal.returns
returns c = is-layout
