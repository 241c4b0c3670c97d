use Rattle.code_language.proofs.Places.{has_whole}
use Rattle.code_language.proofs.simulation_laws.instructions_stand_at_their_places.Goals as goal

pub returns : goal.returns
returns x k p is e = has_whole k p is e
