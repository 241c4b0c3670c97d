-- What is claimed of blocks, transitions, junctions and declarations, all of it.
use Rattle.canonical_text.specs.Claims.{NumberClaims, ExpressionClaims, TransitionClaims}
use Rattle.canonical_text.proofs.Statements.{block_has, block_spelled}
use Rattle.canonical_text.proofs.Transitions.{trans_has, trans_spelled}
use Rattle.canonical_text.proofs.Junctions.{junction_has, junction_spelled}
use Rattle.canonical_text.proofs.Declarations.{event_has, event_spelled, variable_has, variable_spelled}

-- where what is claimed of numbers and expressions holds
pub transition_claims : NumberClaims → ExpressionClaims → TransitionClaims
transition_claims c d = record {
  block_has = block_has d;
  block_spelled = block_spelled d;
  trans_has = trans_has d;
  trans_spelled = trans_spelled d;
  junction_has = junction_has d;
  junction_spelled = junction_spelled d;
  event_has = event_has d;
  event_spelled = event_spelled d;
  variable_has = variable_has c d;
  variable_spelled = variable_spelled c d;
}
