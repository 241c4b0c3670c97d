-- What is proved of charts, from what is proved of names and of their parts.
use Rattle.canonical_text.specs.Claims.{ExpressionClaims, TransitionClaims, ChartClaims}
use Rattle.canonical_text.proofs.ChartsSpelled.{chart_spelled}
use Rattle.canonical_text.proofs.ChartsHave.{chart_has}

-- every chart that is spelled has what charts have, and the words of its canonical text spell it again
pub chart_claims : ExpressionClaims → TransitionClaims → ChartClaims
chart_claims e t = record { chart_has = chart_has e t; chart_spelled = chart_spelled e t }
