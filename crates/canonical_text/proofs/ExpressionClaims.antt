-- All that is claimed of names, paths, numbers and expressions.
use Rattle.canonical_text.specs.Claims.{NumberClaims, ExpressionClaims}
use Rattle.canonical_text.proofs.Names.{name_has, name_spelled, path_has, path_spelled}
use Rattle.canonical_text.proofs.Numbers.{number_has, number_spelled}
use Rattle.canonical_text.proofs.ExpressionsHave.{expr_has}
use Rattle.canonical_text.proofs.ExpressionsSpelled.{expr_spelled}

pub expression_claims : NumberClaims → ExpressionClaims
expression_claims claims = record {
  name_has = name_has;
  name_spelled = name_spelled;
  path_has = path_has;
  path_spelled = path_spelled;
  number_has = number_has;
  number_spelled = number_spelled claims;
  expr_has = expr_has;
  expr_spelled = expr_spelled claims;
}
