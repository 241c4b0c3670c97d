-- The canonical bytes of numbers and of types are read as those numbers and types.
use Rattle.canonical_text.specs.Claims.{NumberClaims}
use Rattle.canonical_text.proofs.NumberLiterals.{literal_is_read}
use Rattle.canonical_text.proofs.ZeroAndFlags.{zero_is_literal, flag_is_named, flag_is_told}
use Rattle.canonical_text.proofs.ScaleLimits.{scale_is_told}
use Rattle.canonical_text.proofs.Scales.{scale_is_read}

-- all that is claimed of them
pub number_claims : NumberClaims
number_claims = record {
  literal_is_read = literal_is_read;
  zero_is_literal = zero_is_literal;
  scale_is_read = scale_is_read;
  scale_is_told = scale_is_told;
  flag_is_named = flag_is_named;
  flag_is_told = flag_is_told;
}
