use Rattle.range_rules.proofs.Claims.{claim_kept}
use Rattle.range_rules.proofs.laws.claims_are_kept.Goals as goal

pub returns : goal.returns
returns x c cert claim b events moments closed proves can run =
    claim_kept c cert claim closed proves b events moments can run
