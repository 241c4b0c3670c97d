use Rattle.std.proofs.Common.{refl, subst}
use Rattle.code_language.specs.Code.{code_of}
use Rattle.code_counts.specs.Certificate.{IsCertificate, IsMost}
use Rattle.code_counts.specs.Claims.{HasMost}
use Rattle.code_counts.specs.Rows.{numbers_of}
use Rattle.code_counts.proofs.Bounded.{bounded}
use Rattle.code_counts.proofs.counting.most.Goals as goal

-- the numbers are enough, so they bound all events
pub returns-then-is_certificate : goal.returns-then-is_certificate
returns-then-is_certificate c =
    let k = code_of c.raw-raw.result.now in
    let most = c.most_of.result in
    let enough = subst (λ rows. IsCertificate c.args.counted k.procedures (numbers_of rows)) c.deref.ensures.value
    (c.if-is_certificate.ensures refl) in
    let is = subst (λ rows. IsMost k.procedures (numbers_of rows) most) c.deref-then-is_certificate.ensures.value
    c.most_of.ensures in
    subst (λ raw. HasMost c.args.counted (code_of raw) most) c.raw-raw.ensures.raw
    (bounded k (numbers_of c.in-Some.rows.items) most is c.args.counted enough)
