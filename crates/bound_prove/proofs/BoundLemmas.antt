-- What the check of a certificate that was found answers.
use Rattle.std.proofs.Common.{◌≡◌, ◌↔◌, Option, Some, None, refl, sym, subst}
use Rattle.checked_chart.specs.Chart.{Chart}
use Rattle.bound_prove.specs.declared.need.Need.{Need}
use Rattle.bound_prove.specs.Cells.{Cells, IsGood}
use Rattle.bound_prove.specs.Checks.{Certifies}
use Rattle.bound_prove.specs.Roots.{root_need}
use Rattle.bound_prove.specs.Searches.{IsNeedOf, Answers, Below, Beyond}

-- of a good certificate whose roots give the need, the check answers the need
pub answer_is_need : (c : Chart) (g : Cells) (bounds : Option Need) → IsGood c g
    → ((n : Option Need) → Answers (root_need c g) n → IsNeedOf c n)
    → ((n : Need) → (bounds ≡ Some n) ↔ Certifies c g n) → IsNeedOf c bounds
answer_is_need c g (Some n) good need exact =
    let k : Certifies c g n = (exact n).0 refl in
    need (Some n) (subst (λ z. Answers z (Some n)) (sym k.roots) (Below k.within))
answer_is_need c g None good need exact =
    need None (Beyond (λ w.
    let some : None ≡ Some (root_need c g) = (exact (root_need c g)).1
    (record { good = good; roots = refl; within = w }) in
    absurd cc))
