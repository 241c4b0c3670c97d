-- How it goes down from place to place.
use Rattle.std.proofs.Common.{◌≡◌, ◌∷◌, ◌-◌, ◌≢◌, ℕ, zero, suc, List, Result, Ok, Err, IfOk, refl, ap}
use Rattle.std.proofs.Common.{◌∙◌, arith}
use Rattle.c_facts.specs.Known.{Place, Row}
use Rattle.c_facts.specs.Facts.{told_at, lowered_at, sunk}
use Rattle.c_facts.specs.Views.{rows_of}
use Rattle.c_facts.specs.declared.known.Rows.{Rows}

one-down : (n : ℕ) (p : Place) (ps : List Place) (rs : List Row) → n ≢ 0
    → sunk (n - 1) (told_at p rs ps) (lowered_at p rs) ≡ sunk n (p ∷ ps) rs
one-down zero p ps rs e = absurd (e refl)
one-down (suc n) p ps rs e =
    let less : suc n - 1 ≡ n = omega arith in
    ap (λ (m : ℕ). sunk m (told_at p rs ps) (lowered_at p rs)) less

-- from a place, and then from those of which it told
pub sunk_on : {E : Type 0} (r : Result Rows E) (n : ℕ) (p : Place) (ps qs : List Place) (rs ls : List Row)
    → n ≢ 0 → qs ≡ told_at p rs ps → ls ≡ lowered_at p rs
    → IfOk r (λ left. rows_of left ≡ sunk (n - 1) qs ls) → IfOk r (λ left. rows_of left ≡ sunk n (p ∷ ps) rs)
sunk_on (Ok left) n p ps qs rs ls e q l h =
    h ∙ ap (λ (qs : List Place). sunk (n - 1) qs ls) q
    ∙ ap (λ (ls : List Row). sunk (n - 1) (told_at p rs ps) ls) l ∙ one-down n p ps rs e
sunk_on (Err x) n p ps qs rs ls e q l h = tt
