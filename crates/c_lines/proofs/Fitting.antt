-- Whether what stays together fits, letter by letter.
use Rattle.std.proofs.Common.{◌≡◌, ◌∙◌, ◌∷◌, ◌-◌, ◌||◌, ℕ, zero, suc, List, true, false, ap, sym, refl, arith}
use Rattle.c_lines.specs.declared.breaking.Ahead.{Ahead}
use Rattle.c_lines.specs.Broken.{fits_from, is_over, ahead_after}

-- it is over at a letter
pub fits_over : (ahead : Ahead) (room c : ℕ) (rest : List ℕ) → is_over ahead c ≡ true
    → fits_from ahead room (c ∷ rest) ≡ true
fits_over ahead zero c rest e = e
fits_over ahead (suc room) c rest e = ap (λ b. b || fits_from (ahead_after ahead c) room rest) e

-- it goes on though nothing fits
pub fits_not : (ahead : Ahead) (room c : ℕ) (rest : List ℕ) → room ≡ 0 → is_over ahead c ≡ false
    → fits_from ahead room (c ∷ rest) ≡ false
fits_not ahead zero c rest z e = e
fits_not ahead (suc room) c rest z e = absurd (omega arith)

-- it goes on
pub fits_on : (ahead : Ahead) (room c : ℕ) (rest : List ℕ) → (room ≡ 0 → ⊥) → is_over ahead c ≡ false
    → fits_from (ahead_after ahead c) (room - 1) rest ≡ fits_from ahead room (c ∷ rest)
fits_on ahead zero c rest n e = absurd (n refl)
fits_on ahead (suc room) c rest n e =
    let one_less : suc room - 1 ≡ room = omega arith in
    ap (λ k. fits_from (ahead_after ahead c) k rest) one_less
    ∙ sym (ap (λ b. b || fits_from (ahead_after ahead c) room rest) e)
