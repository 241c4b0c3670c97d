-- Lines that are cut aren't too long.
use Rattle.std.proofs.Common.{◌≡◌, ◌∙◌, ◌++◌, ◌∷◌, [], ℕ, zero, suc, List, Bool, true, false, ap, refl, cond}
use Rattle.std.specs.Prelude.{◌==◌, if◌then◌else◌}
use Rattle.c_lines.specs.Cut.{cut, cut_from, longest}
use Rattle.c_lines.specs.Wrapped.{are_short_from}

-- a letter where none fits: it ends the line, or the line is cut
at_end : (c : ℕ) (rest : List ℕ) (b : Bool) → (c == 10) ≡ b → are_short_from 509 (cut_from 508 rest) ≡ true
    → are_short_from 508 (cut_from 507 rest) ≡ true
    → are_short_from 1 ((if b then c ∷ [] else 92 ∷ 10 ∷ c ∷ []) ++ cut_from (if b then longest else 507) rest) ≡ true
at_end c rest true e next cut =
    ap (λ t. cond t (are_short_from 509 (cut_from 508 rest)) (are_short_from 0 (cut_from 508 rest))) e ∙ next
at_end c rest false e next cut =
    ap (λ t. cond t (are_short_from 509 (cut_from 507 rest)) (are_short_from 508 (cut_from 507 rest))) e ∙ cut

-- a letter that fits
within : (room : ℕ) (rest : List ℕ) (b : Bool) → are_short_from 509 (cut_from 508 rest) ≡ true
    → are_short_from (suc room) (cut_from room rest) ≡ true
    → (if b then are_short_from 509 (cut_from (if b then longest else room) rest)
    else are_short_from (suc room) (cut_from (if b then longest else room) rest)) ≡ true
within room rest true next on = next
within room rest false next on = on

-- there is room for the backslash
are_short : (room : ℕ) (text : List ℕ) → are_short_from (suc room) (cut_from room text) ≡ true
are_short room [] = refl
are_short zero (c ∷ rest) = at_end c rest (c == 10) refl (are_short 508 rest) (are_short 507 rest)
are_short (suc room) (c ∷ rest) = within room rest (c == 10) (are_short 508 rest) (are_short room rest)

-- no line is longer than 509
pub cut_is_short : (text : List ℕ) → are_short_from 509 (cut text) ≡ true
unfolding cut
cut_is_short text = are_short 508 text
