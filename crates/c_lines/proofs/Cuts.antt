-- A text that is cut letter by letter.
use Rattle.std.proofs.Common.{◌≡◌, ◌∙◌, ◌++◌, ◌∷◌, ℕ, List, ap, sym}
use Rattle.c_lines.specs.Cut.{cut_from, cut_text, room_after}

-- another letter is written, and what follows is cut
pub cut_on : (room next c : ℕ) (before rest : List ℕ) → before ≡ c ∷ rest → next ≡ room_after room c
    → cut_from room before ≡ cut_text room c ++ cut_from next rest
cut_on room next c before rest b e =
    ap (cut_from room) b ∙ ap (λ k. cut_text room c ++ cut_from k rest) (sym e)
