-- A text that is broken letter by letter.
use Rattle.std.proofs.Common.{◌≡◌, ◌∙◌, ◌++◌, ◌∷◌, ℕ, List, ap, sym, cond}
use borrow.Author.Tests.{ne_eqb}
use Rattle.c_lines.specs.Broken.{broken_from, letter_text, after}
use Rattle.c_lines.specs.declared.breaking.Place.{Place}

-- from a backslash on nothing is broken
pub broken_at : (place : Place) (c : ℕ) (before rest : List ℕ) → before ≡ c ∷ rest → c ≡ 92
    → broken_from place before ≡ 92 ∷ rest
broken_at place c before rest b e = ap (broken_from place) (b ∙ ap (λ k. k ∷ rest) e)

-- another letter is written, and what follows is broken
pub broken_on : (place next : Place) (c : ℕ) (before rest seen : List ℕ) → before ≡ c ∷ rest → seen ≡ rest
    → (c ≡ 92 → ⊥) → next ≡ after place c seen
    → broken_from place before ≡ letter_text place c seen ++ broken_from next rest
broken_on place next c before rest seen b s n e =
    ap (broken_from place) b
    ∙ ap (λ t. cond t (c ∷ rest) (letter_text place c rest ++ broken_from (after place c rest) rest)) (ne_eqb c 92 n)
    ∙ ap (λ x. letter_text place c x ++ broken_from (after place c x) rest) (sym s)
    ∙ ap (λ p. letter_text place c seen ++ broken_from p rest) (sym e)
