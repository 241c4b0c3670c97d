-- The parts of a line of a net's trace.
use Rattle.std.proofs.Common.{◌≡◌, ℕ, List, [], ◌∷◌, ◌++◌, ap, ◌∙◌, subst, append_assoc}
use Rattle.std.specs.Prelude.{Option, codes}
use Rattle.trace_text.specs.Pieces.{Held, Puts, Written}

-- the parts of the line of a move, put one after the other, make that line
pub line_parts : (all number name own : List ℕ)
    → ((((all ++ number) ++ 32 ∷ []) ++ name) ++ 32 ∷ []) ++ own
    ≡ all ++ (number ++ codes " " ++ name ++ codes " " ++ own)
line_parts all number name own = simp append_assoc

-- so do those of the line of a step that found nothing to take
empty_parts : (all number route : List ℕ)
    → (((all ++ number) ++ codes " empty ") ++ route) ++ 10 ∷ []
    ≡ all ++ (number ++ codes " empty " ++ route ++ codes "\n")
empty_parts all number route = simp append_assoc

-- put one after the other, these put that line
pub puts_empty : (b0 b1 b2 b3 b4 : Option (List ℕ)) (f0 f1 f2 f3 f4 : ℕ) (h0 h1 h2 h3 h4 : Held)
    (number shown route : List ℕ) → Puts b0 b1 f0 f1 h0 h1 number → Puts b1 b2 f1 f2 h1 h2 (codes " empty ")
    → Puts b2 b3 f2 f3 h2 h3 shown → Puts b3 b4 f3 f4 h3 h4 (10 ∷ []) → shown ≡ route
    → Puts b0 b4 f0 f4 h0 h4 (number ++ codes " empty " ++ route ++ codes "\n")
puts_empty b0 b1 b2 b3 b4 f0 f1 f2 f3 f4 h0 h1 h2 h3 h4 number shown route p q r s is = λ w f all h.
    subst (λ (z : List ℕ). Written w b4 f f4 z h4)
    (empty_parts all number shown
    ∙ ap (λ (z : List ℕ). all ++ (number ++ codes " empty " ++ z ++ codes "\n")) is)
    (s w f (((all ++ number) ++ codes " empty ") ++ shown)
    (r w f ((all ++ number) ++ codes " empty ") (q w f (all ++ number) (p w f all h))))
