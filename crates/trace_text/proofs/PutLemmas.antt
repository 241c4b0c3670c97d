-- Texts that are put one after the other.
use Rattle.std.proofs.Common.{◌≡◌, ℕ, List, [], ◌∷◌, ◌++◌, sym, ap, ◌∙◌, subst, append_assoc}
use Rattle.std.specs.Prelude.{Option, codes}
use Rattle.trace_text.specs.Pieces.{Held, Written, Puts}

-- one text is put after another
pub puts_both : (b0 b1 b2 : Option (List ℕ)) (f0 f1 f2 : ℕ) (h0 h1 h2 : Held) (first second text : List ℕ)
    → Puts b0 b1 f0 f1 h0 h1 first
    → Puts b1 b2 f1 f2 h1 h2 second → text ≡ first ++ second → Puts b0 b2 f0 f2 h0 h2 text
puts_both b0 b1 b2 f0 f1 f2 h0 h1 h2 first second text p q is = λ w f all h.
    subst (λ (z : List ℕ). Written w b2 f f2 z h2)
    (append_assoc all first second ∙ ap (λ (z : List ℕ). all ++ z) (sym is))
    (q w f (all ++ first) (p w f all h))

-- the same text under another name
pub puts_same : (b0 b1 : Option (List ℕ)) (f0 f1 : ℕ) (h0 h1 : Held) (text other : List ℕ) → Puts b0 b1 f0 f1 h0 h1 text
    → other ≡ text
    → Puts b0 b1 f0 f1 h0 h1 other
puts_same b0 b1 f0 f1 h0 h1 text other p is = λ w f all h.
    subst (λ (z : List ℕ). Written w b1 f f1 (all ++ z) h1) (sym is) (p w f all h)

three_parts : (all x y z text : List ℕ) → text ≡ x ++ (y ++ z) → ((all ++ x) ++ y) ++ z ≡ all ++ text
three_parts all x y z text is = rw is (simp append_assoc)

-- three texts are put one after the other
pub puts_three : (b0 b1 b2 b3 : Option (List ℕ)) (f0 f1 f2 f3 : ℕ) (h0 h1 h2 h3 : Held) (x y z text : List ℕ)
    → Puts b0 b1 f0 f1 h0 h1 x → Puts b1 b2 f1 f2 h1 h2 y → Puts b2 b3 f2 f3 h2 h3 z → text ≡ x ++ (y ++ z)
    → Puts b0 b3 f0 f3 h0 h3 text
puts_three b0 b1 b2 b3 f0 f1 f2 f3 h0 h1 h2 h3 x y z text p q r is = λ w f all h.
    subst (λ (t : List ℕ). Written w b3 f f3 t h3) (three_parts all x y z text is)
    (r w f ((all ++ x) ++ y) (q w f (all ++ x) (p w f all h)))

-- the parts of a trace line up to its result, put one after the other, make that front
pub front_parts : (all index word states vals outputs : List ℕ)
    → (((((((all ++ (index ++ codes " " ++ word)) ++ codes " [") ++ states) ++ codes "] ") ++ vals) ++ 32 ∷ []) ++ outputs) ++ 32 ∷ []
    ≡ all ++ (index ++ codes " " ++ word ++ codes " [" ++ states ++ codes "] " ++ vals ++ codes " " ++ outputs ++ codes " ")
front_parts all index word states vals outputs = simp append_assoc

-- a front and a result, put one after the other, make the line
pub puts_line : (b0 b1 b2 : Option (List ℕ)) (f0 f1 f2 : ℕ) (h0 h1 h2 : Held) (front word : List ℕ)
    → Puts b0 b1 f0 f1 h0 h1 front
    → Puts b1 b2 f1 f2 h1 h2 (word ++ codes "\n") → Puts b0 b2 f0 f2 h0 h2 (front ++ word ++ codes "\n")
puts_line b0 b1 b2 f0 f1 f2 h0 h1 h2 front word p q =
    puts_both b0 b1 b2 f0 f1 f2 h0 h1 h2 front (word ++ codes "\n") (front ++ word ++ codes "\n") p q
    (append_assoc front word (codes "\n"))
