-- Different lists of names are joined to different names.
use Rattle.std.proofs.Common.{◌≡◌, ◌++◌, ℕ, List, [], ◌∷◌, refl, sym, ap₂, ◌∙◌, append_assoc, append-nil, codes}
use Rattle.statechart_meaning.specs.Names.{joined}
use Rattle.statechart_meaning.specs.Parts.{underscore, IsPart, AreParts}

-- what stands behind a name in a joined one
abbrev behind : List (List ℕ) → List ℕ
behind [] = []
behind (y ∷ rest) = underscore ∷ (underscore ∷ joined (y ∷ rest))

joined_as : (x : List ℕ) (rest : List (List ℕ)) → joined (x ∷ rest) ≡ x ++ behind rest
joined_as x [] = sym (append-nil x)
joined_as x (y ∷ rest) = append_assoc x (codes "__") (joined (y ∷ rest))

-- the rest of a part is one
rest_is_part : (c : ℕ) (x : List ℕ) → IsPart (c ∷ x) → IsPart x
rest_is_part c [] h = tt
rest_is_part c (d ∷ x) h = h.1

head_of : {A : Type 0} {a b : A} {x y : List A} → a ∷ x ≡ b ∷ y → a ≡ b
head_of e = cc

tail_of : {A : Type 0} {a b : A} {x y : List A} → a ∷ x ≡ b ∷ y → x ≡ y
tail_of e = cc

-- a part that begins with two underscores isn't one, nor one that ends in one
no_part : (c : ℕ) (x l rest : List ℕ) → IsPart (c ∷ x) → underscore ∷ (underscore ∷ l) ≡ c ∷ (x ++ rest) → ⊥
no_part c [] l rest h e = h (sym (head_of e))
no_part c (d ∷ x) l rest h e = h.0 (sym (head_of e)) (sym (head_of (tail_of e)))

record Split (x y : List ℕ) (s t : List (List ℕ)) : Type 0 where
  first : x ≡ y
  others : behind s ≡ behind t

split : (x y : List ℕ) (s t : List (List ℕ)) → IsPart x → IsPart y → x ++ behind s ≡ y ++ behind t → Split x y s t
split [] [] s t h i e = record { first = refl; others = e }
split [] (d ∷ y) [] t h i e = absurd cc
split [] (d ∷ y) (z ∷ s) t h i e = absurd (no_part d y (joined (z ∷ s)) (behind t) i e)
split (c ∷ x) [] s [] h i e = absurd cc
split (c ∷ x) [] s (z ∷ t) h i e = absurd (no_part c x (joined (z ∷ t)) (behind s) h (sym e))
split (c ∷ x) (d ∷ y) s t h i e =
    let more = split x y s t (rest_is_part c x h) (rest_is_part d y i) (tail_of e) in
    record { first = ap₂ (λ a l. a ∷ l) (head_of e) more.first; others = more.others }

rests : (s t : List (List ℕ)) → AreParts s → AreParts t → behind s ≡ behind t → s ≡ t
rests [] [] h i e = refl
rests [] (w ∷ t) h i e = absurd cc
rests (z ∷ s) [] h i e = absurd cc
rests (z ∷ s) (w ∷ t) h i e =
    let both = split z w s t h.0 i.0 (sym (joined_as z s) ∙ tail_of (tail_of e) ∙ joined_as w t) in
    ap₂ (λ a l. a ∷ l) both.first (rests s t h.1 i.1 both.others)

pub joined_apart : (x y : List ℕ) (s t : List (List ℕ)) → AreParts (x ∷ s) → AreParts (y ∷ t)
    → joined (x ∷ s) ≡ joined (y ∷ t) → x ∷ s ≡ y ∷ t
joined_apart x y s t h i e =
    let both = split x y s t h.0 i.0 (sym (joined_as x s) ∙ e ∙ joined_as y t) in
    ap₂ (λ a l. a ∷ l) both.first (rests s t h.1 i.1 both.others)
