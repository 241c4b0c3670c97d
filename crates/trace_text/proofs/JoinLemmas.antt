-- Texts with a separator between them, as they are put one after the other.
use Rattle.std.proofs.Common.{◌≡◌, ℕ, ◌+◌, ◌<◌, ◌≤◌, Bool, true, false, nat_eq, List, [], ◌∷◌}
use Rattle.std.proofs.Common.{◌++◌, length, take, get_or, refl, sym, ap, ◌∙◌, arith, append_assoc}
use Rattle.std.proofs.lemmas.Bool.Decides.{nat_tests}
use Rattle.std.specs.List.{join_with_byte}
use Rattle.std.proofs.lemmas.List.{take_more, length-take-le, take_all}
use Rattle.trace_text.specs.Trace.{listed}
use Rattle.trace_text.specs.TraceParts.{item, separator_before}

joined_after : (b : ℕ) (y x : List ℕ) (ys : List (List ℕ)) → join_with_byte b ((y ∷ ys) ++ x ∷ []) ≡ join_with_byte b (y ∷ ys) ++ (b ∷ x)
joined_after b y x [] = refl
joined_after b y x (z ∷ ys) =
    ap (λ (v : List ℕ). y ++ (b ∷ v)) (joined_after b z x ys) ∙ sym (append_assoc y (b ∷ join_with_byte b (z ∷ ys)) (b ∷ x))

item_after : (b : ℕ) (x : List ℕ) (first : Bool) → first ≡ false → item b first x ≡ b ∷ x
item_after b x true e = absurd (cc)
item_after b x false e = refl

-- a text of which more is put is put on
pub item_more : (b : ℕ) (first : Bool) (text front rest : List ℕ) → text ≡ front ++ rest → item b first text ≡ item b first front ++ rest
item_more b first text front rest is =
    ap (λ (z : List ℕ). item b first z) is ∙ sym (append_assoc (separator_before b first) front rest)

-- one text more
pub joined_next : (b : ℕ) (xs : List (List ℕ)) (x : List ℕ) (first : Bool) → first ≡ nat_eq (length xs) 0
    → join_with_byte b (xs ++ x ∷ []) ≡ join_with_byte b xs ++ item b first x
joined_next b [] x first is = rw is refl
joined_next b (y ∷ ys) x first is =
    let after : first ≡ false = grind (arith, nat_tests) in
    joined_after b y x ys ∙ ap (λ (z : List ℕ). join_with_byte b (y ∷ ys) ++ z) (sym (item_after b x first after))

-- one more of the texts of a list
pub joined_more : (xs : List (List ℕ)) (i : ℕ) (text : List ℕ) → i < length xs → text ≡ get_or xs i []
    → join_with_byte 44 (take (i + 1) xs) ≡ join_with_byte 44 (take i xs) ++ item 44 (nat_eq i 0) text
joined_more xs i text within is =
    let len : length (take i xs) ≡ i = length-take-le i xs (omega arith) in
    ap (join_with_byte 44) (take_more xs i [] within ∙ ap (λ (z : List ℕ). take i xs ++ z ∷ []) (sym is))
    ∙ joined_next 44 (take i xs) text (nat_eq i 0) (ap (λ m. nat_eq m 0) (sym len))

-- all texts, of which there are some
pub listed_all : (xs : List (List ℕ)) (i : ℕ) → length xs ≤ i → false ≡ nat_eq (length xs) 0 → listed xs ≡ join_with_byte 44 (take i xs)
listed_all [] i all some = absurd (cc)
listed_all (x ∷ xs) i all some = ap (join_with_byte 44) (sym (take_all i (x ∷ xs) all))

-- no text, of which there are as many as of other things
pub listed_none : (xs : List (List ℕ)) (count : ℕ) → length xs ≡ count → true ≡ nat_eq count 0 → listed xs ≡ 45 ∷ []
listed_none [] count same none = refl
listed_none (x ∷ xs) count same none = absurd (let zero : count ≡ 0 = grind (arith, nat_tests) in omega (arith, zero, same))
