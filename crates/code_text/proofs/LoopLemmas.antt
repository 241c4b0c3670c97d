-- Loops that print one item after another.
use Rattle.std.proofs.Common.{◌≡◌, ℕ, suc, ◌+◌, ◌<◌, List, [], ◌∷◌, ◌++◌}
use Rattle.std.proofs.Common.{length, get_or, map, drop, sym, ap, ◌∙◌, subst}
use Rattle.std.proofs.Common.{append_assoc, drop-cons, arith}
use Rattle.std.specs.List.{flat_map, AllByRecursion}
use Rattle.code_text.specs.Spelling.{text_of}
use Rattle.code_text.proofs.TextLemmas.{text_of-append}

-- what is left from an item on is the item and what is left after it
pub left_from : {X : Type 0} (xs : List X) (i : ℕ) (x : X) → x ≡ get_or xs i x → i < length xs
    → drop i xs ≡ x ∷ drop (i + 1) xs
left_from xs i x is within =
    let next : suc i ≡ i + 1 = omega arith in
    drop-cons xs i x within ∙ (ap (λ y. y ∷ drop (suc i) xs) (sym is) ∙ ap (λ (k : ℕ). x ∷ drop k xs) next)

-- what holds of an item, and of those after it, holds of those from it on
pub holds_from : {X Y Q : Type 0} (P : Y → Type 0) (f : X → Y) (xs : List X) (i : ℕ) (x : X) → x ≡ get_or xs i x
    → i < length xs → P (f x)
    → (AllByRecursion P (map f (drop i xs)) → Q) → AllByRecursion P (map f (drop (i + 1) xs)) → Q
holds_from P f xs i x is within here all more =
    all (subst (λ ys. AllByRecursion P (map f ys)) (sym (left_from xs i x is within)) (here, more))

-- the same of the items themselves
pub holds_from_item : {X Q : Type 0} (P : X → Type 0) (xs : List X) (i : ℕ) (x : X) → x ≡ get_or xs i x
    → i < length xs → P x → (AllByRecursion P (drop i xs) → Q) → AllByRecursion P (drop (i + 1) xs) → Q
holds_from_item P xs i x is within here all more =
    all (subst (AllByRecursion P) (sym (left_from xs i x is within)) (here, more))

-- one line more, and the lines to come
line_more : (before now line rest : List ℕ) → now ≡ before ++ (line ++ 10 ∷ []) → now ++ rest ≡ before ++ (line ++ 10 ∷ rest)
line_more before now line rest e =
    let is : now ++ rest ≡ (before ++ (line ++ 10 ∷ [])) ++ rest = ap (λ (t : List ℕ). t ++ rest) e in is ∙ simp append_assoc

-- an item's line is printed
pub line_printed : {X : Type 0} (line : X → List ℕ) (xs : List X) (i : ℕ) (x : X) (before now all : List ℕ) → x ≡ get_or xs i x
    → i < length xs → now ≡ before ++ (line x ++ 10 ∷ []) → before ++ text_of (map line (drop i xs)) ≡ all
    → now ++ text_of (map line (drop (i + 1) xs)) ≡ all
line_printed line xs i x before now all is within e h =
    line_more before now (line x) (text_of (map line (drop (i + 1) xs))) e
    ∙ (ap (λ ys. before ++ text_of (map line ys)) (sym (left_from xs i x is within)) ∙ h)

-- the same of a view of the items
pub view_printed : {X Y : Type 0} (line : Y → List ℕ) (view : X → Y) (xs : List X) (i : ℕ) (x : X) (before now all : List ℕ) → x ≡ get_or xs i x
    → i < length xs → now ≡ before ++ (line (view x) ++ 10 ∷ []) → before ++ text_of (map line (map view (drop i xs))) ≡ all
    → now ++ text_of (map line (map view (drop (i + 1) xs))) ≡ all
view_printed line view xs i x before now all is within e h =
    line_more before now (line (view x)) (text_of (map line (map view (drop (i + 1) xs)))) e
    ∙ (ap (λ ys. before ++ text_of (map line (map view ys))) (sym (left_from xs i x is within)) ∙ h)

-- an item's lines are printed
pub lines_printed : {X Y : Type 0} (lines : Y → List (List ℕ)) (view : X → Y) (xs : List X) (i : ℕ) (x : X) (before now all : List ℕ) → x ≡ get_or xs i x
    → i < length xs → now ≡ before ++ text_of (lines (view x)) → before ++ text_of (flat_map lines (map view (drop i xs))) ≡ all
    → now ++ text_of (flat_map lines (map view (drop (i + 1) xs))) ≡ all
lines_printed lines view xs i x before now all is within e h =
    let rest = flat_map lines (map view (drop (i + 1) xs)) in
    ap (λ (t : List ℕ). t ++ text_of rest) e
    ∙ (append_assoc before (text_of (lines (view x))) (text_of rest)
    ∙ (ap (λ (t : List ℕ). before ++ t) (sym (text_of-append (lines (view x)) rest))
    ∙ (ap (λ ys. before ++ text_of (flat_map lines (map view ys))) (sym (left_from xs i x is within)) ∙ h)))
