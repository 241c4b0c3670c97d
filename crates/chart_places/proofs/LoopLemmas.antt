-- One more element of a list that a loop makes.
use Rattle.std.proofs.Common.{◌≡◌, ℕ, ◌+◌, ◌<◌, List, [], ◌∷◌, ◌++◌, length, map, take, get_or, refl, sym, ap, ◌∙◌}
use Rattle.std.proofs.lemmas.List.{map_more, map_push}

-- what f makes of each element
pub mapped-next : {X Y : Type 0} (f : X → Y) (xs : List X) (i : ℕ) (x : X) (done next : List Y) → i < length xs
    → x ≡ get_or xs i x → done ≡ map f (take i xs) → next ≡ done ++ f x ∷ [] → next ≡ map f (take (i + 1) xs)
mapped-next {X} {Y} f xs i x done next within at so_far more =
    more ∙ ap (λ (ys : List Y). ys ++ f x ∷ []) so_far ∙ ap (λ (y : X). map f (take i xs) ++ f y ∷ []) at
    ∙ sym (map_more f xs i x within)

-- what g makes of what f makes of each element
pub mapped_twice-next : {X Y Z : Type 0} (f : X → Y) (g : Y → Z) (xs : List X) (i : ℕ) (x : X) (done next : List Z)
    → i < length xs → x ≡ get_or xs i x → done ≡ map g (map f (take i xs)) → next ≡ done ++ g (f x) ∷ []
    → next ≡ map g (map f (take (i + 1) xs))
mapped_twice-next {X} {Y} {Z} f g xs i x done next within at so_far more =
    let row : List Y = map f (take i xs) in
    let longer : row ++ f x ∷ [] ≡ map f (take (i + 1) xs) =
    mapped-next f xs i x row (row ++ f x ∷ []) within at refl refl in
    more ∙ ap (λ (zs : List Z). zs ++ g (f x) ∷ []) so_far ∙ sym (map_push g row (f x))
    ∙ ap (λ (ys : List Y). map g ys) longer
