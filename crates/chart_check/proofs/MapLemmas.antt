-- Lists that are made item by item.
use Rattle.std.proofs.Common.{◌≡◌, ℕ, ◌+◌, ◌<◌, List, [], ◌∷◌, ◌++◌, length, map, get_or, take, refl, sym, ap, ◌∙◌}
use Rattle.std.proofs.lemmas.List.{map-append, take_more}

-- one item more
pub mapped_more : {A B C : Type 0} (f : A → C) (g : B → C) (done : List A) (y : A) (xs : List B) (i : ℕ) (d : B)
    → i < length xs → map f done ≡ map g (take i xs) → f y ≡ g (get_or xs i d)
    → map f (done ++ y ∷ []) ≡ map g (take (i + 1) xs)
mapped_more f g done y xs i d lt so_far here =
    map-append f done (y ∷ [])
    ∙ ap (λ zs. zs ++ f y ∷ []) so_far
    ∙ ap (λ z. map g (take i xs) ++ z ∷ []) here
    ∙ sym (ap (map g) (take_more xs i d lt) ∙ map-append g (take i xs) (get_or xs i d ∷ []))

pub map_map : {A B C : Type 0} (f : A → B) (g : B → C) (xs : List A) → map g (map f xs) ≡ map (λ x. g (f x)) xs
map_map f g [] = refl
map_map f g (x ∷ xs) = ap (λ zs. g (f x) ∷ zs) (map_map f g xs)
