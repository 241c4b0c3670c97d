-- Lists that are mapped and made again.
use Rattle.std.proofs.Common.{◌≡◌, List, [], ◌∷◌, ◌++◌, map, refl, ap, ap₂, ◌∙◌, sym, append_assoc}
use Rattle.std.specs.List.{flat_map}

-- what one function makes, another one undoes
pub map_back : {A B : Type 0} (f : B → A) (g : A → B) → ((x : A) → f (g x) ≡ x) → (xs : List A) → map f (map g xs) ≡ xs
map_back f g h [] = refl
map_back f g h (x ∷ xs) = ap₂ (λ y ys. y ∷ ys) (h x) (map_back f g h xs)

pub flat_back : {A B : Type 0} (f : B → List A) (g : A → B) → ((x : A) → f (g x) ≡ x ∷ []) → (xs : List A)
    → flat_map f (map g xs) ≡ xs
flat_back f g h [] = refl
flat_back f g h (x ∷ xs) = ap₂ (λ y ys. y ++ ys) (h x) (flat_back f g h xs)

-- nothing is made
pub flat_none : {A B C : Type 0} (f : B → List C) (g : A → B) → ((x : A) → f (g x) ≡ []) → (xs : List A)
    → flat_map f (map g xs) ≡ []
flat_none f g h [] = refl
flat_none f g h (x ∷ xs) = ap₂ (λ y ys. y ++ ys) (h x) (flat_none f g h xs)

pub none_of : {A : Type 0} {a b : List A} → a ≡ [] → b ≡ [] → a ++ b ≡ []
none_of e f = ap₂ (λ x y. x ++ y) e f

pub flat_both : {A B : Type 0} (f : A → List B) (xs ys : List A)
    → flat_map f (xs ++ ys) ≡ flat_map f xs ++ flat_map f ys
flat_both f [] ys = refl
flat_both f (x ∷ xs) ys =
    ap (λ zs. f x ++ zs) (flat_both f xs ys) ∙ sym (append_assoc (f x) (flat_map f xs) (flat_map f ys))
