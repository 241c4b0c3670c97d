-- Lists of faults that are empty, and what holds of each item of a list.
use Rattle.std.proofs.Common.{◌≡◌, List, [], ◌∷◌, ◌++◌, map, length, ◌∙◌}
use Rattle.std.proofs.lemmas.List.{length-map}
use Rattle.std.specs.List.{AllByRecursion}

-- where lists one after the other are empty, each is
pub no_first : {X : Type 0} (xs ys : List X) → xs ++ ys ≡ [] → xs ≡ []
no_first [] ys e = cc
no_first (x ∷ xs) ys e = absurd cc

pub no_rest : {X : Type 0} (xs ys : List X) → xs ++ ys ≡ [] → ys ≡ []
no_rest [] ys e = e
no_rest (x ∷ xs) ys e = absurd cc

-- what is made of items twice is as many items
pub length-map_twice : {X Y Z : Type 0} (f : X → Y) (g : Y → Z) (xs : List X) → length (map g (map f xs)) ≡ length xs
length-map_twice f g xs = length-map (map f xs) g ∙ length-map xs f

-- what holds of each item by what it is made of
pub all-map : {X Y : Type 0} (P : X → Type 0) (Q : Y → Type 0) (f : X → Y) → ((x : X) → P x → Q (f x)) → (xs : List X)
    → AllByRecursion P xs → AllByRecursion Q (map f xs)
all-map P Q f each [] h = tt
all-map P Q f each (x ∷ xs) h = (each x h.0, all-map P Q f each xs h.1)
