-- Lists that are made item by item, and the faults of the items that are left.
use Rattle.std.proofs.Common.{◌≡◌, ◌<◌, ◌+◌, ℕ, suc, List, [], ◌∷◌, ◌++◌, map, take, drop, length, get_or, Option}
use Rattle.std.proofs.Common.{sym, ap, ◌∙◌, add-one}
use Rattle.std.proofs.Math.Seq.{drop-cons}
use Rattle.std.proofs.lemmas.List.{map-append, take_more}
use Rattle.chart_tree.specs.declared.first.FaultAt.{FaultAt}
use Rattle.resolved_tree.specs.Faults.{first_with}
use Rattle.resolved_tree.proofs.FirstLemmas.{first_with_both}

-- the item at a place, and those after it
pub item_first : {X : Type 0} (xs : List X) (i : ℕ) (x : X) → i < length xs → x ≡ get_or xs i x
    → drop i xs ≡ x ∷ drop (suc i) xs
item_first xs i x lt is = drop-cons xs i x lt ∙ ap (λ y. y ∷ drop (suc i) xs) (sym is)

-- one item more is listed
pub one_more_listed : {X Y Z : Type 0} (g : Y → Z) (f : X → Y) (old new : List Z) (z : Z) (xs : List X) (x : X) (i : ℕ)
    → i < length xs → x ≡ get_or xs i x → new ≡ old ++ z ∷ [] → z ≡ g (f x) → old ≡ map g (map f (take i xs))
    → new ≡ map g (map f (take (i + 1) xs))
one_more_listed g f old new z xs x i lt is more made so_far =
    more
    ∙ ap (λ zs. zs ++ z ∷ []) so_far
    ∙ ap (λ y. map g (map f (take i xs)) ++ y ∷ []) (made ∙ ap (λ y. g (f y)) is)
    ∙ sym (ap (λ ys. map g (map f ys)) (take_more xs i x lt)
    ∙ ap (map g) (map-append f (take i xs) (get_or xs i x ∷ []))
    ∙ map-append g (map f (take i xs)) (f (get_or xs i x) ∷ []))

-- one item more is made, as it is seen
pub one_more_made : {X Y Z W : Type 0} (view : W → Z) (g : Y → Z) (f : X → Y) (old new : List W) (w : W) (xs : List X)
    (x : X) (i : ℕ)
    → i < length xs → x ≡ get_or xs i x → new ≡ old ++ w ∷ [] → view w ≡ g (f x)
    → map view old ≡ map g (map f (take i xs)) → map view new ≡ map g (map f (take (i + 1) xs))
one_more_made view g f old new w xs x i lt is more made so_far =
    one_more_listed g f (map view old) (map view new) (view w) xs x i lt is
    (ap (map view) more ∙ map-append view old (w ∷ [])) made so_far

-- the first fault of one item more is found
pub one_more_found : {X Y : Type 0} (all : List Y → List FaultAt) (one : Y → List FaultAt)
    → ((y : Y) (ys : List Y) → all (y ∷ ys) ≡ one y ++ all ys)
    → (f : X → Y) (old new total : Option FaultAt) (xs : List X) (x : X) (i : ℕ)
    → i < length xs → x ≡ get_or xs i x → new ≡ first_with old (one (f x))
    → first_with old (all (map f (drop i xs))) ≡ total → first_with new (all (map f (drop (i + 1) xs))) ≡ total
one_more_found all one step f old new total xs x i lt is found so_far =
    let rest : List _ = map f (drop (suc i) xs) in
    rw add-one (
    ap (λ o. first_with o (all rest)) found
    ∙ sym (first_with_both old (one (f x)) (all rest))
    ∙ ap (first_with old) (sym (step (f x) rest))
    ∙ ap (λ ys. first_with old (all (map f ys))) (sym (item_first xs i x lt is))
    ∙ so_far
    )
