-- Lists without faults, and what stands in a list.
use Rattle.std.proofs.Common.{◌≡◌, ℕ, zero, suc, ◌<◌, List, [], ◌∷◌, ◌++◌, length, map, Some, slice_get, flat_map}
use Rattle.std.proofs.Common.{refl, subst, arith}
use Rattle.std.specs.List.{AllByRecursion}
use Rattle.chart_tree.specs.declared.first.FaultAt.{FaultAt}

-- two lists that are empty together are empty
pub neither : {X : Type 0} (xs ys : List X) → xs ++ ys ≡ [] → (xs ≡ []) × (ys ≡ [])
neither [] ys e = (refl, e)
neither (x ∷ xs) ys e = absurd cc

-- the item at a place within a list
pub there : {X : Type 0} (xs : List X) (i : ℕ) → i < length xs → (x : X) × (slice_get xs i ≡ Some x)
there [] i lt = absurd (omega arith)
there (x ∷ xs) zero lt = (x, refl)
there (x ∷ xs) (suc i) lt = there xs i (omega arith)

-- what holds of all items holds of one
pub one_of : {X : Type 0} (P : X → Type 0) (xs : List X) (i : ℕ) (x : X) → AllByRecursion P xs → slice_get xs i ≡ Some x
    → P x
one_of P [] i x all e = absurd cc
one_of P (y ∷ ys) zero x all e = let same : y ≡ x = cc in subst P same all.0
one_of P (y ∷ ys) (suc i) x all e = one_of P ys i x all.1 e

-- what f makes of each item without faults has P, and none of the items has a fault
pub all_faultless : {X Y : Type 0} (faults : X → List FaultAt) (Q : X → Type 0) (P : Y → Type 0) (f : X → Y)
    → ((x : X) → Q x → faults x ≡ [] → P (f x)) → (xs : List X) → AllByRecursion Q xs → flat_map faults xs ≡ []
    → AllByRecursion P (map f xs)
all_faultless faults Q P f each [] all none = tt
all_faultless faults Q P f each (x ∷ xs) all none =
    let parts = neither (faults x) (flat_map faults xs) none in
    (each x all.0 parts.0, all_faultless faults Q P f each xs all.1 parts.1)
