-- Lists: empty ones one after the other, what is made of items, and what stands where.
use Rattle.std.proofs.Common.{◌≡◌, ℕ, zero, suc, ◌+◌, List, [], ◌∷◌, ◌++◌, map, length, Some, refl, sym, ap, ap₂, ◌∙◌}
use Rattle.std.proofs.Common.{flat_map, arith}
use Rattle.std.specs.Prelude.{slice_get, slice_index_or}

-- ---- empty lists

pub no_first : {A : Type 0} (xs ys : List A) → xs ++ ys ≡ [] → xs ≡ []
no_first [] ys e = refl
no_first (x ∷ xs) ys e = absurd cc

pub no_rest : {A : Type 0} (xs ys : List A) → xs ++ ys ≡ [] → ys ≡ []
no_rest [] ys e = e
no_rest (x ∷ xs) ys e = absurd cc

pub none_of : {A : Type 0} {a b : List A} → a ≡ [] → b ≡ [] → a ++ b ≡ []
none_of e f = ap₂ (λ x y. x ++ y) e f

-- ---- what is made of items

pub append_assoc : {A : Type 0} (xs ys zs : List A) → xs ++ ys ++ zs ≡ xs ++ (ys ++ zs)
append_assoc [] ys zs = refl
append_assoc (x ∷ xs) ys zs = ap (λ l. x ∷ l) (append_assoc xs ys zs)

pub map_fuse : {A B C : Type 0} (f : B → C) (g : A → B) (xs : List A) → map f (map g xs) ≡ map (λ x. f (g x)) xs
map_fuse f g [] = refl
map_fuse f g (x ∷ xs) = ap (λ l. f (g x) ∷ l) (map_fuse f g xs)

pub map-both : {A B : Type 0} (f : A → B) (xs ys : List A) → map f (xs ++ ys) ≡ map f xs ++ map f ys
map-both f [] ys = refl
map-both f (x ∷ xs) ys = ap (λ l. f x ∷ l) (map-both f xs ys)

pub flat-append : {A B : Type 0} (f : A → List B) (xs ys : List A) → flat_map f (xs ++ ys) ≡ flat_map f xs ++ flat_map f ys
flat-append f [] ys = refl
flat-append f (x ∷ xs) ys =
    ap (λ l. f x ++ l) (flat-append f xs ys) ∙ sym (append_assoc (f x) (flat_map f xs) (flat_map f ys))

-- what holds of a list holds of its rest
pub flat_rest : {A B : Type 0} (f : A → List B) (xs ys : List A) → flat_map f (xs ++ ys) ≡ [] → flat_map f ys ≡ []
flat_rest f xs ys e = no_rest (flat_map f xs) (flat_map f ys) (sym (flat-append f xs ys) ∙ e)

-- ---- what stands where

-- it stands in the list
abbrev pub Has : {A : Type 0} → List A → A → Type 0
Has xs x = (i : ℕ) × (slice_get xs i ≡ Some x)

pub has_more : {A : Type 0} (y : A) (xs : List A) (x : A) → Has xs x → Has (y ∷ xs) x
has_more y xs x h = (suc h.0, h.1)

pub has_left : {A : Type 0} (xs ys : List A) (x : A) → Has xs x → Has (xs ++ ys) x
has_left [] ys x (i, e) = absurd cc
has_left (y ∷ xs) ys x (zero, e) = (0, e)
has_left (y ∷ xs) ys x (suc i, e) = has_more y (xs ++ ys) x (has_left xs ys x (i, e))

pub has_right : {A : Type 0} (xs ys : List A) (x : A) → Has ys x → Has (xs ++ ys) x
has_right [] ys x h = h
has_right (y ∷ xs) ys x h = has_more y (xs ++ ys) x (has_right xs ys x h)

-- in one of several lists
pub has_in : {A : Type 0} (ls : List (List A)) (l : List A) (s : ℕ) (x : A) → slice_get ls s ≡ Some l → Has l x
    → Has (flat_map (λ (l : List A). l) ls) x
has_in [] l s x e h = absurd cc
has_in (m ∷ ls) l zero x e h =
    let same : m ≡ l = cc in
    let here : Has m x = (h.0, ap (λ (z : List _). slice_get z h.0) same ∙ h.1) in
    has_left m (flat_map (λ l. l) ls) x here
has_in (m ∷ ls) l (suc s) x e h = has_right m (flat_map (λ l. l) ls) x (has_in ls l s x e h)

pub get_map : {A B : Type 0} (f : A → B) (xs : List A) (i : ℕ) (x : A) → slice_get xs i ≡ Some x
    → slice_get (map f xs) i ≡ Some (f x)
get_map f [] i x e = absurd cc
get_map f (y ∷ xs) zero x e = let same : y ≡ x = cc in ap (λ z. Some (f z)) same
get_map f (y ∷ xs) (suc i) x e = get_map f xs i x e

pub get_after : {A : Type 0} (xs ys : List A) (i : ℕ) → slice_get (xs ++ ys) (length xs + i) ≡ slice_get ys i
get_after [] ys i = let e : 0 + i ≡ i = omega arith in ap (slice_get ys) e
get_after (x ∷ xs) ys i =
    let e : length (x ∷ xs) + i ≡ suc (length xs + i) = omega arith in
    ap (slice_get (x ∷ (xs ++ ys))) e ∙ get_after xs ys i

pub get_or_of : {A : Type 0} (xs : List A) (i : ℕ) (y d : A) → slice_get xs i ≡ Some y → slice_index_or xs i d ≡ y
get_or_of [] i y d e = absurd cc
get_or_of (z ∷ xs) zero y d e = (let same : z ≡ y = cc in same)
get_or_of (z ∷ xs) (suc i) y d e = get_or_of xs i y d e
