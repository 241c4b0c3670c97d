-- Lists from a place on, and tests of what is mapped.
use Rattle.std.proofs.Common.{◌≡◌, ℕ, zero, suc, ◌+◌, ◌-◌, ◌<◌, ◌≤◌, ◌||◌, ◌&&◌, Bool, true, false, List, [], ◌∷◌, ◌++◌}
use Rattle.std.proofs.Common.{length, map, take, drop, get_or, refl, sym, ap, ◌∙◌, arith, drop-cons}
use Rattle.std.specs.List.{list_all}
use Rattle.std.specs.Option.{option_map_or}
use Rattle.std.specs.Prelude.{slice_get}
use Rattle.std.proofs.lemmas.List.{length-drop, map_more, take_all}
use Rattle.std.proofs.lemmas.Option.{slice_get_read, slice_get_past}

-- the list from a place on begins with what stands there
pub drop_at : {X : Type 0} (xs : List X) (i : ℕ) (x : X) → i < length xs → x ≡ get_or xs i x
    → drop i xs ≡ x ∷ drop (i + 1) xs
drop_at xs i x lt is =
    let e : suc i ≡ i + 1 = omega arith in
    drop-cons xs i x lt ∙ ap (λ y. y ∷ drop (suc i) xs) (sym is) ∙ ap (λ k. x ∷ drop k xs) e

-- and so what it is mapped to
pub drop_map_at : {X Y : Type 0} (f : X → Y) (xs : List X) (i : ℕ) (x : X) → i < length xs → x ≡ get_or xs i x
    → drop i (map f xs) ≡ f x ∷ drop (i + 1) (map f xs)
drop_map_at f [] i x lt is = absurd (omega arith)
drop_map_at f (y ∷ ys) zero x lt is = ap (λ z. f z ∷ map f ys) (sym is)
drop_map_at f (y ∷ ys) (suc i) x lt is =
    let e : suc i + 1 ≡ suc (i + 1) = omega arith in rw e (drop_map_at f ys i x (omega arith) is)

-- from its end on nothing is left
pub drop_past : {X : Type 0} (xs : List X) (i : ℕ) → length xs ≤ i → drop i xs ≡ []
drop_past [] zero h = refl
drop_past [] (suc i) h = refl
drop_past (x ∷ xs) zero h = absurd (omega arith)
drop_past (x ∷ xs) (suc i) h = drop_past xs i (omega arith)

-- the elements from one on, taken to the end
pub rest_of : {X : Type 0} (xs : List X) (i : ℕ) → take (length xs - i) (drop i xs) ≡ drop i xs
rest_of xs i = take_all (length xs - i) (drop i xs) (omega (arith, length-drop i xs))

-- and one that holds of all
pub list_all-map : {X Y : Type 0} (p : Y → Bool) (f : X → Y) (xs : List X)
    → list_all p (map f xs) ≡ list_all (λ x. p (f x)) xs
list_all-map p f [] = refl
list_all-map p f (x ∷ xs) = ap (λ b. p (f x) && b) (list_all-map p f xs)

-- neither of two tests that fail together holds
pub or_false : (a b : Bool) → (a || b) ≡ false → (a ≡ false) × (b ≡ false)
or_false true b h = absurd (cc h)
or_false false b h = (refl, h)

-- one more item of a list that is mapped, which was appended
pub map_pushed : {X Y : Type 0} (f : X → Y) (xs : List X) (i : ℕ) (x : X) (ys more : List Y) (y : Y) → i < length xs
    → x ≡ get_or xs i x → ys ≡ map f (take i xs) → y ≡ f x → more ≡ ys ++ y ∷ [] → more ≡ map f (take (i + 1) xs)
map_pushed f xs i x ys more y lt at so_far is pushed =
    pushed ∙ ap (λ l. l ++ y ∷ []) so_far ∙ ap (λ z. map f (take i xs) ++ z ∷ []) (is ∙ ap f at)
    ∙ sym (map_more f xs i x lt)

-- a test of what stands at a place, as the list gives it there
pub test_there : {X : Type 0} (test : X → Bool) (xs items : List X) (i : ℕ) (x : X) (b : Bool) → items ≡ xs
    → i < length items → x ≡ get_or items i x → b ≡ test x → b ≡ option_map_or test (slice_get xs i) false
test_there test xs items i x b e lt at is =
    is ∙ ap (λ o. option_map_or test o false)
    (sym (slice_get_read items (length items) i x refl lt at) ∙ ap (λ l. slice_get l i) e)

-- past the end of the list it fails
pub test_past : {X : Type 0} (test : X → Bool) (xs items : List X) (i : ℕ) → items ≡ xs → length items ≤ i
    → false ≡ option_map_or test (slice_get xs i) false
test_past test xs items i e past =
    ap (λ o. option_map_or test o false) (sym (slice_get_past items i past) ∙ ap (λ l. slice_get l i) e)
