-- Junctions in the order of the text.
use Rattle.std.proofs.Common.{◌≡◌, ℕ, zero, suc, ◌+◌, ◌≤◌, List, [], ◌∷◌, ◌++◌, length, map, take, drop, Some}
use Rattle.std.proofs.Common.{Bool, true, false, cond, refl, sym, ap, ◌∙◌, subst, arith, ◌<◌, get_or, drop-cons}
use Rattle.std.specs.Prelude.{slice_get}
use Rattle.std.specs.List.{AllByRecursion, insert}
use Rattle.std.proofs.lemmas.Bool.Decides.{nat_tests}
use Rattle.token_grammar.specs.declared.token.Span.{Span}
use Rattle.chart_places.specs.Placed.{Owned, is_earlier, inserted, in_text_order}
use Rattle.chart_places.specs.Survey.{is_before, IsInOrder}

-- ---- places

-- what isn't before a second place, which isn't before a third one, isn't before the third one
late : (a b c : Span) → is_earlier a b ≡ false → is_earlier b c ≡ false → is_earlier a c ≡ false
late a b c h k = grind (arith, nat_tests)

-- a place isn't before one that is before it
other_way : (a b : Span) → is_earlier a b ≡ true → is_earlier b a ≡ false
other_way a b h = grind (arith, nat_tests)

-- ---- lists

all_at : {X : Type 0} (P : X → Type 0) (xs : List X) (k : ℕ) (d : X) → AllByRecursion P xs → slice_get xs k ≡ Some d
    → P d
all_at P [] k d h e = absurd cc
all_at P (x ∷ xs) zero d h e = let same : x ≡ d = cc in subst P same h.0
all_at P (x ∷ xs) (suc k) d h e = all_at P xs k d h.1 e

-- what holds of an item and of those after it holds from that item on
pub all_from : {X : Type 0} (P : X → Type 0) (xs : List X) (k : ℕ) (d : X) → slice_get xs k ≡ Some d → P d
    → AllByRecursion P (drop (suc k) xs) → AllByRecursion P (drop k xs)
all_from P [] k d e here rest = absurd cc
all_from P (x ∷ xs) zero d e here rest = let same : d ≡ x = cc in (subst P same here, rest)
all_from P (x ∷ xs) (suc k) d e here rest = all_from P xs k d e here rest

-- the views of items with one more among them
pub map_insert : {X Y : Type 0} (f : X → Y) (xs : List X) (i : ℕ) (x : X)
    → map f (insert xs i x) ≡ insert (map f xs) i (f x)
map_insert f [] zero x = refl
map_insert f [] (suc i) x = refl
map_insert f (y ∷ ys) zero x = refl
map_insert f (y ∷ ys) (suc i) x = ap (λ zs. f y ∷ zs) (map_insert f ys i x)

-- the items from one on are that item and those after it
pub drop_from : {X : Type 0} (xs : List X) (k : ℕ) (d : X) → k < length xs → d ≡ get_or xs k d
    → drop k xs ≡ d ∷ drop (k + 1) xs
drop_from xs k d lt at =
    let next : suc k ≡ k + 1 = omega arith in
    drop-cons xs k d lt ∙ ap (λ x. x ∷ drop (suc k) xs) (sym at) ∙ ap (λ (n : ℕ). d ∷ drop n xs) next

-- nothing is left at the end
pub none_left : {X : Type 0} (xs : List X) (k : ℕ) → length xs ≤ k → drop k xs ≡ []
none_left [] zero le = refl
none_left [] (suc k) le = refl
none_left (x ∷ xs) zero le = absurd (omega arith)
none_left (x ∷ xs) (suc k) le = none_left xs k (omega arith)

-- ---- where a junction is put

-- a junction is put after those that it isn't before, and ahead of those that it is before
put_at : (o : Owned) (xs : List Owned) (i : ℕ) → i ≤ length xs
    → AllByRecursion (λ (x : Owned). is_before o x ≡ false) (take i xs)
    → AllByRecursion (λ (x : Owned). is_before o x ≡ true) (drop i xs) → inserted o xs ≡ insert xs i o
put_at o [] zero le front back = refl
put_at o [] (suc i) le front back = absurd (omega arith)
put_at o (x ∷ xs) zero le front back = ap (λ (b : Bool). cond b (o ∷ (x ∷ xs)) (x ∷ inserted o xs)) back.0
put_at o (x ∷ xs) (suc i) le front back =
    ap (λ (b : Bool). cond b (o ∷ (x ∷ xs)) (x ∷ inserted o xs)) front.0
    ∙ ap (λ (ys : List Owned). x ∷ ys) (put_at o xs i (omega arith) front.1 back)

-- what isn't before one of those in order isn't before those ahead of it
not_before : (o : Owned) (xs : List Owned) (k : ℕ) (d : Owned) → IsInOrder xs → slice_get xs k ≡ Some d
    → is_before o d ≡ false → AllByRecursion (λ (x : Owned). is_before o x ≡ false) (take (suc k) xs)
not_before o [] k d order e h = absurd cc
not_before o (x ∷ xs) zero d order e h =
    let same : d ≡ x = cc in (subst (λ (y : Owned). is_before o y ≡ false) same h, tt)
not_before o (x ∷ xs) (suc k) d order e h = (
  late o.junction.name.at d.junction.name.at x.junction.name.at h
      (all_at (λ (y : Owned). is_before y x ≡ false) xs k d order.0 e),
  not_before o xs k d order.1 e h,
)

within : {X : Type 0} (xs : List X) (k : ℕ) (d : X) → slice_get xs k ≡ Some d → suc k ≤ length xs
within [] k d e = absurd cc
within (x ∷ xs) zero d e = omega arith
within (x ∷ xs) (suc k) d e = let le = within xs k d e in omega arith

-- the place after the last one that the junction isn't before
pub put_after : (o : Owned) (xs : List Owned) (at k : ℕ) (d : Owned) → IsInOrder xs → at ≡ suc k
    → slice_get xs k ≡ Some d → is_before o d ≡ false
    → AllByRecursion (λ (x : Owned). is_before o x ≡ true) (drop at xs) → inserted o xs ≡ insert xs at o
put_after o xs at k d order next e h back =
    subst (λ (n : ℕ). inserted o xs ≡ insert xs n o) (sym next)
    (put_at o xs (suc k) (within xs k d e) (not_before o xs k d order e h)
    (subst (λ (n : ℕ). AllByRecursion (λ (x : Owned). is_before o x ≡ true) (drop n xs)) next back))

-- the place ahead of all
pub put_ahead : (o : Owned) (xs : List Owned) (at : ℕ) → at ≡ 0
    → AllByRecursion (λ (x : Owned). is_before o x ≡ true) (drop at xs) → inserted o xs ≡ insert xs 0 o
put_ahead o xs at none back =
    put_at o xs 0 (omega arith) tt
    (subst (λ (n : ℕ). AllByRecursion (λ (x : Owned). is_before o x ≡ true) (drop n xs)) none back)

-- ---- the order stays

all_inserted : (P : Owned → Type 0) (o : Owned) (xs : List Owned) → P o → AllByRecursion P xs
    → AllByRecursion P (inserted o xs)
all_inserted P o [] here rest = (here, tt)
all_inserted P o (x ∷ xs) here rest = go (is_before o x) (all_inserted P o xs here rest.1)
  where
    go : (b : Bool) → AllByRecursion P (inserted o xs)
        → AllByRecursion P (cond b (o ∷ (x ∷ xs)) (x ∷ inserted o xs))
    go true h = (here, rest)
    go false h = (rest.0, h)

all_later : (o x : Owned) (xs : List Owned) → is_before x o ≡ false
    → AllByRecursion (λ (y : Owned). is_before y x ≡ false) xs
    → AllByRecursion (λ (y : Owned). is_before y o ≡ false) xs
all_later o x [] e h = tt
all_later o x (y ∷ ys) e h =
    (late y.junction.name.at x.junction.name.at o.junction.name.at h.0 e, all_later o x ys e h.1)

pub in_order_inserted : (o : Owned) (xs : List Owned) → IsInOrder xs → IsInOrder (inserted o xs)
in_order_inserted o [] order = (tt, tt)
in_order_inserted o (x ∷ xs) order = go (is_before o x) refl (in_order_inserted o xs order.1)
  where
    go : (b : Bool) → is_before o x ≡ b → IsInOrder (inserted o xs)
        → IsInOrder (cond b (o ∷ (x ∷ xs)) (x ∷ inserted o xs))
    go true e h =
        let back : is_before x o ≡ false = other_way o.junction.name.at x.junction.name.at e in
        ((back, all_later o x xs back order.0), order)
    go false e h = (all_inserted (λ (y : Owned). is_before y x ≡ false) o xs e order.0, h)

pub in_order_all : (done os : List Owned) → IsInOrder done → IsInOrder (in_text_order done os)
in_order_all done [] order = order
in_order_all done (o ∷ os) order = in_order_all (inserted o done) os (in_order_inserted o done order)

-- junctions of one state, and then those of others
pub in_text_order-append : (done os ps : List Owned)
    → in_text_order done (os ++ ps) ≡ in_text_order (in_text_order done os) ps
in_text_order-append done [] ps = refl
in_text_order-append done (o ∷ os) ps = in_text_order-append (inserted o done) os ps
