-- Lists of names: what holds of each, and when no two are the same.
use Rattle.std.proofs.Common.{◌≡◌, ◌≢◌, ℕ, zero, suc, ◌<◌, Bool, true, false, cond, not, ◌&&◌, List, [], ◌∷◌, ◌++◌}
use Rattle.std.proofs.Common.{length, map, get_or, Option, Some, None, is_some, refl, sym, ap, arith}
use Rattle.std.specs.Prelude.{codes}
use Rattle.std.specs.List.{AllByRecursion}
use Rattle.std.specs.Str.{bytes_eq}
use Rattle.std.proofs.lemmas.List.{append_cancel_left}
use Rattle.std.proofs.lemmas.Slice.Eq.{bytes_eq-Decides}
use Rattle.flow_base.specs.Names.{after, index_of, are_distinct}
use Rattle.actions.specs.declared.names.EventDecl.{EventDecl}
use Rattle.actions.specs.declared.names.EventKind.{EventKind}
use Rattle.actions.specs.declared.names.EventKind.TheVariants.{Input, Local, Output}
use Rattle.c_text.specs.Distinct.{AreDistinct}
use Rattle.c_text.proofs.MemberNames.{AreOther}
use Rattle.c_header.specs.Scope.{event_word, event_words}
use Rattle.c_header.proofs.SiblingNames.{rest_distinct}

-- ---- what holds of each

pub all_at : (P : List ℕ → Type 0) (xs : List (List ℕ)) (i : ℕ) → AllByRecursion P xs → i < length xs
    → P (get_or xs i [])
all_at P [] i all within = absurd (omega (arith, within))
all_at P (x ∷ xs) zero all within = all.0
all_at P (x ∷ xs) (suc i) all within = all_at P xs i all.1 (omega (arith, within))

pub all_from : (P : List ℕ → Type 0) (xs : List (List ℕ)) → ((i : ℕ) → i < length xs → P (get_or xs i []))
    → AllByRecursion P xs
all_from P [] each = tt
all_from P (x ∷ xs) each = (each 0 (omega arith), all_from P xs (λ i lt. each (suc i) (omega (arith, lt))))

pub all_both : (P : List ℕ → Type 0) (xs ys : List (List ℕ)) → AllByRecursion P xs → AllByRecursion P ys
    → AllByRecursion P (xs ++ ys)
all_both P [] ys one two = two
all_both P (x ∷ xs) ys one two = (one.0, all_both P xs ys one.1 two)

pub all_map : {X : Type 0} (P : List ℕ → Type 0) (f : X → List ℕ) (xs : List X) → ((x : X) → P (f x))
    → AllByRecursion P (map f xs)
all_map P f [] each = tt
all_map P f (x ∷ xs) each = (each x, all_map P f xs each)

-- what holds of names with others before them
pub all_after : (P Q : List ℕ → Type 0) (f : List ℕ → List ℕ) (xs : List (List ℕ)) → ((x : List ℕ) → P x → Q (f x))
    → AllByRecursion P xs → AllByRecursion Q (map f xs)
all_after P Q f [] each all = tt
all_after P Q f (x ∷ xs) each all = (each x all.0, all_after P Q f xs each all.1)

-- ---- no two the same

-- names of two kinds, of which none of the one is of the other
pub other_kinds : (P Q : List ℕ → Type 0) (xs ys : List (List ℕ)) → ((x y : List ℕ) → P x → Q y → x ≢ y)
    → AllByRecursion P xs → AllByRecursion Q ys → AreOther xs ys
other_kinds P Q xs ys differ all_xs all_ys i j li lj =
    differ (get_or xs i []) (get_or ys j []) (all_at P xs i all_xs li) (all_at Q ys j all_ys lj)

-- a name and others
pub one_more : (x : List ℕ) (xs : List (List ℕ)) → AllByRecursion (λ y. x ≢ y) xs → AreDistinct xs
    → AreDistinct (x ∷ xs)
one_more x xs differ distinct zero zero li lj e = refl
one_more x xs differ distinct zero (suc j) li lj e =
    absurd (all_at (λ y. x ≢ y) xs j differ (omega (arith, lj)) e)
one_more x xs differ distinct (suc i) zero li lj e =
    absurd (all_at (λ y. x ≢ y) xs i differ (omega (arith, li)) (sym e))
one_more x xs differ distinct (suc i) (suc j) li lj e =
    ap suc (distinct i j (omega (arith, li)) (omega (arith, lj)) e)

pub none_distinct : AreDistinct []
none_distinct i j li lj e = absurd (omega (arith, li))

-- ---- events

-- a name that isn't found isn't the first one, nor one after it
not_first : (first name : List ℕ) (rest : List (List ℕ)) → is_some (index_of name (first ∷ rest)) ≡ false
    → (first ≡ name → ⊥) × (is_some (index_of name rest) ≡ false)
not_first first name rest none = at (bytes_eq first name) refl none
  where
    later : (o : Option ℕ) → is_some (after o) ≡ false → is_some o ≡ false
    later None h = refl
    later (Some n) h = absurd cc

    at : (b : Bool) → bytes_eq first name ≡ b → is_some (cond b (Some 0) (after (index_of name rest))) ≡ false
        → (first ≡ name → ⊥) × (is_some (index_of name rest) ≡ false)
    at true is h = absurd cc
    at false is h =
        (λ same. absurd (let yes = (bytes_eq-Decides first name).1 same in cc), later (index_of name rest) h)

not_there : (b c : Bool) → (not b && c) ≡ true → b ≡ false
not_there true c h = absurd cc
not_there false c h = refl

-- names of which a test finds no two the same
pub distinct_found : (xs : List (List ℕ)) → are_distinct xs ≡ true → AreDistinct xs
distinct_found [] distinct = none_distinct
distinct_found (x ∷ xs) distinct =
    one_more x xs (differs xs (not_there (is_some (index_of x xs)) (are_distinct xs) distinct))
    (distinct_found xs (rest_distinct (is_some (index_of x xs)) (are_distinct xs) distinct))
  where
    differs : (ys : List (List ℕ)) → is_some (index_of x ys) ≡ false → AllByRecursion (λ y. x ≢ y) ys
    differs [] none = tt
    differs (y ∷ ys) none =
        let apart = not_first y x ys none in ((λ same. apart.0 (sym same)), differs ys apart.1)

-- an event of another name has another one after the chart's
event_differs : (name : List ℕ) (es : List EventDecl)
    → is_some (index_of name (map (λ (e : EventDecl). e.name) es)) ≡ false
    → AllByRecursion (λ y. (codes "E_" ++ name) ≢ y) (event_words es)
event_differs name [] none = tt
event_differs name (e ∷ es) none =
    let apart = not_first e.name name (map (λ (x : EventDecl). x.name) es) none in
    by e.kind (λ same. apart.0 (sym (append_cancel_left (codes "E_") name e.name same)))
    (event_differs name es apart.1)
  where
    by : (k : EventKind) → (codes "E_" ++ name) ≢ (codes "E_" ++ e.name)
        → AllByRecursion (λ y. (codes "E_" ++ name) ≢ y) (event_words es)
        → AllByRecursion (λ y. (codes "E_" ++ name) ≢ y) (event_word k e.name (event_words es))
    by Input differ all = (differ, all)
    by Local differ all = all
    by Output differ all = (differ, all)

pub events_distinct : (es : List EventDecl) → are_distinct (map (λ (e : EventDecl). e.name) es) ≡ true
    → AreDistinct (event_words es)
events_distinct [] distinct = none_distinct
events_distinct (e ∷ es) distinct =
    let names : List (List ℕ) = map (λ (x : EventDecl). x.name) es in
    by e.kind (event_differs e.name es (not_there (is_some (index_of e.name names)) (are_distinct names) distinct))
    (events_distinct es (rest_distinct (is_some (index_of e.name names)) (are_distinct names) distinct))
  where
    by : (k : EventKind) → AllByRecursion (λ y. (codes "E_" ++ e.name) ≢ y) (event_words es)
        → AreDistinct (event_words es) → AreDistinct (event_word k e.name (event_words es))
    by Input differ rest = one_more (codes "E_" ++ e.name) (event_words es) differ rest
    by Local differ rest = rest
    by Output differ rest = one_more (codes "E_" ++ e.name) (event_words es) differ rest

-- what holds of each event's
pub all_events : (P : List ℕ → Type 0) (es : List EventDecl) → ((name : List ℕ) → P (codes "E_" ++ name))
    → AllByRecursion P (event_words es)
all_events P [] each = tt
all_events P (e ∷ es) each = by e.kind (all_events P es each)
  where
    by : (k : EventKind) → AllByRecursion P (event_words es)
        → AllByRecursion P (event_word k e.name (event_words es))
    by Input all = (each e.name, all)
    by Local all = all
    by Output all = (each e.name, all)

-- the names after others are pairwise different where all are
pub last_distinct : (xs ys : List (List ℕ)) → are_distinct (xs ++ ys) ≡ true → are_distinct ys ≡ true
last_distinct [] ys h = h
last_distinct (x ∷ xs) ys h =
    last_distinct xs ys (rest_distinct (is_some (index_of x (xs ++ ys))) (are_distinct (xs ++ ys)) h)
