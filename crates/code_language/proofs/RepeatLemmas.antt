-- Names differ from one another exactly where each is new after those that were seen before it.
use Rattle.std.proofs.Common.{◌≡◌, ℕ, ◌||◌, ◌&&◌, not, Bool, true, false, cond, List, [], ◌∷◌, ◌++◌, map, Option, Some}
use Rattle.std.proofs.Common.{None, Bor, is_some, refl, sym, ap, ◌∙◌}
use Rattle.std.specs.Prelude.{bytes_eq, if◌then◌else◌}
use Rattle.std.specs.List.{list_any}
use Rattle.std.proofs.lemmas.List.{map-append}
use Rattle.std.proofs.lemmas.List.Folds.{list_any-append}
use Rattle.flow_base.specs.Names.{index_of, after, are_distinct}
use Rattle.code_language.specs.Acceptance.{Named, named, named_of, is_same, all_differ}

-- ---- names in turn

-- each of the names is new after those that were seen and those that stand before it
abbrev pub all_new : List Named → List Named → Bool
all_new seen [] = true
all_new seen (x ∷ rest) = not (list_any (is_same x) seen) && all_new (seen ++ x ∷ []) rest

-- none of the names was seen
abbrev none_seen : List Named → List Named → Bool
none_seen seen [] = true
none_seen seen (y ∷ rest) = not (list_any (is_same y) seen) && none_seen seen rest

-- of a name that is another one or was seen, and the rest, each by itself
by_itself : (a b n m : Bool) → (not (a || (b || false)) && (n && not m)) ≡ ((not a && n) && not (b || m))
by_itself true b n m = refl
by_itself false true true m = refl
by_itself false true false m = refl
by_itself false false n m = refl

-- none of the names was seen, nor is the one that is seen next
none_seen-next : (seen : List Named) (x : Named) (rest : List Named)
    → none_seen (seen ++ x ∷ []) rest ≡ (none_seen seen rest && not (list_any (λ y. is_same y x) rest))
none_seen-next seen x [] = refl
none_seen-next seen x (y ∷ rest) =
    ap (λ b. not b && none_seen (seen ++ x ∷ []) rest) (list_any-append (is_same y) seen (x ∷ []))
    ∙ ap (λ b. not (list_any (is_same y) seen || (is_same y x || false)) && b) (none_seen-next seen x rest)
    ∙ by_itself (list_any (is_same y) seen) (is_same y x) (none_seen seen rest) (list_any (λ z. is_same z x) rest)

-- of a name that was seen, and the rest
with_rest : (a n m d : Bool) → (not a && ((n && not m) && d)) ≡ ((not a && n) && (not m && d))
with_rest true n m d = refl
with_rest false true m d = refl
with_rest false false m d = refl

-- names are new in turn where none was seen before and they differ from one another
all_new-is : (seen rest : List Named) → all_new seen rest ≡ (none_seen seen rest && all_differ rest)
all_new-is seen [] = refl
all_new-is seen (x ∷ rest) =
    ap (λ b. not (list_any (is_same x) seen) && b) (all_new-is (seen ++ x ∷ []) rest)
    ∙ ap (λ b. not (list_any (is_same x) seen) && (b && all_differ rest)) (none_seen-next seen x rest)
    ∙ with_rest (list_any (is_same x) seen) (none_seen seen rest) (list_any (λ y. is_same y x) rest) (all_differ rest)

-- at first none was seen
none_seen-first : (names : List Named) → none_seen [] names ≡ true
none_seen-first [] = refl
none_seen-first (x ∷ rest) = none_seen-first rest

-- so names that are new from the first on are those that differ
pub all_new-first : (names : List Named) → all_new [] names ≡ all_differ names
all_new-first names = all_new-is [] names ∙ ap (λ b. b && all_differ names) (none_seen-first names)

-- a name that was seen ends it
pub name_again : (seen whole rest : List Named) (x : Named) (first : Bool) → first ≡ not (list_any (is_same x) seen)
    → whole ≡ x ∷ rest → first ≡ false → all_new seen whole ≡ false
name_again seen whole rest x first is at again =
    ap (all_new seen) at ∙ ap (λ b. b && all_new (seen ++ x ∷ []) rest) (sym is ∙ again)

-- and one that wasn't leaves the rest
pub name_first : (seen next whole rest : List Named) (x : Named) (first : Bool)
    → first ≡ not (list_any (is_same x) seen) → whole ≡ x ∷ rest → first ≡ true → next ≡ seen ++ x ∷ []
    → all_new next rest ≡ all_new seen whole
name_first seen next whole rest x first is at new then_seen =
    ap (λ l. all_new l rest) then_seen ∙ ap (λ b. b && all_new (seen ++ x ∷ []) rest) (sym new ∙ is) ∙ ap (all_new seen) (sym at)

-- ---- names that stand in no state

-- a place counted on from one more name is there where the place is
some_after : (o : Option ℕ) → is_some (after o) ≡ is_some o
some_after None = refl
some_after (Some n) = refl

-- the first name is the one, or the rest has it
found : (same : Bool) (o : Option ℕ) → is_some (cond same (Some 0) (after o)) ≡ (same || is_some o)
found true o = refl
found false o = some_after o

-- a name that stands in no state is found among such names
index_found : (name : List ℕ) (names : List (List ℕ))
    → list_any (λ y. is_same y (named None name)) (map (named None) names) ≡ is_some (index_of name names)
index_found name [] = refl
index_found name (n ∷ names) =
    ap (λ b. bytes_eq n name || b) (index_found name names) ∙ sym (found (bytes_eq n name) (index_of name names))

-- such names differ where their texts do
free_differ : (names : List (List ℕ)) → all_differ (map (named None) names) ≡ are_distinct names
free_differ [] = refl
free_differ (n ∷ names) =
    ap (λ b. not b && all_differ (map (named None) names)) (index_found n names)
    ∙ ap (λ b. not (is_some (index_of n names)) && b) (free_differ names)

-- and are new in turn
pub free_new-first : (names : List (List ℕ)) → all_new [] (map (named None) names) ≡ are_distinct names
free_new-first names = all_new-first (map (named None) names) ∙ free_differ names

-- ---- one name more in the set

-- the keys of the set that are the same as one are the names that were seen and are the same
key_seen : (key : Option ℕ × Bor (List ℕ)) (keys : List (Option ℕ × Bor (List ℕ)))
    → list_any (λ k. is_same (named_of key) (named_of k)) keys ≡ list_any (is_same (named_of key)) (map named_of keys)
key_seen key [] = refl
key_seen key (k ∷ keys) = ap (λ b. is_same (named_of key) (named_of k) || b) (key_seen key keys)

-- a key is the first of its name
pub first_is : (key : Option ℕ × Bor (List ℕ)) (keys : List (Option ℕ × Bor (List ℕ))) (name : List ℕ) (first : Bool)
    → key.1.now ≡ name → first ≡ not (list_any (λ k. is_same (named_of key) (named_of k)) keys)
    → first ≡ not (list_any (is_same (named key.0 name)) (map named_of keys))
first_is key keys name first text is =
    is ∙ ap not (key_seen key keys) ∙ ap (λ n. not (list_any (is_same (named key.0 n)) (map named_of keys))) text

-- then the set has it after the others
pub seen_next : (key : Option ℕ × Bor (List ℕ)) (keys new : List (Option ℕ × Bor (List ℕ))) (name : List ℕ) (here : Bool)
    → key.1.now ≡ name → not here ≡ true → new ≡ (if here then keys else keys ++ key ∷ [])
    → map named_of new ≡ map named_of keys ++ named key.0 name ∷ []
seen_next key keys new name true text first is = absurd (cc first)
seen_next key keys new name false text first is =
    ap (map named_of) is ∙ map-append named_of keys (key ∷ [])
    ∙ ap (λ n. map named_of keys ++ named key.0 n ∷ []) text
