-- What is counted again and again, collected one after the other.
use Rattle.std.proofs.Common.{◌≡◌, ℕ, List, [], ◌∷◌, ◌++◌, Bool, true, false, ◌||◌, refl, ap, ◌∙◌, sym}
use Rattle.std.proofs.Common.{append-nil, append_assoc, if◌then◌else◌}
use Rattle.std.proofs.lemmas.Grind.{common_steps}
use Rattle.std.proofs.lemmas.List.Concat.{flat_map-append}
use Rattle.std.specs.List.{list_any}
use Rattle.statechart_meaning.specs.Counting.{Recurring, is_same, different_every}
use Rattle.statechart_counters.specs.Again.{collected}

-- whether it is among others
abbrev has : Recurring → List Recurring → Bool
has x xs = list_any (is_same x) xs

-- behind others, as before them
there-last : (x y : Recurring) (ys : List Recurring) → has x (ys ++ y ∷ []) ≡ (is_same x y || has x ys)
there-last x y [] = refl
there-last x y (z ∷ zs) =
    ap (λ (b : Bool). is_same x z || b) (there-last x y zs) ∙ swap (is_same x z) (is_same x y) (has x zs)
  where
    swap : (a b c : Bool) → (a || (b || c)) ≡ (b || (a || c))
    swap true true c = refl
    swap true false c = refl
    swap false true c = refl
    swap false false c = refl

abbrev Alike : List Recurring → List Recurring → Type 0
Alike xs ys = (x : Recurring) → has x xs ≡ has x ys

different-alike : (xs ys : List Recurring) → Alike xs ys → (l : List Recurring) → different_every xs l ≡ different_every ys l
different-alike xs ys same [] = refl
different-alike xs ys same (x ∷ l) =
    chosen (has x xs) (has x ys) (same x) (different-alike xs ys same l)
    (different-alike (x ∷ xs) (x ∷ ys) (λ y. ap (λ (b : Bool). is_same y x || b) (same y)) l)
  where
    chosen : (a b : Bool) → a ≡ b → different_every xs l ≡ different_every ys l
        → different_every (x ∷ xs) l ≡ different_every (x ∷ ys) l
        → (if a then different_every xs l else (x ∷ different_every (x ∷ xs) l))
        ≡ (if b then different_every ys l else (x ∷ different_every (x ∷ ys) l))
    chosen true true is left taken = left
    chosen true false is left taken = absurd cc
    chosen false true is left taken = absurd cc
    chosen false false is left taken = ap (λ (rest : List Recurring). x ∷ rest) taken

-- others with one more, unless it is among them
abbrev with_one : List Recurring → Recurring → List Recurring
with_one xs x = if has x xs then xs else xs ++ x ∷ []

-- before all others
pub collected-first : (ys : List Recurring) → collected [] ys ≡ different_every [] ys
unfolding collected
collected-first ys = refl

-- nothing more
pub collected-none : (xs : List Recurring) → collected xs [] ≡ xs
unfolding collected
collected-none xs = append-nil xs

collected-next : (xs : List Recurring) (x : Recurring) (ys : List Recurring)
    → collected xs (x ∷ ys) ≡ collected (with_one xs x) ys
unfolding collected
collected-next xs x ys = by (has x xs)
  where
    by : (b : Bool)
        → xs ++ (if b then different_every xs ys else (x ∷ different_every (x ∷ xs) ys))
        ≡ collected (if b then xs else xs ++ x ∷ []) ys
    by true = refl
    by false =
        ap (λ (l : List Recurring). xs ++ (x ∷ l))
        (different-alike (x ∷ xs) (xs ++ x ∷ []) (λ y. sym (there-last y x xs)) ys)
        ∙ sym (append_assoc xs (x ∷ []) (different_every (xs ++ x ∷ []) ys))

-- some, and then others
pub collected-more : (xs ys zs : List Recurring) → collected (collected xs ys) zs ≡ collected xs (ys ++ zs)
collected-more xs [] zs = ap (λ (l : List Recurring). collected l zs) (collected-none xs)
collected-more xs (y ∷ ys) zs =
    ap (λ (l : List Recurring). collected l zs) (collected-next xs y ys) ∙ collected-more (with_one xs y) ys zs
    ∙ sym (collected-next xs y (ys ++ zs))

-- one more
pub collected-one : (xs : List Recurring) (x : Recurring) → collected xs (x ∷ []) ≡ with_one xs x
collected-one xs x = collected-next xs x [] ∙ collected-none (with_one xs x)

pub ruleset collect_steps = (common_steps, flat_map-append, collected-none, collected-more, collected-one, collected-first)
