-- Names that are gathered one after the other.
use Rattle.std.proofs.Common.{◌≡◌, ℕ, List, [], ◌∷◌, ◌++◌, map, Bool, true, false, Option, Some, None, refl, ap, ◌∙◌, sym}
use Rattle.std.proofs.Common.{append-nil, append_assoc, if◌then◌else◌, is_some}
use Rattle.std.proofs.lemmas.Grind.{common_steps}
use Rattle.std.proofs.lemmas.List.{map-append}
use Rattle.std.proofs.lemmas.List.Concat.{flat_map-append}
use Rattle.std.specs.Prelude.{bytes_eq}
use Rattle.flow_base.specs.Names.{index_of, after}
use Rattle.chart_tree.specs.declared.name.NameText.{NameText}
use Rattle.statechart_meaning.specs.Counting.{without}
use Rattle.statechart_counters.specs.Seen.{texts, gathered}

-- whether a name is among names
abbrev has : List ℕ → List (List ℕ) → Bool
has name names = is_some (index_of name names)

-- a name and others
pub there-next : (name x : List ℕ) (xs : List (List ℕ))
    → has name (x ∷ xs) ≡ (if bytes_eq x name then true else has name xs)
there-next name x xs = by (bytes_eq x name) (index_of name xs)
  where
    by : (b : Bool) (o : Option ℕ) → is_some (if b then Some 0 else after o) ≡ (if b then true else is_some o)
    by true o = refl
    by false None = refl
    by false (Some n) = refl

-- a name behind others, as before them
there-last : (name x : List ℕ) (xs : List (List ℕ))
    → has name (xs ++ x ∷ []) ≡ (if bytes_eq x name then true else has name xs)
there-last name x [] = there-next name x []
there-last name x (y ∷ ys) =
    there-next name y (ys ++ x ∷ []) ∙ ap (λ (b : Bool). if bytes_eq y name then true else b) (there-last name x ys)
    ∙ swap (bytes_eq y name) (bytes_eq x name) (has name ys)
    ∙ ap (λ (b : Bool). if bytes_eq x name then true else b) (sym (there-next name y ys))
  where
    swap : (a b c : Bool) → (if a then true else (if b then true else c)) ≡ (if b then true else (if a then true else c))
    swap true true c = refl
    swap true false c = refl
    swap false true c = refl
    swap false false c = refl

-- the same names leave out the same names
abbrev Alike : List (List ℕ) → List (List ℕ) → Type 0
Alike xs ys = (name : List ℕ) → has name xs ≡ has name ys

more-alike : (x : List ℕ) (xs ys : List (List ℕ)) → Alike xs ys → Alike (x ∷ xs) (x ∷ ys)
more-alike x xs ys same name =
    there-next name x xs ∙ ap (λ (b : Bool). if bytes_eq x name then true else b) (same name)
    ∙ sym (there-next name x ys)

last-alike : (x : List ℕ) (xs : List (List ℕ)) → Alike (x ∷ xs) (xs ++ x ∷ [])
last-alike x xs name = there-next name x xs ∙ sym (there-last name x xs)

without-alike : (xs ys : List (List ℕ)) → Alike xs ys → (l : List NameText) → without xs l ≡ without ys l
without-alike xs ys same [] = refl
without-alike xs ys same (x ∷ l) =
    chosen (has x.text xs) (has x.text ys) (same x.text) (without-alike xs ys same l)
    (without-alike (x.text ∷ xs) (x.text ∷ ys) (more-alike x.text xs ys same) l)
  where
    chosen : (a b : Bool) → a ≡ b → without xs l ≡ without ys l
        → without (x.text ∷ xs) l ≡ without (x.text ∷ ys) l
        → (if a then without xs l else (x ∷ without (x.text ∷ xs) l))
        ≡ (if b then without ys l else (x ∷ without (x.text ∷ ys) l))
    chosen true true is left taken = left
    chosen true false is left taken = absurd cc
    chosen false true is left taken = absurd cc
    chosen false false is left taken = ap (λ (rest : List NameText). x ∷ rest) taken

-- names with one more, unless it is among them
abbrev with_one : List NameText → NameText → List NameText
with_one xs x = if has x.text (texts xs) then xs else xs ++ x ∷ []

-- before all others
pub gathered-first : (ys : List NameText) → gathered [] ys ≡ without [] ys
unfolding gathered
gathered-first ys = refl

-- nothing more
pub gathered-none : (xs : List NameText) → gathered xs [] ≡ xs
unfolding gathered
gathered-none xs = append-nil xs

gathered-next : (xs : List NameText) (x : NameText) (ys : List NameText)
    → gathered xs (x ∷ ys) ≡ gathered (with_one xs x) ys
unfolding gathered
gathered-next xs x ys = by (has x.text (texts xs))
  where
    by : (b : Bool)
        → xs ++ (if b then without (texts xs) ys else (x ∷ without (x.text ∷ texts xs) ys))
        ≡ gathered (if b then xs else xs ++ x ∷ []) ys
    by true = refl
    by false =
        ap (λ (l : List NameText). xs ++ (x ∷ l))
        (without-alike (x.text ∷ texts xs) (texts xs ++ x.text ∷ []) (last-alike x.text (texts xs)) ys
        ∙ ap (λ (l : List (List ℕ)). without l ys) (sym (map-append (λ (n : NameText). n.text) xs (x ∷ []))))
        ∙ sym (append_assoc xs (x ∷ []) (without (texts (xs ++ x ∷ [])) ys))

-- some, and then others
pub gathered-more : (xs ys zs : List NameText) → gathered (gathered xs ys) zs ≡ gathered xs (ys ++ zs)
gathered-more xs [] zs = ap (λ (l : List NameText). gathered l zs) (gathered-none xs)
gathered-more xs (y ∷ ys) zs =
    ap (λ (l : List NameText). gathered l zs) (gathered-next xs y ys) ∙ gathered-more (with_one xs y) ys zs
    ∙ sym (gathered-next xs y (ys ++ zs))

-- one more
pub gathered-one : (xs : List NameText) (x : NameText) → gathered xs (x ∷ []) ≡ with_one xs x
gathered-one xs x = gathered-next xs x [] ∙ gathered-none (with_one xs x)

pub ruleset gather_steps = (common_steps, flat_map-append, gathered-none, gathered-more, gathered-one, gathered-first)
