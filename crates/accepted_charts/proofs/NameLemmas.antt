-- The names of a chart without faults of names: none stands twice.
use Rattle.std.proofs.Common.{◌≡◌, ℕ, zero, suc, ◌+◌, ◌<◌, List, [], ◌∷◌, ◌++◌, map, length, Option, Some, None, Bool}
use Rattle.std.proofs.Common.{true, false, refl, sym, ap, ◌∙◌, arith}
use Rattle.std.specs.Prelude.{◌==◌, ◌&&◌, bytes_eq, slice_get, slice_index_or}
use Rattle.std.specs.List.{AllByRecursion, list_all}
use Rattle.std.specs.Option.{option_map_or}
use Rattle.std.proofs.lemmas.Bool.Decides.{nat_tests}
use Rattle.std.proofs.lemmas.Slice.Eq.{bytes_eq-Decides}
use Rattle.chart_lexer.specs.Words.{is_name}
use Rattle.active_config.specs.Tree.{state_count, parent_of, is_child, children_of, children_below}
use Rattle.active_config.proofs.ChildLemmas.{parent_of_child}
use Rattle.chart_tree.specs.declared.first.FaultAt.{FaultAt}
use Rattle.chart_tree.specs.declared.name.NameText.{NameText}
use Rattle.chart_places.specs.Scopes.{Scopes, Meaning, Event, Datum, is_named, child_named, number_from, meaning_of}
use Rattle.chart_scope.specs.Names.{unless_own, means_event, means_datum, is_number, doubled_events, doubled_vars}
use Rattle.chart_scope.specs.Names.{doubled_state, doubled_states}
use Rattle.accepted_charts.proofs.ListLemmas.{no_rest}
use Rattle.accepted_charts.proofs.ScopeLemmas.{meaning_event, meaning_datum}
use Rattle.accepted_charts.proofs.DistinctLemmas.{Distinct, IsNone, AtOwn, texts, own_distinct, distinct-append}
use Rattle.accepted_charts.proofs.DistinctLemmas.{first_distinct}

-- where there is no fault, the name is its own
own_of : (own : Bool) (x : NameText) (rest : List FaultAt) → unless_own own x ++ rest ≡ [] → (own ≡ true) × (rest ≡ [])
own_of true x rest e = (refl, e)
own_of false x rest e = absurd cc

-- a test for a number finds it
number_of_test : (a b : ℕ) → (a == b) ≡ true → a ≡ b
number_of_test a b e = grind (arith, nat_tests)

event_meant : (n : ℕ) (m : Option Meaning) → means_event n m ≡ true → m ≡ Some (Event n)
event_meant n None e = absurd cc
event_meant n (Some (Event k)) e = ap (λ i. Some (Event i)) (number_of_test k n e)
event_meant n (Some (Datum v)) e = absurd cc

datum_meant : (n : ℕ) (m : Option Meaning) → means_datum n m ≡ true → m ≡ Some (Datum n)
datum_meant n None e = absurd cc
datum_meant n (Some (Event k)) e = absurd cc
datum_meant n (Some (Datum v)) e = ap (λ i. Some (Datum i)) (number_of_test v n e)

number_found : (n : ℕ) (found : Option ℕ) → is_number n found ≡ true → found ≡ Some n
number_found n None e = absurd cc
number_found n (Some k) e = ap Some (number_of_test k n e)

-- ---- events and data

-- each name, the first of which has number n, means its event or its datum
abbrev pub MeanEvents : Scopes → ℕ → List NameText → Type 0
MeanEvents p n [] = Unit {0}
MeanEvents p n (x ∷ xs) = (meaning_of p x.text ≡ Some (Event n)) × MeanEvents p (suc n) xs

abbrev pub MeanData : Scopes → ℕ → List NameText → Type 0
MeanData p n [] = Unit {0}
MeanData p n (x ∷ xs) = (meaning_of p x.text ≡ Some (Datum n)) × MeanData p (suc n) xs

events_mean : (p : Scopes) (n : ℕ) (xs : List NameText) → doubled_events p n xs ≡ [] → MeanEvents p n xs
events_mean p n [] e = tt
events_mean p n (x ∷ xs) e =
    let h = own_of (means_event n (meaning_of p x.text)) x (doubled_events p (suc n) xs) e in
    (event_meant n (meaning_of p x.text) h.0, events_mean p (suc n) xs h.1)

data_mean : (p : Scopes) (n : ℕ) (xs : List NameText) → doubled_vars p n xs ≡ [] → MeanData p n xs
data_mean p n [] e = tt
data_mean p n (x ∷ xs) e =
    let h = own_of (means_datum n (meaning_of p x.text)) x (doubled_vars p (suc n) xs) e in
    (datum_meant n (meaning_of p x.text) h.0, data_mean p (suc n) xs h.1)

events_own : (p : Scopes) (n : ℕ) (xs : List NameText) → MeanEvents p n xs → AtOwn (number_from 0 p.events) n xs
events_own p n [] h = tt
events_own p n (x ∷ xs) h = (meaning_event p x.text n h.0, events_own p (suc n) xs h.1)

data_own : (p : Scopes) (n : ℕ) (xs : List NameText) → MeanData p n xs → AtOwn (number_from 0 p.vars) n xs
data_own p n [] h = tt
data_own p n (x ∷ xs) h = (meaning_datum p x.text n h.0, data_own p (suc n) xs h.1)

-- no datum has the name of an event
datum_apart : (p : Scopes) (v n : ℕ) (name : List ℕ) (ys : List NameText) → meaning_of p name ≡ Some (Datum v)
    → MeanEvents p n ys → IsNone name (texts ys)
datum_apart p v n name [] is h = tt
datum_apart p v n name (y ∷ ys) is h =
    (λ same. let e = h.0 in let f = ap (meaning_of p) same in absurd cc, datum_apart p v (suc n) name ys is h.1)

data_apart : (p : Scopes) (v n : ℕ) (xs ys : List NameText) → MeanData p v xs → MeanEvents p n ys
    → AllByRecursion (λ (x : List ℕ). IsNone x (texts ys)) (texts xs)
data_apart p v n [] ys h k = tt
data_apart p v n (x ∷ xs) ys h k = (datum_apart p v n x.text ys h.0 k, data_apart p (suc v) n xs ys h.1 k)

-- the names of the data and the events are distinct
pub declared_distinct : (p : Scopes) → doubled_events p 0 p.events ≡ [] → doubled_vars p 0 p.vars ≡ []
    → Distinct (texts p.vars ++ texts p.events)
declared_distinct p e v =
    let events = events_mean p 0 p.events e in
    let vars = data_mean p 0 p.vars v in
    distinct-append (texts p.vars) (texts p.events) (own_distinct 0 p.vars (data_own p 0 p.vars vars))
    (own_distinct 0 p.events (events_own p 0 p.events events)) (data_apart p 0 0 p.vars p.events vars events)

-- ---- states

-- the name of number i
abbrev pub text_at : List NameText → ℕ → List ℕ
text_at xs i = slice_index_or (texts xs) i []

-- the name of each child of a state is found at its number
states_first : (p : Scopes) (n : ℕ) (xs : List NameText) → doubled_states p n xs ≡ [] → (i : ℕ) → i < length xs
    → (s : ℕ) → parent_of p.tree (n + i) ≡ Some s → child_named p s (text_at xs i) ≡ Some (n + i)
states_first p n [] e i lt s up = absurd (omega arith)
states_first p n (x ∷ xs) e zero lt s up = at (parent_of p.tree n) (ap (parent_of p.tree) (sym here) ∙ up) e
  where
    here : n + 0 ≡ n
    here = omega arith

    at : (o : Option ℕ) → o ≡ Some s → doubled_state p n o x ++ doubled_states p (suc n) xs ≡ []
        → child_named p s x.text ≡ Some (n + 0)
    at None up e = absurd cc
    at (Some parent) up e =
        let same : parent ≡ s = cc in
        let own = (own_of (is_number n (child_named p parent x.text)) x (doubled_states p (suc n) xs) e).0 in
        ap (λ q. child_named p q x.text) (sym same) ∙ number_found n (child_named p parent x.text) own
        ∙ ap Some (sym here)
states_first p n (x ∷ xs) e (suc i) lt s up =
    let next : suc n + i ≡ n + suc i = omega arith in
    let rest = no_rest (doubled_state p n (parent_of p.tree n) x) (doubled_states p (suc n) xs) e in
    states_first p (suc n) xs rest i (omega arith) s (ap (parent_of p.tree) next ∙ up) ∙ ap Some next

-- a state has its name
own_name : (xs : List NameText) (i : ℕ) → i < length xs
    → option_map_or (λ (x : NameText). bytes_eq x.text (text_at xs i)) (slice_get xs i) false ≡ true
own_name [] i lt = absurd (omega arith)
own_name (x ∷ xs) zero lt = (bytes_eq-Decides x.text x.text).1 refl
own_name (x ∷ xs) (suc i) lt = own_name xs i (omega arith)

-- the names of the children of a state are distinct
pub siblings_distinct : (p : Scopes) → doubled_states p 0 p.states ≡ [] → state_count p.tree ≡ length p.states
    → (s : ℕ) → Distinct (map (text_at p.states) (children_of p.tree s))
unfolding child_named children_of children_below
siblings_distinct p e count s =
    first_distinct (text_at p.states) (λ name x. is_named p name x) (is_child p.tree s) 0 (state_count p.tree) (record {
      own = λ x lo hi. own_name p.states x (omega arith);
      first = λ x lo hi t.
          let here : 0 + x ≡ x = omega arith in
          let up = ap (parent_of p.tree) here ∙ parent_of_child p.tree s x t in
          states_first p 0 p.states e x (omega arith) s up ∙ ap Some here;
    })

-- ---- NAMEs

-- texts that all are NAMEs pass the test
pub names_test : (names : List (List ℕ)) → AllByRecursion (λ (x : List ℕ). is_name x ≡ true) names
    → list_all is_name names ≡ true
names_test [] h = refl
names_test (x ∷ xs) h = ap (λ b. b && list_all is_name xs) h.0 ∙ names_test xs h.1
