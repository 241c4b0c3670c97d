-- The counters of a chart text are different data.
use Rattle.std.proofs.Common.{◌≡◌, ℕ, zero, suc, ◌+◌, ◌≤◌, Bool, true, false, List, [], ◌∷◌, ◌++◌, map}
use Rattle.std.proofs.Common.{length, Option, Some, None, refl, sym, ap, ap₂, ◌∙◌, subst, arith}
use Rattle.std.specs.Prelude.{◌==◌, slice_get}
use Rattle.std.specs.List.{range_with_len}
use Rattle.chart_tree.specs.declared.name.NameText.{NameText}
use Rattle.chart_tree.specs.Trees as trees
use Rattle.chart_structure.proofs.WalkLemmas.{same_of}
use Rattle.chart_places.specs.Placed.{placed_states, placed_junctions}
use Rattle.chart_places.specs.Scopes.{Scopes, scopes_of, Meaning, Event as EventNumber, Datum, meaning_of}
use Rattle.chart_scope.specs.Uses.{meaning_number}
use Rattle.chart_scope.specs.Names.{name_faults, unless_own, means_datum, doubled_events, doubled_vars, doubled_states}
use Rattle.chart_scope.specs.Names.{doubled_junctions, used_in_states, used_in_junctions}
use Rattle.counting_log.specs.Times.{times_in}
use Rattle.counting_trees.specs.Counters.{Counter, counter_var}
use Rattle.counting_trees.specs.Counting.{all_of, IsReady}
use Rattle.counting_trees.specs.Numbers.{number_of, counter_number}
use Rattle.counting_trees.proofs.Lists.{no_first, no_rest, get_map, get_after}
use Rattle.counting_trees.proofs.Times.{once_in_range}

-- ---- a datum without a double is found at its own number

own_mean : (n : ℕ) (o : Option Meaning) (x : NameText) → unless_own (means_datum n o) x ≡ [] → meaning_number o ≡ n
own_mean n None x e = absurd cc
own_mean n (Some (EventNumber v)) x e = absurd cc
own_mean n (Some (Datum v)) x e = at (v == n) refl e
  where
    at : (b : Bool) → (v == n) ≡ b → unless_own b x ≡ [] → v ≡ n
    at true t e = same_of v n t
    at false t e = absurd cc

means_own : (n : ℕ) (o : Option Meaning) (x : NameText) → unless_own (means_datum n o) x ≡ []
    → o ≡ Some (Datum (meaning_number o))
means_own n None x e = absurd cc
means_own n (Some (EventNumber v)) x e = absurd cc
means_own n (Some (Datum v)) x e = refl

-- a datum's name means a datum
own_means : (p : Scopes) (n : ℕ) (xs : List NameText) (i : ℕ) (y : NameText) → doubled_vars p n xs ≡ []
    → slice_get xs i ≡ Some y → meaning_of p y.text ≡ Some (Datum (number_of p y.text))
own_means p n [] i y none e = absurd cc
own_means p n (x ∷ xs) zero y none e =
    let same : x ≡ y = cc in
    subst (λ (z : NameText). meaning_of p z.text ≡ Some (Datum (number_of p z.text))) same
    (means_own n (meaning_of p x.text) x
    (no_first (unless_own (means_datum n (meaning_of p x.text)) x) (doubled_vars p (suc n) xs) none))
own_means p n (x ∷ xs) (suc i) y none e =
    own_means p (suc n) xs i y
    (no_rest (unless_own (means_datum n (meaning_of p x.text)) x) (doubled_vars p (suc n) xs) none) e

own_datum : (p : Scopes) (n : ℕ) (xs : List NameText) (i : ℕ) (y : NameText) → doubled_vars p n xs ≡ []
    → slice_get xs i ≡ Some y → number_of p y.text ≡ n + i
own_datum p n [] i y none e = absurd cc
own_datum p n (x ∷ xs) zero y none e =
    let same : x ≡ y = cc in
    let here : n ≡ n + 0 = omega arith in
    ap (λ (z : NameText). number_of p z.text) (sym same)
    ∙ own_mean n (meaning_of p x.text) x
    (no_first (unless_own (means_datum n (meaning_of p x.text)) x) (doubled_vars p (suc n) xs) none) ∙ here
own_datum p n (x ∷ xs) (suc i) y none e =
    let next : suc n + i ≡ n + suc i = omega arith in
    own_datum p (suc n) xs i y
    (no_rest (unless_own (means_datum n (meaning_of p x.text)) x) (doubled_vars p (suc n) xs) none) e ∙ next

no_double_vars : (c : trees.Chart) → name_faults c ≡ [] → doubled_vars (scopes_of c) 0 (scopes_of c).vars ≡ []
unfolding name_faults
no_double_vars c none =
    let p = scopes_of c in
    let e = doubled_events p 0 p.events in
    let v = doubled_vars p 0 p.vars in
    let s = doubled_states p 0 p.states in
    let j = doubled_junctions p 0 p.junctions in
    let us = used_in_states p 0 (placed_states c.root) in
    let uj = used_in_junctions p (placed_junctions (placed_states c.root)) in
    no_rest e v (no_first (e ++ v) s (no_first (e ++ v ++ s) j (no_first (e ++ v ++ s ++ j) us
    (no_first (e ++ v ++ s ++ j ++ us) uj none))))

in_range : {A : Type 0} (f : A → ℕ) (a : ℕ) (xs : List A)
    → ((i : ℕ) (x : A) → slice_get xs i ≡ Some x → f x ≡ a + i) → map f xs ≡ range_with_len a (length xs)
in_range f a [] h = refl
in_range f a (x ∷ xs) h =
    let here : a + 0 ≡ a = omega arith in
    ap₂ (λ y ys. y ∷ ys) (h 0 x refl ∙ here)
    (in_range f (a + 1) xs (λ i y e. let next : a + suc i ≡ a + 1 + i = omega arith in h (suc i) y e ∙ next))

module _ (ks : List (List Counter)) (t : trees.Chart) (ready : IsReady ks t) where
  -- the declaration of a counter
  pub var_at : (i : ℕ) (k : Counter) → slice_get (all_of ks) i ≡ Some k
      → slice_get t.vars (length ready.others + i) ≡ Some (counter_var k)
  var_at i k e =
      ap (λ (vs : List trees.Var). slice_get vs (length ready.others + i)) ready.vars
      ∙ get_after ready.others (map counter_var (all_of ks)) i ∙ get_map counter_var (all_of ks) i k e

  module _ (faultless : name_faults t ≡ []) where
    pub number_is : (i : ℕ) (k : Counter) → slice_get (all_of ks) i ≡ Some k
        → counter_number t k ≡ length ready.others + i
    unfolding scopes_of
    number_is i k e =
        let n = length ready.others + i in
        let zero_first : 0 + n ≡ n = omega arith in
        own_datum (scopes_of t) 0 (scopes_of t).vars n (counter_var k).name (no_double_vars t faultless)
        (get_map (λ (v : trees.Var). v.name) t.vars n (counter_var k) (var_at i k e)) ∙ zero_first

    pub means_datum_of : (i : ℕ) (k : Counter) → slice_get (all_of ks) i ≡ Some k
        → meaning_of (scopes_of t) k.name ≡ Some (Datum (counter_number t k))
    unfolding scopes_of
    means_datum_of i k e =
        let n = length ready.others + i in
        own_means (scopes_of t) 0 (scopes_of t).vars n (counter_var k).name (no_double_vars t faultless)
        (get_map (λ (v : trees.Var). v.name) t.vars n (counter_var k) (var_at i k e))

    -- no number stands twice among those of the counters
    pub numbers_once : (v : ℕ) → times_in v (map (counter_number t) (all_of ks)) ≤ 1
    numbers_once v =
        subst (λ l. times_in v l ≤ 1)
        (sym (in_range (counter_number t) (length ready.others) (all_of ks) number_is))
        (once_in_range v (length ready.others) (length (all_of ks)))
