-- Each counter counts its event, and becomes 0 where its state is entered, and nowhere else.
use Rattle.std.proofs.Common.{◌≡◌, ℕ, zero, suc, ◌+◌, ◌≤◌, Bool, true, false, List, [], ◌∷◌, map}
use Rattle.std.proofs.Common.{Option, Some, None, is_some, refl, sym, ap, ap₂, ◌∙◌, subst, arith}
use Rattle.std.specs.Prelude.{◌==◌, slice_get, bytes_eq, if◌then◌else◌}
use Rattle.std.proofs.lemmas.Slice.Eq.{bytes_eq-Decides}
use Rattle.flow_base.specs.Names.{index_of, after}
use Rattle.actions.specs.declared.event.Event.{Event}
use Rattle.actions.specs.Work.{is_event}
use Rattle.chart_tree.specs.declared.name.NameText.{NameText}
use Rattle.chart_tree.specs.Trees as trees
use Rattle.chart_structure.proofs.WalkLemmas.{same_of}
use Rattle.chart_structure.proofs.LeastLemmas.{eq_same}
use Rattle.chart_places.specs.Scopes.{scopes_of}
use Rattle.chart_scope.specs.Names.{name_faults}
use Rattle.counting_log.specs.Times.{is_in, times_in, times, IsCounterOf}
use Rattle.counting_trees.specs.Counters.{Counter, without, events_of}
use Rattle.counting_trees.specs.Counting.{own, all_of, IsReady}
use Rattle.counting_trees.specs.Numbers.{number_of, counted_as, counters_for, counter_number, event_number}
use Rattle.counting_trees.proofs.Lists.{Has, has_in, get_map, get_or_of}
use Rattle.counting_trees.proofs.Times.{none_is, some_is, times_there, none_else, once_among}
use Rattle.counting_trees.proofs.Counters.{numbers_once}

-- ---- how many of some names have a text

-- a number where something holds, else 0
abbrev only : Bool → ℕ → ℕ
only b n = if b then n else 0

front : {n m : ℕ} → n ≡ m → 0 + n ≡ m
front e = omega (arith, e)

abbrev pub have : List ℕ → List NameText → ℕ
have t [] = 0
have t (x ∷ xs) = only (bytes_eq t x.text) 1 + have t xs

-- one name more in front
index_first : (x t : List ℕ) (others : List (List ℕ)) → is_some (index_of t others) ≡ true
    → is_some (index_of t (x ∷ others)) ≡ true
index_first x t others e = at (bytes_eq x t) (index_of t others) e
  where
    at : (b : Bool) (o : Option ℕ) → is_some o ≡ true → is_some (if b then Some 0 else after o) ≡ true
    at true o e = refl
    at false None e = absurd cc
    at false (Some n) e = refl

index_itself : (t : List ℕ) (others : List (List ℕ)) → is_some (index_of t (t ∷ others)) ≡ true
index_itself t others =
    ap (λ b. is_some (if b then Some 0 else after (index_of t others))) ((bytes_eq-Decides t t).1 refl)

index_other : (x t : List ℕ) (others : List (List ℕ)) → bytes_eq x t ≡ false → is_some (index_of t others) ≡ false
    → is_some (index_of t (x ∷ others)) ≡ false
index_other x t others differ e =
    ap (λ b. is_some (if b then Some 0 else after (index_of t others))) differ ∙ none (index_of t others) e
  where
    none : (o : Option ℕ) → is_some o ≡ false → is_some (after o) ≡ false
    none None e = refl
    none (Some n) e = absurd cc

same_text : (x y : List ℕ) → bytes_eq x y ≡ true → x ≡ y
same_text x y e = (bytes_eq-Decides x y).0 e

-- a text that is among the others isn't kept
none_kept : (t : List ℕ) (others : List (List ℕ)) (xs : List NameText) → is_some (index_of t others) ≡ true
    → have t (without others xs) ≡ 0
none_kept t others [] known = refl
none_kept t others (x ∷ xs) known =
    at (is_some (index_of x.text others)) (bytes_eq t x.text) refl refl (none_kept t others xs known)
    (none_kept t (x.text ∷ others) xs (index_first x.text t others known))
  where
    at : (b a : Bool) → is_some (index_of x.text others) ≡ b → bytes_eq t x.text ≡ a → have t (without others xs) ≡ 0
        → have t (without (x.text ∷ others) xs) ≡ 0
        → have t (if b then without others xs else (x ∷ without (x.text ∷ others) xs)) ≡ 0
    at true a e f one two = one
    at false true e f one two =
        absurd (let same = ap (λ u. is_some (index_of u others)) (same_text t x.text f) in cc)
    at false false e f one two = ap (λ c. only c 1 + have t (without (x.text ∷ others) xs)) f ∙ front two

-- and else it is kept once
once_kept : (t : List ℕ) (others : List (List ℕ)) (xs : List NameText) (y : NameText)
    → is_some (index_of t others) ≡ false → Has xs y → y.text ≡ t → have t (without others xs) ≡ 1
once_kept t others [] y new (i, e) same = absurd cc
once_kept t others (x ∷ xs) y new (zero, e) same =
    at (is_some (index_of x.text others)) refl
  where
    is : x.text ≡ t
    is = (let z : x ≡ y = cc in ap (λ (u : NameText). u.text) z ∙ same)

    at : (b : Bool) → is_some (index_of x.text others) ≡ b
        → have t (if b then without others xs else (x ∷ without (x.text ∷ others) xs)) ≡ 1
    at true e = absurd (let known = ap (λ u. is_some (index_of u others)) is in cc)
    at false e =
        let rest = none_kept t (x.text ∷ others) xs
        (subst (λ u. is_some (index_of t (u ∷ others)) ≡ true) (sym is) (index_itself t others)) in
        ap (λ c. only c 1 + have t (without (x.text ∷ others) xs)) ((bytes_eq-Decides t x.text).1 (sym is))
        ∙ ap (λ n. 1 + n) rest
once_kept t others (x ∷ xs) y new (suc i, e) same =
    at (is_some (index_of x.text others)) (bytes_eq t x.text) refl refl (once_kept t others xs y new (i, e) same)
    (λ new'. once_kept t (x.text ∷ others) xs y new' (i, e) same)
  where
    other : bytes_eq t x.text ≡ false → bytes_eq x.text t ≡ false
    other f = no (bytes_eq x.text t) refl
      where
        no : (b : Bool) → bytes_eq x.text t ≡ b → b ≡ false
        no true g = absurd (let yes = (bytes_eq-Decides t x.text).1 (sym (same_text x.text t g)) in cc)
        no false g = refl

    at : (b a : Bool) → is_some (index_of x.text others) ≡ b → bytes_eq t x.text ≡ a → have t (without others xs) ≡ 1
        → (is_some (index_of t (x.text ∷ others)) ≡ false → have t (without (x.text ∷ others) xs) ≡ 1)
        → have t (if b then without others xs else (x ∷ without (x.text ∷ others) xs)) ≡ 1
    at true a e f one two = one
    at false true e f one two =
        let is : x.text ≡ t = sym (same_text t x.text f) in
        let rest = none_kept t (x.text ∷ others) xs
        (subst (λ u. is_some (index_of t (u ∷ others)) ≡ true) (sym is) (index_itself t others)) in
        ap (λ c. only c 1 + have t (without (x.text ∷ others) xs)) f ∙ ap (λ n. 1 + n) rest
    at false false e f one two =
        ap (λ c. only c 1 + have t (without (x.text ∷ others) xs)) f
        ∙ front (two (index_other x.text t others (other f) new))

-- one that has the text
pub holder : (t : List ℕ) (xs : List NameText) → have t xs ≡ 1 → (e : NameText) × Has xs e × (t ≡ e.text)
holder t [] one = absurd (omega (arith, one))
holder t (x ∷ xs) one = at (bytes_eq t x.text) refl one (holder t xs)
  where
    at : (b : Bool) → bytes_eq t x.text ≡ b → only b 1 + have t xs ≡ 1
        → (have t xs ≡ 1 → (e : NameText) × Has xs e × (t ≡ e.text)) → (e : NameText) × Has (x ∷ xs) e × (t ≡ e.text)
    at true e one rest = (x, (0, refl), same_text t x.text e)
    at false e one rest = let r = rest (omega (arith, one)) in (r.0, (suc r.1.0, r.1.1), r.2)

-- ---- one counter

module _ (ks : List (List Counter)) (t : trees.Chart) (ready : IsReady ks t) (faultless : name_faults t ≡ []) (s : ℕ)
    (l : List Counter) (stands : slice_get ks s ≡ Some l) (k : Counter) (there : Has l k) where
  -- it is one of all
  h : Has (all_of ks) k
  h = has_in ks l s k stands there

  -- what one event does
  one_event : (now : Event) (e : NameText)
      → only (is_event (number_of (scopes_of t) e.text) now)
      (times_in (counter_number t k) (counted_as (scopes_of t) (all_of ks) e).counters)
      ≡ only (is_event (event_number t k) now) (only (bytes_eq k.event.text e.text) 1)
  one_event now e =
      ap (only (is_event (number_of (scopes_of t) e.text) now))
      (once_among (counter_number t) (counter_number t k) (λ (c : Counter). bytes_eq c.event.text e.text)
      (all_of ks) k h refl (numbers_once ks t ready faultless (counter_number t k)))
      ∙ at (bytes_eq k.event.text e.text) refl
    where
      zeros : (b : Bool) → only b 0 ≡ 0
      zeros true = refl
      zeros false = refl

      at : (b : Bool) → bytes_eq k.event.text e.text ≡ b
          → only (is_event (number_of (scopes_of t) e.text) now) (only b 1)
          ≡ only (is_event (event_number t k) now) (only b 1)
      at true q =
          ap (λ u. only (is_event (number_of (scopes_of t) u) now) 1) (sym (same_text k.event.text e.text q))
      at false q =
          zeros (is_event (number_of (scopes_of t) e.text) now) ∙ sym (zeros (is_event (event_number t k) now))

  -- what several do
  several : (now : Event) (es : List NameText)
      → times (counter_number t k) (map (counted_as (scopes_of t) (all_of ks)) es) now
      ≡ only (is_event (event_number t k) now) (have k.event.text es)
  several now [] = none (is_event (event_number t k) now)
    where
      none : (b : Bool) → 0 ≡ only b 0
      none true = refl
      none false = refl
  several now (e ∷ es) =
      ap₂ (λ a b. a + b) (one_event now e) (several now es)
      ∙ both (is_event (event_number t k) now) (only (bytes_eq k.event.text e.text) 1) (have k.event.text es)
    where
      both : (b : Bool) (m n : ℕ) → only b m + only b n ≡ only b (m + n)
      both true m n = refl
      both false m n = omega arith

  -- the event is one of those that are counted
  pub once_counted : have k.event.text (events_of (all_of ks)) ≡ 1
  once_counted =
      once_kept k.event.text [] (map (λ (c : Counter). c.event) (all_of ks)) k.event refl
      (h.0, get_map (λ (c : Counter). c.event) (all_of ks) h.0 k h.1) refl

  counts_once : (now : Event) → times (counter_number t k) (counters_for ks t).counted now
      ≡ only (is_event (event_number t k) now) 1
  unfolding counters_for
  counts_once now =
      several now (events_of (all_of ks)) ∙ ap (only (is_event (event_number t k) now)) once_counted

  -- ---- where it becomes 0

  some_there : 1 ≤ times_in (counter_number t k) (map (counter_number t) (own ks s))
  some_there =
      subst (λ z. 1 ≤ times_in (counter_number t k) (map (counter_number t) z)) (sym (get_or_of ks s l [] stands))
      (times_there (counter_number t) (counter_number t k) l k there refl)

  resets_once : (y : ℕ) → is_in (counter_number t k) ((counters_for ks t).resets y) ≡ (y == s)
  unfolding counters_for
  resets_once y = at (y == s) refl
    where
      at : (b : Bool) → (y == s) ≡ b → is_in (counter_number t k) (map (counter_number t) (own ks y)) ≡ b
      at true e =
          let same = same_of y s e in
          subst (λ z. is_in (counter_number t k) (map (counter_number t) (own ks z)) ≡ true) (sym same)
          (some_is (counter_number t k) _ some_there)
      at false e =
          none_is (counter_number t k) _
          (none_else (counter_number t) (counter_number t k) ks s y
          (numbers_once ks t ready faultless (counter_number t k)) some_there
          (λ same. let yes = ap (λ z. z == s) same ∙ eq_same s in absurd cc))

  -- it is the counter of its event for its state, and of nothing else
  pub is_counter_of : IsCounterOf (counters_for ks t) (counter_number t k) s (event_number t k)
  is_counter_of = record { reset = resets_once; counted = counts_once }
