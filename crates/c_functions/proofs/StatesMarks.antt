-- Fields and marks are the same thing: one store shows given marks, and it tells them.
use Rattle.std.proofs.Common.{◌≡◌, ◌≢◌, ℕ, ◌≤◌, ◌<◌, length, map, Option, Some, None, Bool}
use Rattle.std.proofs.Common.{true, false, ◌&&◌, refl, sym, ap, ◌∙◌, subst, arith, get_or, inl, inr}
use Rattle.std.proofs.lemmas.Bool.{cases_lt}
use Rattle.std.proofs.Math.ListN.{get_or-eq_default}
use Rattle.std.proofs.lemmas.List.{ext_get_or}
use Rattle.std.proofs.lemmas.List.FromFn.{length-map-range_with_len, get_or-map-range_with_len}
use Rattle.std.specs.Prelude.{◌⊎◌, ◌==◌, slice_index_or, if◌then◌else◌}
use Rattle.std.specs.List.{find, range_with_len}
use Rattle.active_config.specs.declared.comp.Comp.{Comp}
use Rattle.active_config.specs.declared.comp.Comp.TheVariants.{Leaf, Or, And}
use Rattle.active_config.specs.Tree.{Tree, state_count, parent_of, comp_of, is_child, children_of, children_below}
use Rattle.active_config.specs.Tree.{is_or}
use Rattle.active_config.specs.Marks.{Configuration, mark_count, is_on, active_child, last_of, IsConsistent}
use Rattle.active_config.proofs.ParentLemmas.{child_within}
use Rattle.active_config.proofs.ChildLemmas.{parent_of_child, child_of_parent}
use Rattle.active_config.proofs.SiblingLemmas.{is_first, is_none}
use Rattle.active_config.proofs.RangeLemmas.{find-filter}
use Rattle.active_config.proofs.MarksLemmas.{on_past}
use Rattle.active_config.proofs.TableLemmas.{same_or_other}
use Rattle.c_functions.specs.States.{States, Numbers, or_parent, number, IsChild, Shows, choice, flag_by, shown}
use Rattle.c_functions.proofs.StatesTests.{on_is, or_parent_is, same_self, same_is, differ}
use Rattle.c_functions.proofs.StatesChanges.{or_within}

-- both tests hold, where their conjunction does
both_of : (a b : Bool) → (a && b) ≡ true → (a ≡ true) × (b ≡ true)
both_of true b e = (refl, e)
both_of false b e = absurd cc

-- the first active child is the first state that is a child and active
active_child-find : (t : Tree) (s : ℕ) (m : Configuration)
    → active_child t s m ≡ find (λ x. is_child t s x && is_on x m) (range_with_len 0 (state_count t))
unfolding active_child children_of children_below
active_child-find t s m = find-filter (λ x. is_on x m) (is_child t s) (range_with_len 0 (state_count t))

or_of : (c : Comp) → is_or c ≡ true → c ≡ Or
or_of Leaf h = absurd cc
or_of Or h = refl
or_of And h = absurd cc

module _ (t : Tree) (n : ℕ → ℕ) (num : Numbers t n) where
  -- ---- one store

  -- the numbers of one OR in two stores
  one_choice : (st st' : States) (m : Configuration) → Shows t n st m → Shows t n st' m → (p : ℕ) → is_or (comp_of t p)
      ≡ true
      → slice_index_or st.chosen p 0 ≡ slice_index_or st'.chosen p 0
  one_choice st st' m h h' p o = at (h.child p o) (h'.child p o)
    where
      by : (a b : States) → Shows t n a m → Shows t n b m → IsChild t n p (slice_index_or a.chosen p 0)
          → slice_index_or b.chosen p 0 ≡ slice_index_or a.chosen p 0
      by a b ha hb k =
          let on : is_on k.child m ≡ true = sym (ha.ons p k.child k.up o) ∙ ap (λ i. i == n k.child) k.is ∙ same_self
          (n k.child) in
          same_is _ _ (hb.ons p k.child k.up o ∙ on) ∙ sym k.is

      at : (slice_index_or st.chosen p 0 ≡ 0) ⊎ IsChild t n p (slice_index_or st.chosen p 0)
          → (slice_index_or st'.chosen p 0 ≡ 0) ⊎ IsChild t n p (slice_index_or st'.chosen p 0)
          → slice_index_or st.chosen p 0 ≡ slice_index_or st'.chosen p 0
      at (inl z) (inl y) = z ∙ sym y
      at a (inr k) = by st' st h' h k
      at (inr k) b = sym (by st st' h h' k)

  choice_either : (st st' : States) (m : Configuration) → Shows t n st m → Shows t n st' m → (p : ℕ) → (b : Bool)
      → is_or (comp_of t p) ≡ b → slice_index_or st.chosen p 0 ≡ slice_index_or st'.chosen p 0
  choice_either st st' m h h' p true o = one_choice st st' m h h' p o
  choice_either st st' m h h' p false o = h.no_choice p o ∙ sym (h'.no_choice p o)

  flag_either : (st st' : States) (m : Configuration) → Shows t n st m → Shows t n st' m → (x : ℕ) → (q : Option ℕ)
      → or_parent t (parent_of t x) ≡ q → slice_index_or st.flags x false ≡ slice_index_or st'.flags x false
  flag_either st st' m h h' x None e = h.bits x e ∙ sym (h'.bits x e)
  flag_either st st' m h h' x (Some p) e = h.no_bits p x e ∙ sym (h'.no_bits p x e)

  -- two stores that show the same marks are one
  pub one_store : (st st' : States) (m : Configuration) → Shows t n st m → Shows t n st' m → st ≡ st'
  one_store st st' m h h' =
      let a : st.chosen ≡ st'.chosen = ext_get_or 0 st.chosen st'.chosen (h.chosen_length ∙ sym h'.chosen_length)
      (λ p lt. choice_either st st' m h h' p (is_or (comp_of t p)) refl) in
      let b : st.flags ≡ st'.flags = ext_get_or false st.flags st'.flags (h.flags_length ∙ sym h'.flags_length)
      (λ x lt. flag_either st st' m h h' x (or_parent t (parent_of t x)) refl) in
      let c : st.kept ≡ st'.kept = ext_get_or 0 st.kept st'.kept (h.kept_length ∙ sym h'.kept_length)
      (λ p lt. h.lasts p ∙ sym (h'.lasts p)) in
      ap (λ l. record { chosen = l; flags = st.flags; kept = st.kept }) a
      ∙ ap (λ l. record { chosen = st'.chosen; flags = l; kept = st.kept }) b
      ∙ ap (λ l. record { chosen = st'.chosen; flags = st'.flags; kept = l }) c

  -- ---- it tells the marks

  -- what is remembered
  one_last : (st : States) (m m' : Configuration) → IsConsistent t m → IsConsistent t m' → Shows t n st m
      → Shows t n st m'
      → (p : ℕ) (o o' : Option ℕ) → last_of p m ≡ o → last_of p m' ≡ o' → number n o ≡ number n o' → o ≡ o'
  one_last st m m' k k' h h' p None None e e' f = refl
  one_last st m m' k k' h h' p None (Some y) e e' f = absurd (num.some y (sym f))
  one_last st m m' k k' h h' p (Some x) None e e' f = absurd (num.some x f)
  one_last st m m' k k' h h' p (Some x) (Some y) e e' f = ap Some
      (num.apart p x y (k.lasts p x e).1 (k'.lasts p y e').1 f)

  -- consistent marks that a store shows are those that it tells
  pub one_configuration : (st : States) (m m' : Configuration) → IsConsistent t m → IsConsistent t m' → Shows t n st m
      → Shows t n st m' → m ≡ m'
  unfolding is_on last_of mark_count
  one_configuration st m m' k k' h h' =
      let a : m.flags ≡ m'.flags = ext_get_or false m.flags m'.flags (k.sized ∙ sym k'.sized)
      (λ x lt. sym (on_is t n st m h x) ∙ on_is t n st m' h' x) in
      let b : m.last ≡ m'.last = ext_get_or None m.last m'.last (k.entries ∙ sym k'.entries)
      (λ p lt. one_last st m m' k k' h h' p (last_of p m) (last_of p m') refl refl (sym (h.lasts p) ∙ h'.lasts p)) in
      ap (λ l. record { flags = l; last = m.last }) a ∙ ap (λ l. record { flags = m'.flags; last = l }) b

  -- at most one child of an OR is active in what a store shows
  pub single_shown : (st : States) (m : Configuration) → Shows t n st m → (p x y : ℕ) → is_or (comp_of t p) ≡ true
      → parent_of t x ≡ Some p → parent_of t y ≡ Some p → is_on x m ≡ true → is_on y m ≡ true → x ≡ y
  single_shown st m h p x y o ux uy ox oy =
      num.apart p x y ux uy (sym (same_is _ _ (h.ons p x ux o ∙ ox)) ∙ same_is _ _ (h.ons p y uy o ∙ oy))

  -- ---- there is one

  module _ (same : length t.comps ≡ state_count t) (m : Configuration) (k : IsConsistent t m) where
    -- the active child passes both tests
    active_is : (p x : ℕ) → active_child t p m ≡ Some x → (parent_of t x ≡ Some p) × (is_on x m ≡ true)
    active_is p x e =
        let first = is_first (λ y. is_child t p y && is_on y m) 0 (state_count t) x
        (sym (active_child-find t p m) ∙ e) in
        let both = both_of (is_child t p x) (is_on x m) first.passes in
        (parent_of_child t p x both.0, both.1)

    -- where there is none, no child is active
    active_none : (p x : ℕ) → active_child t p m ≡ None → parent_of t x ≡ Some p → is_on x m ≡ false
    active_none p x e up =
        let lt = child_within t x p up in
        let off = is_none (λ y. is_child t p y && is_on y m) 0 (state_count t) (sym (active_child-find t p m) ∙ e) x
        (omega arith) (omega (arith, lt)) in
        ap (λ b. b && is_on x m) (sym (child_of_parent t p x up)) ∙ off

    -- the number of the active child tells each child
    told : (p x : ℕ) (q : Option ℕ) → parent_of t x ≡ Some p → is_or (comp_of t p) ≡ true → active_child t p m ≡ q
        → (number n q == n x) ≡ is_on x m
    told p x None up o e = differ 0 (n x) (λ f. num.some x (sym f)) ∙ sym (active_none p x e up)
    told p x (Some y) up o e =
        let a = active_is p y e in
        at a.0 a.1 (same_or_other y x)
      where
        off : parent_of t y ≡ Some p → is_on y m ≡ true → y ≢ x → (b : Bool) → is_on x m ≡ b → is_on x m ≡ false
        off uy on ne true f = absurd (ne (k.single p y x (or_of (comp_of t p) o) uy up on f))
        off uy on ne false f = f

        at : parent_of t y ≡ Some p → is_on y m ≡ true → (y ≡ x) ⊎ (y ≢ x) → (n y == n x) ≡ is_on x m
        at uy on (inl f) = ap (λ z. n z == n x) f ∙ same_self (n x) ∙ sym (ap (λ z. is_on z m) (sym f) ∙ on)
        at uy on (inr ne) =
            differ (n y) (n x) (λ g. ne (num.apart p y x uy up g)) ∙ sym (off uy on ne (is_on x m) refl)

    kid_of : (p : ℕ) (q : Option ℕ) → active_child t p m ≡ q → (number n q ≡ 0) ⊎ IsChild t n p (number n q)
    kid_of p None e = inl refl
    kid_of p (Some x) e = inr (record { child = x; up = (active_is p x e).0; is = refl })

    -- a number past the list remembers nothing
    beyond : (p : ℕ) → state_count t ≤ p → last_of p m ≡ None
    unfolding last_of
    beyond p le = let far : length m.last ≤ p = omega (arith, le, k.entries) in get_or-eq_default m.last None far

    -- the choice at an OR
    choice_at : (p : ℕ) → is_or (comp_of t p) ≡ true → slice_index_or (shown t n m).chosen p 0 ≡ number n
        (active_child t p m)
    unfolding shown
    choice_at p o =
        get_or-map-range_with_len (choice t n m) 0 (state_count t) p p 0 (or_within t p same o) (omega arith)
        ∙ ap (λ b. if b then number n (active_child t p m) else 0) o

    -- the store that shows the marks
    pub shown_shows : Shows t n (shown t n m) m
    unfolding shown
    shown_shows = record {
      chosen_length = length-map-range_with_len (choice t n m) 0 (state_count t);
      flags_length = length-map-range_with_len (λ x. flag_by (or_parent t (parent_of t x)) x m) 0 (state_count t);
      kept_length = length-map-range_with_len (λ p. number n (last_of p m)) 0 (state_count t);
      ons = λ p x up o. ap (λ i. i == n x) (choice_at p o) ∙ told p x (active_child t p m) up o refl;
      child = λ p o. subst (λ i. (i ≡ 0) ⊎ IsChild t n p i) (sym (choice_at p o)) (kid_of p (active_child t p m) refl);
      no_choice = λ p o. none p o (cases_lt p (state_count t));
      bits = λ x e. bit x e (cases_lt x (state_count t));
      no_bits = λ p x e. let u = or_parent_is t x p e in
          get_or-map-range_with_len (λ x. flag_by (or_parent t (parent_of t x)) x m) 0 (state_count t) x x false
          (child_within t x p u.0) (omega arith)
          ∙ ap (λ q. flag_by q x m) e;
      lasts = λ p. last p (cases_lt p (state_count t));
    }
      where
        none : (p : ℕ) → is_or (comp_of t p) ≡ false → (p < state_count t) ⊎ (state_count t ≤ p)
            → get_or (map (choice t n m) (range_with_len 0 (state_count t))) p 0 ≡ 0
        none p o (inl lt) =
            get_or-map-range_with_len (choice t n m) 0 (state_count t) p p 0 lt (omega arith)
            ∙ ap (λ b. if b then number n (active_child t p m) else 0) o
        none p o (inr le) =
            let long = length-map-range_with_len (choice t n m) 0 (state_count t) in
            let past : length (map (choice t n m) (range_with_len 0 (state_count t))) ≤ p = omega (arith, le, long) in
            get_or-eq_default (map (choice t n m) (range_with_len 0 (state_count t))) 0 past

        bit : (x : ℕ) → or_parent t (parent_of t x) ≡ None → (x < state_count t) ⊎ (state_count t ≤ x)
            → get_or (map (λ x. flag_by (or_parent t (parent_of t x)) x m) (range_with_len 0 (state_count t))) x false
            ≡ is_on x m
        bit x e (inl lt) =
            get_or-map-range_with_len (λ x. flag_by (or_parent t (parent_of t x)) x m) 0 (state_count t) x x false lt
            (omega arith)
            ∙ ap (λ q. flag_by q x m) e
        bit x e (inr le) =
            let long = length-map-range_with_len (λ x. flag_by (or_parent t (parent_of t x)) x m) 0 (state_count t) in
            let past : length (map (λ x. flag_by (or_parent t (parent_of t x)) x m)
            (range_with_len 0 (state_count t))) ≤ x = omega (arith, le, long) in
            let beyond : mark_count m ≤ x = omega (arith, le, k.sized) in
            get_or-eq_default (map (λ x. flag_by (or_parent t (parent_of t x)) x m)
            (range_with_len 0 (state_count t))) false past
            ∙ sym (on_past x m beyond)

        last : (p : ℕ) → (p < state_count t) ⊎ (state_count t ≤ p)
            → get_or (map (λ p. number n (last_of p m)) (range_with_len 0 (state_count t))) p 0 ≡ number n (last_of p m)
        last p (inl lt) = get_or-map-range_with_len (λ p. number n (last_of p m)) 0 (state_count t) p p 0 lt
            (omega arith)
        last p (inr le) =
            let long = length-map-range_with_len (λ p. number n (last_of p m)) 0 (state_count t) in
            let past : length (map (λ p. number n (last_of p m)) (range_with_len 0 (state_count t))) ≤ p = omega
            (arith, le, long) in
            get_or-eq_default (map (λ p. number n (last_of p m)) (range_with_len 0 (state_count t))) 0 past
            ∙ sym (ap (number n) (beyond p le))
