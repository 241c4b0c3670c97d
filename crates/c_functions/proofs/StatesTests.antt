-- What the fields show: tests.
use Rattle.std.proofs.Common.{◌≡◌, ◌≢◌, ℕ, List, [], ◌∷◌, Option, Some, None, Bool}
use Rattle.std.proofs.Common.{true, false, cond, not, ◌&&◌, ◌||◌, refl, sym, ap, ◌∙◌, subst, arith, inl, inr}
use Rattle.std.proofs.lemmas.Bool.Decides.{nat_tests}
use Rattle.std.specs.Prelude.{◌⊎◌, ◌==◌, slice_index_or}
use Rattle.std.specs.List.{filter, list_any, range_with_len}
use Rattle.std.specs.Option.{option_map_or}
use Rattle.active_config.specs.Tree.{Tree, state_count, parent_of, comp_of, is_child, children_below, children_of}
use Rattle.active_config.specs.Tree.{is_or}
use Rattle.active_config.specs.Marks.{Configuration, is_on, is_bare, is_last, is_this, last_of, IsConsistent}
use Rattle.active_config.proofs.ParentLemmas.{child_within}
use Rattle.active_config.proofs.ChildLemmas.{parent_of_child, child_of_parent}
use Rattle.active_config.proofs.MarksLemmas.{none_in_range}
use Rattle.c_functions.specs.States.{States, Numbers, or_parent, number, c_on, on_by, c_bare, childless_by}
use Rattle.c_functions.specs.States.{c_last, last_by}
use Rattle.c_functions.specs.States.{IsChild, Shows}

-- tests that agree on what is kept
same_any : (p p' q : ℕ → Bool) (xs : List ℕ) → ((x : ℕ) → q x ≡ true → p x ≡ p' x)
    → list_any p (filter q xs) ≡ list_any p' (filter q xs)
same_any p p' q [] h = refl
same_any p p' q (x ∷ xs) h = at (q x) refl (same_any p p' q xs h)
  where
    at : (b : Bool) → q x ≡ b → list_any p (filter q xs) ≡ list_any p' (filter q xs)
        → list_any p (cond b (x ∷ filter q xs) (filter q xs)) ≡ list_any p' (cond b (x ∷ filter q xs) (filter q xs))
    at true e rest = ap (λ b. b || list_any p (filter q xs)) (h x e) ∙ ap (λ b. p' x || b) rest
    at false e rest = rest

-- nothing passes a test that is never met
any_nothing : (xs : List ℕ) → list_any (λ x. false) xs ≡ false
any_nothing [] = refl
any_nothing (x ∷ xs) = any_nothing xs

-- a test that isn't false is true
true_where : (b : Bool) → (b ≡ false → ⊥) → b ≡ true
true_where true h = refl
true_where false h = absurd (h refl)

pub same_self : (x : ℕ) → (x == x) ≡ true
same_self x = grind (arith, nat_tests)

pub same_is : (x y : ℕ) → (x == y) ≡ true → x ≡ y
same_is x y e = grind (arith, nat_tests)

pub differ : (x y : ℕ) → x ≢ y → (x == y) ≡ false
differ x y ne = grind (arith, nat_tests)

-- the parent that is an OR
pub or_parent_is : (t : Tree) (s p : ℕ) → or_parent t (parent_of t s) ≡ Some p → (parent_of t s ≡ Some p) ×
    (is_or (comp_of t p) ≡ true)
or_parent_is t s p e = at (parent_of t s) refl e
  where
    by : (q : ℕ) (b : Bool) → is_or (comp_of t q) ≡ b → parent_of t s ≡ Some q → cond b (Some q) None ≡ Some p
        → (parent_of t s ≡ Some p) × (is_or (comp_of t p) ≡ true)
    by q true h k f = let same : q ≡ p = cc in (k ∙ f, subst (λ y. is_or (comp_of t y) ≡ true) same h)
    by q false h k f = absurd cc

    at : (o : Option ℕ) → parent_of t s ≡ o → or_parent t o ≡ Some p → (parent_of t s ≡ Some p) ×
        (is_or (comp_of t p) ≡ true)
    at None k f = absurd cc
    at (Some q) k f = by q (is_or (comp_of t q)) refl k f

pub or_parent_at : (t : Tree) (s p : ℕ) → parent_of t s ≡ Some p → is_or (comp_of t p) ≡ true → or_parent t
    (parent_of t s) ≡ Some p
or_parent_at t s p e h = ap (or_parent t) e ∙ ap (λ b. cond b (Some p) None) h

pub no_or_parent : (t : Tree) (s p : ℕ) → parent_of t s ≡ Some p → is_or (comp_of t p) ≡ false → or_parent t
    (parent_of t s) ≡ None
no_or_parent t s p e h = ap (or_parent t) e ∙ ap (λ b. cond b (Some p) None) h

module _ (t : Tree) (n : ℕ → ℕ) (st : States) (m : Configuration) (h : Shows t n st m) where
  -- a state is active
  pub on_is : (s : ℕ) → c_on t n s st ≡ is_on s m
  unfolding c_on
  on_is s = at (or_parent t (parent_of t s)) refl
    where
      at : (o : Option ℕ) → or_parent t (parent_of t s) ≡ o → on_by n st s o ≡ is_on s m
      at None e = h.bits s e
      at (Some p) e = let k = or_parent_is t s p e in h.ons p s k.0 k.1

  -- no child of an OR is active where its number is 0
  or_childless : (num : Numbers t n) (s : ℕ) → is_or (comp_of t s) ≡ true
      → (slice_index_or st.chosen s 0 == 0) ≡ not (list_any (λ x. is_on x m) (children_of t s))
  unfolding children_of children_below
  or_childless num s o = at (h.child s o)
    where
      at : (slice_index_or st.chosen s 0 ≡ 0) ⊎ IsChild t n s (slice_index_or st.chosen s 0)
          → (slice_index_or st.chosen s 0 == 0) ≡ not (list_any (λ x. is_on x m) (children_of t s))
      at (inl z) =
          let none = same_any (λ x. is_on x m) (λ x. false) (is_child t s) (range_with_len 0 (state_count t))
          (λ x c. sym (h.ons s x (parent_of_child t s x c) o) ∙ differ _ _ (λ e. num.some x (sym e ∙ z)))
          ∙ any_nothing (filter (is_child t s) (range_with_len 0 (state_count t))) in
          ap (λ i. i == 0) z ∙ ap not (sym none)
      at (inr k) =
          let on : is_on k.child m ≡ true = sym (h.ons s k.child k.up o) ∙ ap (λ i. i == n k.child) k.is ∙ same_self
          (n k.child) in
          let lt = child_within t k.child s k.up in
          let some : list_any (λ x. is_on x m) (filter (is_child t s) (range_with_len 0 (state_count t))) ≡ true =
          true_where _ (λ e. absurd
          (let off = none_in_range (λ x. is_on x m) (is_child t s) 0 (state_count t) k.child (omega arith)
          (omega (arith, lt)) (child_of_parent t s k.child k.up) e in cc)) in
          differ _ _ (λ e. num.some k.child (sym k.is ∙ e)) ∙ ap not (sym some)

  -- no child of another state is active where their flags are off
  and_childless : (s : ℕ) → is_or (comp_of t s) ≡ false
      → list_any (λ x. slice_index_or st.flags x false) (children_of t s) ≡ list_any (λ x. is_on x m) (children_of t s)
  unfolding children_of children_below
  and_childless s o =
      same_any (λ x. slice_index_or st.flags x false) (λ x. is_on x m) (is_child t s) (range_with_len 0 (state_count t))
      (λ x c. h.bits x (no_or_parent t x s (parent_of_child t s x c) o))

  childless_is : (num : Numbers t n) (s : ℕ) (b : Bool) → is_or (comp_of t s) ≡ b
      → childless_by t s st b ≡ not (list_any (λ x. is_on x m) (children_of t s))
  childless_is num s true e = or_childless num s e
  childless_is num s false e = ap not (and_childless s e)

  -- a state is bare
  pub bare_is : (num : Numbers t n) (s : ℕ) → c_bare t n s st ≡ is_bare t s m
  unfolding c_bare is_bare
  bare_is num s =
      ap (λ b. b && childless_by t s st (is_or (comp_of t s))) (on_is s)
      ∙ ap (λ b. is_on s m && b) (childless_is num s (is_or (comp_of t s)) refl)

  -- a state is remembered
  pub last_is : (num : Numbers t n) (k : IsConsistent t m) (s : ℕ) → c_last t n s st ≡ is_last t s m
  unfolding c_last is_last
  last_is num k s = at (parent_of t s) refl
    where
      by : (p : ℕ) (o : Option ℕ) → parent_of t s ≡ Some p → last_of p m ≡ o → (number n o == n s) ≡ is_this o s
      by p None up e = differ 0 (n s) (λ f. num.some s (sym f))
      by p (Some x) up e = other (same_or_not x)
        where
          same_or_not : (x : ℕ) → (x ≡ s) ⊎ (x ≢ s)
          same_or_not x = grind arith

          other : (x ≡ s) ⊎ (x ≢ s) → (n x == n s) ≡ (x == s)
          other (inl f) = ap (λ y. n y == n s) f ∙ same_self (n s) ∙ sym (ap (λ y. y == s) f ∙ same_self s)
          other (inr ne) =
              differ _ _ (λ f. ne (num.apart p x s (k.lasts p x e).1 up f)) ∙ sym (differ x s ne)

      at : (o : Option ℕ) → parent_of t s ≡ o → last_by n st s o ≡ option_map_or (λ p. is_this (last_of p m) s) o false
      at None e = refl
      at (Some p) e = ap (λ i. i == n s) (h.lasts p) ∙ by p (last_of p m) e refl
