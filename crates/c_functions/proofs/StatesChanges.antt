-- What the fields show after a change.
use Rattle.std.proofs.Common.{◌≡◌, ◌≢◌, ℕ, ◌≤◌, ◌<◌, length, Option, Some, None, Bool}
use Rattle.std.proofs.Common.{true, false, cond, not, ◌&&◌, refl, sym, ap, ◌∙◌, subst, ⊎_elim, arith, get_or, inl, inr}
use Rattle.std.proofs.Common.{get_or-set_other, get_or-set_same, length-set}
use Rattle.std.proofs.lemmas.Bool.{cases_lt}
use Rattle.std.proofs.Math.ListN.{get_or-eq_default}
use Rattle.std.specs.Prelude.{◌⊎◌, ◌==◌, slice_set, if◌then◌else◌}
use Rattle.active_config.specs.declared.comp.Comp.{Comp}
use Rattle.active_config.specs.declared.comp.Comp.TheVariants.{Leaf, Or, And}
use Rattle.active_config.specs.Tree.{Tree, state_count, parent_of, comp_of, is_or}
use Rattle.active_config.specs.Marks.{Configuration, mark_count, is_on, is_bare, last_of, with_mark, with_last}
use Rattle.active_config.specs.Marks.{takes_child, parent_takes_child, can_mark, IsConsistent}
use Rattle.active_config.proofs.ParentLemmas.{child_within}
use Rattle.active_config.proofs.TableLemmas.{same_or_other}
use Rattle.active_config.proofs.MarksLemmas.{bare_is_on, bare_child_off, is_on-with_mark_same, is_on-with_mark_other}
use Rattle.active_config.proofs.MarksLemmas.{last_of-with_mark}
use Rattle.active_config.proofs.MarksLemmas.{is_on-with_last, last_of-with_last_same, last_of-with_last_other}
use Rattle.c_functions.specs.States.{States, Numbers, or_parent, number, c_on, c_bare, choose_child, set_flag}
use Rattle.c_functions.specs.States.{c_set, c_unset}
use Rattle.c_functions.specs.States.{c_takes, c_mark, c_clear, c_keep, keep_by, IsChild, Shows}
use Rattle.c_functions.proofs.StatesTests.{on_is, bare_is, or_parent_is, or_parent_at, same_self, differ}

-- an OR is a state
pub or_within : (t : Tree) (p : ℕ) → length t.comps ≡ state_count t → is_or (comp_of t p) ≡ true → p < state_count t
unfolding comp_of
or_within t p same o = ⊎_elim (λ lt. lt)
    (λ le. let past : length t.comps ≤ p = omega (arith, le, same) in absurd
    (let leaf = get_or-eq_default t.comps Leaf past in let f = ap is_or leaf in cc))
    (cases_lt p (state_count t))

-- marks that differ at one state
pub record OneMark (s : ℕ) (b : Bool) (m m' : Configuration) : Type 0 where
  pub here : is_on s m' ≡ b
  pub others : (x : ℕ) → x ≢ s → is_on x m' ≡ is_on x m
  pub lasts : (p : ℕ) → last_of p m' ≡ last_of p m

pub one_mark : (s : ℕ) (b : Bool) (m : Configuration) → s < mark_count m → OneMark s b m (with_mark s b m)
one_mark s b m lt = record {
  here = is_on-with_mark_same s b m lt;
  others = λ x ne. is_on-with_mark_other s x b m ne;
  lasts = λ p. last_of-with_mark p s b m;
}

module _ (t : Tree) (n : ℕ → ℕ) (num : Numbers t n) (same : length t.comps ≡ state_count t) (st : States)
    (m : Configuration) (h : Shows t n st m) where
  -- a flag
  pub flag_shows : (s : ℕ) (b : Bool) (m' : Configuration) → OneMark s b m m' → s < state_count t
      → or_parent t (parent_of t s) ≡ None → Shows t n (set_flag s b st) m'
  flag_shows s b m' one lt none = record {
    chosen_length = h.chosen_length;
    flags_length = length-set st.flags s b ∙ h.flags_length;
    kept_length = h.kept_length;
    ons = λ p x up o. h.ons p x up o ∙ sym
        (one.others x (λ e. absurd
        (let k = or_parent_at t x p up o in let g = ap (λ y. or_parent t (parent_of t y)) e in cc)));
    child = λ p o. h.child p o;
    no_choice = λ p o. h.no_choice p o;
    bits = λ x e. bit x e (same_or_other x s);
    no_bits = λ p x e. get_or-set_other st.flags s x b false
        (λ f. absurd (let g = ap (λ y. or_parent t (parent_of t y)) f in cc)) ∙ h.no_bits p x e;
    lasts = λ p. h.lasts p ∙ sym (ap (number n) (one.lasts p));
  }
    where
      bit : (x : ℕ) → or_parent t (parent_of t x) ≡ None → (x ≡ s) ⊎ (x ≢ s) → get_or (slice_set st.flags s b) x false
          ≡ is_on x m'
      bit x e (inl f) =
          ap (λ y. get_or (slice_set st.flags s b) y false) f ∙ get_or-set_same st.flags s b false
          (omega (arith, lt, h.flags_length))
          ∙ sym (ap (λ y. is_on y m') f ∙ one.here)
      bit x e (inr ne) = get_or-set_other st.flags s x b false ne ∙ h.bits x e ∙ sym (one.others x ne)

  -- the number of an OR
  pub choice_shows : (s p i : ℕ) (b : Bool) (m' : Configuration) → OneMark s b m m' → parent_of t s ≡ Some p
      → is_or (comp_of t p) ≡ true → (i == n s) ≡ b
      → ((x : ℕ) → x ≢ s → parent_of t x ≡ Some p → (i == n x) ≡ is_on x m)
      → (i ≡ 0) ⊎ IsChild t n p i → Shows t n (choose_child p i st) m'
  choice_shows s p i b m' one up o is alone what = record {
    chosen_length = length-set st.chosen p i ∙ h.chosen_length;
    flags_length = h.flags_length;
    kept_length = h.kept_length;
    ons = λ q x ux oq. on q x ux oq (same_or_other q p) (same_or_other x s);
    child = λ q oq. kid q oq (same_or_other q p);
    no_choice = λ q oq. get_or-set_other st.chosen p q i 0 (λ f. absurd (let g = ap (λ y. is_or (comp_of t y)) f in cc))
        ∙ h.no_choice q oq;
    bits = λ x e. h.bits x e ∙ sym
        (one.others x (λ f. absurd
        (let k = or_parent_at t s p up o in let g = ap (λ y. or_parent t (parent_of t y)) f in cc)));
    no_bits = λ q x e. h.no_bits q x e;
    lasts = λ q. h.lasts q ∙ sym (ap (number n) (one.lasts q));
  }
    where
      here : get_or (slice_set st.chosen p i) p 0 ≡ i
      here = let lt = or_within t p same o in get_or-set_same st.chosen p i 0 (omega (arith, lt, h.chosen_length))

      at : (q : ℕ) → q ≡ p → get_or (slice_set st.chosen p i) q 0 ≡ i
      at q f = ap (λ y. get_or (slice_set st.chosen p i) y 0) f ∙ here

      on : (q x : ℕ) → parent_of t x ≡ Some q → is_or (comp_of t q) ≡ true → (q ≡ p) ⊎ (q ≢ p) → (x ≡ s) ⊎ (x ≢ s)
          → (get_or (slice_set st.chosen p i) q 0 == n x) ≡ is_on x m'
      on q x ux oq (inl f) (inl g) =
          ap (λ y. y == n x) (at q f) ∙ ap (λ y. i == n y) g ∙ is ∙ sym (ap (λ y. is_on y m') g ∙ one.here)
      on q x ux oq (inl f) (inr ne) =
          ap (λ y. y == n x) (at q f) ∙ alone x ne (ux ∙ ap Some f) ∙ sym (one.others x ne)
      on q x ux oq (inr nq) (inl g) = absurd (nq (let k = ap (parent_of t) g in cc))
      on q x ux oq (inr nq) (inr ne) =
          ap (λ y. y == n x) (get_or-set_other st.chosen p q i 0 nq) ∙ h.ons q x ux oq ∙ sym (one.others x ne)

      kid : (q : ℕ) → is_or (comp_of t q) ≡ true → (q ≡ p) ⊎ (q ≢ p)
          → (get_or (slice_set st.chosen p i) q 0 ≡ 0) ⊎ IsChild t n q (get_or (slice_set st.chosen p i) q 0)
      kid q oq (inl f) =
          subst (λ y. (y ≡ 0) ⊎ IsChild t n q y) (sym (at q f)) (subst (λ y. (i ≡ 0) ⊎ IsChild t n y i) (sym f) what)
      kid q oq (inr ne) =
          subst (λ y. (y ≡ 0) ⊎ IsChild t n q y) (sym (get_or-set_other st.chosen p q i 0 ne)) (h.child q oq)

  module _ (k : IsConsistent t m) where
    -- what `mark` tests
    takes_is : (o : Option ℕ) → c_takes t n o st ≡ parent_takes_child t o m
    takes_is None = refl
    takes_is (Some p) = at (comp_of t p)
      where
        at : (c : Comp) → cond (is_or c) (c_bare t n p st) (c_on t n p st) ≡ takes_child t p c m
        at Leaf = on_is t n st m h p
        at Or = bare_is t n st m h num p
        at And = on_is t n st m h p

    -- marking under an OR that is bare, where no child is active
    bare_at : (c : Comp) (p : ℕ) → is_or c ≡ true → takes_child t p c m ≡ true → is_bare t p m ≡ true
    bare_at Leaf p o e = absurd cc
    bare_at Or p o e = e
    bare_at And p o e = absurd cc

    off_under : (s p x : ℕ) → parent_of t s ≡ Some p → is_or (comp_of t p) ≡ true → parent_takes_child t
        (parent_of t s) m ≡ true
        → parent_of t x ≡ Some p → is_on x m ≡ false
    off_under s p x up o takes ux =
        let e = sym (ap (λ o. parent_takes_child t o m) up) ∙ takes in
        bare_child_off t p x m (bare_at (comp_of t p) p o e) ux (child_within t x p ux)

    set_by : (s : ℕ) (o : Option ℕ) (m' : Configuration) → OneMark s true m m' → s < state_count t
        → or_parent t (parent_of t s) ≡ o → parent_takes_child t (parent_of t s) m ≡ true → Shows t n
        (c_set n s o st) m'
    set_by s None m' one lt e takes = flag_shows s true m' one lt e
    set_by s (Some p) m' one lt e takes =
        let u = or_parent_is t s p e in
        choice_shows s p (n s) true m' one u.0 u.1 (same_self (n s))
        (λ x ne ux. differ (n s) (n x) (λ f. ne (sym (num.apart p s x u.0 ux f))) ∙ sym
        (off_under s p x u.0 u.1 takes ux))
        (inr (record { child = s; up = u.0; is = refl }))

    -- a state that is active already stays so
    stays : (s : ℕ) → is_on s m ≡ true → OneMark s true m m
    stays s on = record { here = on; others = λ x ne. refl; lasts = λ p. refl }

    -- `mark`
    pub mark_shows : (s : ℕ) → s < state_count t → Shows t n (c_mark t n s st)
        (if can_mark t s m then with_mark s true m else m)
    unfolding c_mark can_mark
    mark_shows s lt = at (parent_takes_child t (parent_of t s) m) (is_on s m) refl refl
      where
        at : (b on : Bool) → parent_takes_child t (parent_of t s) m ≡ b → is_on s m ≡ on
            → Shows t n (if c_takes t n (parent_of t s) st then c_set n s (or_parent t (parent_of t s)) st else st)
            (if (not (is_on s m) && parent_takes_child t (parent_of t s) m) then with_mark s true m else m)
        at false true e f =
            subst (λ c. Shows t n (if c then c_set n s (or_parent t (parent_of t s)) st else st)
            (if (not (is_on s m) && parent_takes_child t (parent_of t s) m) then with_mark s true m else m))
            (sym (takes_is (parent_of t s) ∙ e))
            (subst (λ c. Shows t n st
            (if (not c && parent_takes_child t (parent_of t s) m) then with_mark s true m else m)) (sym f) h)
        at false false e f =
            subst (λ c. Shows t n (if c then c_set n s (or_parent t (parent_of t s)) st else st)
            (if (not (is_on s m) && parent_takes_child t (parent_of t s) m) then with_mark s true m else m))
            (sym (takes_is (parent_of t s) ∙ e))
            (subst (λ c. Shows t n st
            (if (not c && parent_takes_child t (parent_of t s) m) then with_mark s true m else m)) (sym f)
            (subst (λ c. Shows t n st (if c then with_mark s true m else m)) (sym e) h))
        at true true e f =
            subst (λ c. Shows t n (if c then c_set n s (or_parent t (parent_of t s)) st else st)
            (if (not (is_on s m) && parent_takes_child t (parent_of t s) m) then with_mark s true m else m))
            (sym (takes_is (parent_of t s) ∙ e))
            (subst (λ c. Shows t n (c_set n s (or_parent t (parent_of t s)) st)
            (if (not c && parent_takes_child t (parent_of t s) m) then with_mark s true m else m)) (sym f)
            (set_by s (or_parent t (parent_of t s)) m (stays s f) lt refl e))
        at true false e f =
            subst (λ c. Shows t n (if c then c_set n s (or_parent t (parent_of t s)) st else st)
            (if (not (is_on s m) && parent_takes_child t (parent_of t s) m) then with_mark s true m else m))
            (sym (takes_is (parent_of t s) ∙ e))
            (subst (λ c. Shows t n (c_set n s (or_parent t (parent_of t s)) st)
            (if (not c && parent_takes_child t (parent_of t s) m) then with_mark s true m else m)) (sym f)
            (subst (λ c. Shows t n (c_set n s (or_parent t (parent_of t s)) st) (if c then with_mark s true m else m))
            (sym e)
            (set_by s (or_parent t (parent_of t s)) (with_mark s true m)
            (one_mark s true m (omega (arith, lt, k.sized))) lt refl e)))

    unset_by : (s : ℕ) (o : Option ℕ) → s < state_count t → or_parent t (parent_of t s) ≡ o → is_on s m ≡ true
        → Shows t n (c_unset s o st) (with_mark s false m)
    unset_by s None lt e on = flag_shows s false (with_mark s false m)
        (one_mark s false m (omega (arith, lt, k.sized))) lt e
    unset_by s (Some p) lt e on =
        let u = or_parent_is t s p e in
        choice_shows s p 0 false (with_mark s false m) (one_mark s false m (omega (arith, lt, k.sized))) u.0 u.1
        (differ 0 (n s) (λ f. num.some s (sym f)))
        (λ x ne ux. differ 0 (n x) (λ f. num.some x (sym f)) ∙ sym (off x ne ux u.0 u.1 (is_on x m) refl))
        (inl refl)
      where
        or_is : (c : Comp) → is_or c ≡ true → c ≡ Or
        or_is Leaf h = absurd cc
        or_is Or h = refl
        or_is And h = absurd cc

        off : (x : ℕ) → x ≢ s → parent_of t x ≡ Some p → parent_of t s ≡ Some p → is_or (comp_of t p) ≡ true →
            (b : Bool)
            → is_on x m ≡ b → is_on x m ≡ false
        off x ne ux us o true f = absurd (ne (k.single p x s (or_is (comp_of t p) o) ux us f on))
        off x ne ux us o false f = f

    -- `clear`
    pub clear_shows : (s : ℕ) → s < state_count t → Shows t n (c_clear t n s st)
        (if is_bare t s m then with_mark s false m else m)
    unfolding c_clear
    clear_shows s lt =
        subst (λ c. Shows t n (if c then c_unset s (or_parent t (parent_of t s)) st else st)
        (if is_bare t s m then with_mark s false m else m))
        (sym (bare_is t n st m h num s)) (at (is_bare t s m) refl)
      where
        at : (b : Bool) → is_bare t s m ≡ b → Shows t n (if b then c_unset s (or_parent t (parent_of t s)) st else st)
            (if b then with_mark s false m else m)
        at true e = unset_by s (or_parent t (parent_of t s)) lt refl (bare_is_on t s m e)
        at false e = h

    -- `keep`
    pub keep_shows : (s p : ℕ) → parent_of t s ≡ Some p → is_or (comp_of t p) ≡ true → Shows t n (c_keep t n s st)
        (with_last t s m)
    unfolding c_keep
    keep_shows s p up o = subst (λ q. Shows t n (keep_by n s q st) (with_last t s m)) (sym up) (record {
      chosen_length = h.chosen_length;
      flags_length = h.flags_length;
      kept_length = length-set st.kept p (n s) ∙ h.kept_length;
      ons = λ q x ux oq. h.ons q x ux oq ∙ sym (is_on-with_last t s x m);
      child = λ q oq. h.child q oq;
      no_choice = λ q oq. h.no_choice q oq;
      bits = λ x e. h.bits x e ∙ sym (is_on-with_last t s x m);
      no_bits = λ q x e. h.no_bits q x e;
      lasts = λ q. at q (same_or_other q p);
    })
      where
        at : (q : ℕ) → (q ≡ p) ⊎ (q ≢ p) → get_or (slice_set st.kept p (n s)) q 0 ≡ number n
            (last_of q (with_last t s m))
        at q (inl f) =
            let lt = or_within t p same o in
            ap (λ y. get_or (slice_set st.kept p (n s)) y 0) f ∙ get_or-set_same st.kept p (n s) 0
            (omega (arith, lt, h.kept_length))
            ∙ sym (ap (λ y. number n (last_of y (with_last t s m))) f ∙ ap (number n)
            (last_of-with_last_same t s p m up (omega (arith, lt, k.entries))))
        at q (inr ne) =
            get_or-set_other st.kept p q (n s) 0 ne ∙ h.lasts q ∙ sym
            (ap (number n) (last_of-with_last_other t s p q m up ne))
