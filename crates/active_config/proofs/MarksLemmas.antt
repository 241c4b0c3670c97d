-- Marks, one at a time, and what keeps them consistent.
use Rattle.std.proofs.Common.{◌≡◌, ◌≢◌, ℕ, zero, suc, ◌+◌, ◌≤◌, ◌<◌, List, ◌∷◌, length, Option, Some, None, Bool}
use Rattle.std.proofs.Common.{true, false, cond, not, ◌&&◌, ◌||◌, refl, sym, ap, ◌∙◌, subst, ⊎_elim, arith, get_or}
use Rattle.std.proofs.Common.{get_or-set_other, get_or-set_same, length-set, inl, inr}
use Rattle.std.proofs.lemmas.Bool.{cases_lt, and_parts, or_parts, not-true}
use Rattle.std.proofs.Math.ListN.{get_or-eq_default}
use Rattle.std.proofs.lemmas.List.{length-replicate, get_or-replicate}
use Rattle.std.specs.Prelude.{◌⊎◌, replicate, IfSome}
use Rattle.std.specs.List.{filter, list_any, range_with_len}
use Rattle.active_config.specs.declared.comp.Comp.{Comp}
use Rattle.active_config.specs.declared.comp.Comp.TheVariants.{Leaf, Or, And}
use Rattle.active_config.specs.Tree.{Tree, state_count, parent_of, comp_of, is_child, children_below, children_of}
use Rattle.active_config.specs.Marks.{mark_count, Configuration, is_on, is_bare, no_marks, with_mark}
use Rattle.active_config.specs.Marks.{takes_child, parent_takes_child, can_mark, last_of, remember, with_last}
use Rattle.active_config.specs.Marks.{IsConsistent}
use Rattle.active_config.proofs.ParentLemmas.{child_within}
use Rattle.active_config.proofs.ChildLemmas.{child_of_parent}
use Rattle.active_config.proofs.TableLemmas.{same_or_other}

-- where none of the kept ones passes, none of the others does
any_kept : (p : ℕ → Bool) (x : ℕ) (ys : List ℕ) (b : Bool) → list_any p (cond b (x ∷ ys) ys) ≡ false
    → list_any p ys ≡ false
any_kept p x ys true e = (or_parts (p x) (list_any p ys) e).1
any_kept p x ys false e = e

-- nor does the first, where it is kept
any_head : (p : ℕ → Bool) (x : ℕ) (ys : List ℕ) (b : Bool) → b ≡ true → list_any p (cond b (x ∷ ys) ys) ≡ false
    → p x ≡ false
any_head p x ys true h e = (or_parts (p x) (list_any p ys) e).0
any_head p x ys false h e = absurd cc

-- where none of the numbers that pass q passes p, a number that passes q doesn't
pub none_in_range : (p q : ℕ → Bool) (a n x : ℕ) → a ≤ x → x < a + n → q x ≡ true
    → list_any p (filter q (range_with_len a n)) ≡ false → p x ≡ false
none_in_range p q a zero x le lt h e = absurd (omega arith)
none_in_range p q a (suc n) x le lt h e = at (same_or_other a x) (none_in_range p q (a + 1) n x)
  where
    at : (a ≡ x) ⊎ (a ≢ x)
        → (a + 1 ≤ x → x < a + 1 + n → q x ≡ true → list_any p (filter q (range_with_len (a + 1) n)) ≡ false
        → p x ≡ false)
        → p x ≡ false
    at (inl s) rest =
        subst (λ y. p y ≡ false) s (any_head p a (filter q (range_with_len (a + 1) n)) (q a) (subst (λ y. q y ≡ true) (sym s) h) e)
    at (inr ne) rest = rest (omega arith) (omega arith) h (any_kept p a (filter q (range_with_len (a + 1) n)) (q a) e)

-- a bare state is active
pub bare_is_on : (t : Tree) (s : ℕ) (m : Configuration) → is_bare t s m ≡ true → is_on s m ≡ true
unfolding is_bare
bare_is_on t s m e = (and_parts (is_on s m) _ e).0

-- no child of a bare state is active
pub bare_child_off : (t : Tree) (s x : ℕ) (m : Configuration) → is_bare t s m ≡ true → parent_of t x ≡ Some s
    → x < state_count t → is_on x m ≡ false
unfolding is_bare children_of children_below
bare_child_off t s x m e up lt =
    none_in_range (λ x. is_on x m) (is_child t s) 0 (state_count t) x (omega arith) (omega arith) (child_of_parent t s x up)
    (not-true _ (and_parts (is_on s m) _ e).1)

-- a state that was marked or cleared
pub is_on-with_mark_same : (s : ℕ) (b : Bool) (m : Configuration) → s < mark_count m → is_on s (with_mark s b m) ≡ b
unfolding is_on with_mark mark_count
is_on-with_mark_same s b m lt = get_or-set_same m.flags s b false lt

-- every other state stays
pub is_on-with_mark_other : (s x : ℕ) (b : Bool) (m : Configuration) → x ≢ s → is_on x (with_mark s b m) ≡ is_on x m
unfolding is_on with_mark
is_on-with_mark_other s x b m ne = get_or-set_other m.flags s x b false ne

pub mark_count-with_mark : (s : ℕ) (b : Bool) (m : Configuration) → mark_count (with_mark s b m) ≡ mark_count m
unfolding with_mark mark_count
mark_count-with_mark s b m = length-set m.flags s b

-- marks and what is remembered don't touch each other
pub last_of-with_mark : (p s : ℕ) (b : Bool) (m : Configuration) → last_of p (with_mark s b m) ≡ last_of p m
unfolding last_of with_mark
last_of-with_mark p s b m = refl

last-with_mark-length : (s : ℕ) (b : Bool) (m : Configuration) → length (with_mark s b m).last ≡ length m.last
unfolding with_mark
last-with_mark-length s b m = refl

pub is_on-with_last : (t : Tree) (s x : ℕ) (m : Configuration) → is_on x (with_last t s m) ≡ is_on x m
unfolding is_on with_last
is_on-with_last t s x m = refl

pub is_bare-with_last : (t : Tree) (s x : ℕ) (m : Configuration) → is_bare t x (with_last t s m) ≡ is_bare t x m
unfolding is_bare is_on with_last
is_bare-with_last t s x m = refl

mark_count-with_last : (t : Tree) (s : ℕ) (m : Configuration) → mark_count (with_last t s m) ≡ mark_count m
unfolding mark_count with_last
mark_count-with_last t s m = refl

-- where a parent is known, it alone remembers another child
pub last_of-with_last_same : (t : Tree) (s p : ℕ) (m : Configuration) → parent_of t s ≡ Some p → p < length m.last
    → last_of p (with_last t s m) ≡ Some s
unfolding last_of with_last
last_of-with_last_same t s p m up lt =
    ap (λ o. get_or (remember o s m.last) p None) up ∙ get_or-set_same m.last p (Some s) None lt

pub last_of-with_last_other : (t : Tree) (s p q : ℕ) (m : Configuration) → parent_of t s ≡ Some p → q ≢ p
    → last_of q (with_last t s m) ≡ last_of q m
unfolding last_of with_last
last_of-with_last_other t s p q m up ne =
    ap (λ o. get_or (remember o s m.last) q None) up ∙ get_or-set_other m.last p q (Some s) None ne

-- a number past the list remembers nothing
last_of_past : (p : ℕ) (m : Configuration) → length m.last ≤ p → last_of p m ≡ None
unfolding last_of
last_of_past p m le = get_or-eq_default m.last None le

-- what remembers a child after a change that keeps the count has an entry before it
last_of_within : (p : ℕ) (m after : Configuration) (x : ℕ) → length after.last ≡ length m.last → last_of p after ≡ Some x
    → p < length m.last
last_of_within p m after x same e =
    ⊎_elim (λ lt. lt) (λ le. absurd (let none = last_of_past p after (omega (arith, le, same)) in cc))
    (cases_lt p (length m.last))

-- keeping leaves the count of entries
last-with_last-length : (t : Tree) (s p : ℕ) (m : Configuration) → parent_of t s ≡ Some p
    → length (with_last t s m).last ≡ length m.last
unfolding with_last
last-with_last-length t s p m up = ap (λ o. length (remember o s m.last)) up ∙ length-set m.last p (Some s)

-- a number past the list is not active
pub on_past : (x : ℕ) (m : Configuration) → mark_count m ≤ x → is_on x m ≡ false
unfolding is_on mark_count
on_past x m le = get_or-eq_default m.flags false le

-- what is active has a flag
on_within : (x : ℕ) (m : Configuration) → is_on x m ≡ true → x < mark_count m
on_within x m e = ⊎_elim (λ lt. lt) (λ le. absurd (let f = on_past x m le in cc)) (cases_lt x (mark_count m))

-- a state that is active after a mark was set is that state, or was active before
pub on_after_mark : (s x : ℕ) (m : Configuration) → is_on x (with_mark s true m) ≡ true → (x ≡ s) ⊎ (is_on x m ≡ true)
on_after_mark s x m e = at (same_or_other x s)
  where
    at : (x ≡ s) ⊎ (x ≢ s) → (x ≡ s) ⊎ (is_on x m ≡ true)
    at (inl k) = inl k
    at (inr ne) = inr (sym (is_on-with_mark_other s x true m ne) ∙ e)

-- a state that is active after another was cleared is another one, and was active
pub on_after_clear : (s x : ℕ) (m : Configuration) → s < mark_count m → is_on x (with_mark s false m) ≡ true
    → (x ≢ s) × (is_on x m ≡ true)
on_after_clear s x m lt e = at (same_or_other x s)
  where
    at : (x ≡ s) ⊎ (x ≢ s) → (x ≢ s) × (is_on x m ≡ true)
    at (inl k) =
        absurd (let f = is_on-with_mark_same s false m lt in let g = ap (λ y. is_on y (with_mark s false m)) k in cc)
    at (inr ne) = (ne, sym (is_on-with_mark_other s x false m ne) ∙ e)

-- a state that takes a child is active
takes_on : (t : Tree) (p : ℕ) (c : Comp) (m : Configuration) → takes_child t p c m ≡ true → is_on p m ≡ true
takes_on t p Leaf m e = e
takes_on t p Or m e = bare_is_on t p m e
takes_on t p And m e = e

-- an OR that takes a child is bare
takes_bare : (t : Tree) (p : ℕ) (c : Comp) (m : Configuration) → takes_child t p c m ≡ true → c ≡ Or
    → is_bare t p m ≡ true
takes_bare t p Leaf m e h = absurd cc
takes_bare t p Or m e h = e
takes_bare t p And m e h = absurd cc

-- a state that can be marked is not active
pub can_mark_off : (t : Tree) (s : ℕ) (m : Configuration) → can_mark t s m ≡ true → is_on s m ≡ false
unfolding can_mark
can_mark_off t s m e = not-true _ (and_parts (not (is_on s m)) _ e).0

-- and its parent takes it
pub can_mark_parent : (t : Tree) (s p : ℕ) (m : Configuration) → can_mark t s m ≡ true → parent_of t s ≡ Some p
    → takes_child t p (comp_of t p) m ≡ true
unfolding can_mark
can_mark_parent t s p m e up = sym (ap (λ o. parent_takes_child t o m) up) ∙ (and_parts (not (is_on s m)) _ e).1

module _ (t : Tree) (m : Configuration) (k : IsConsistent t m) where
  -- what is active is a state
  state_of : (x : ℕ) → is_on x m ≡ true → x < state_count t
  state_of x e = omega (arith, on_within x m e, k.sized)

  -- no sibling of a state that can be marked under an OR is active
  pub alone : (s x p : ℕ) → can_mark t s m ≡ true → comp_of t p ≡ Or → parent_of t s ≡ Some p → parent_of t x ≡ Some p
      → is_on x m ≡ true → ⊥
  alone s x p can o up same on =
      let bare = takes_bare t p (comp_of t p) m (can_mark_parent t s p m can up) o in
      let off = bare_child_off t p x m bare same (state_of x on) in
      cc

  -- marking keeps marks consistent
  pub marked : (s : ℕ) → can_mark t s m ≡ true → IsConsistent t (with_mark s true m)
  marked s can = record {
    sized = mark_count-with_mark s true m ∙ k.sized;
    parents = λ x p up on. ⊎_elim
        (λ e. kept p (takes_on t p (comp_of t p) m (can_mark_parent t s p m can (ap (parent_of t) (sym e) ∙ up))))
        (λ was. kept p (k.parents x p up was))
        (on_after_mark s x m on);
    single = λ p x y o ux uy ox oy. two p x y o ux uy (on_after_mark s x m ox) (on_after_mark s y m oy);
    entries = last-with_mark-length s true m ∙ k.entries;
    lasts = λ p x e. k.lasts p x (sym (last_of-with_mark p s true m) ∙ e);
  }
    where
      kept : (p : ℕ) → is_on p m ≡ true → is_on p (with_mark s true m) ≡ true
      kept p on =
          let ne : p ≢ s = λ e. absurd (let f = can_mark_off t s m can in let g = ap (λ x. is_on x m) e in cc) in
          is_on-with_mark_other s p true m ne ∙ on

      two : (p x y : ℕ) → comp_of t p ≡ Or → parent_of t x ≡ Some p → parent_of t y ≡ Some p
          → (x ≡ s) ⊎ (is_on x m ≡ true) → (y ≡ s) ⊎ (is_on y m ≡ true) → x ≡ y
      two p x y o ux uy (inl e) (inl f) = e ∙ sym f
      two p x y o ux uy (inl e) (inr g) = absurd (alone s y p can o (ap (parent_of t) (sym e) ∙ ux) uy g)
      two p x y o ux uy (inr g) (inl f) = absurd (alone s x p can o (ap (parent_of t) (sym f) ∙ uy) ux g)
      two p x y o ux uy (inr g) (inr h) = k.single p x y o ux uy g h

  -- clearing a bare state keeps marks consistent
  pub cleared : (s : ℕ) → is_bare t s m ≡ true → IsConsistent t (with_mark s false m)
  cleared s bare = record {
    sized = mark_count-with_mark s false m ∙ k.sized;
    parents = λ x p up on. let was = on_after_clear s x m lt on in
        let ne : p ≢ s = λ e. absurd (let off = bare_child_off t s x m bare (up ∙ ap Some e) (state_of x was.1) in let on' = was.1 in cc) in
        is_on-with_mark_other s p false m ne ∙ k.parents x p up was.1;
    single =
        λ p x y o ux uy ox oy. k.single p x y o ux uy (on_after_clear s x m lt ox).1 (on_after_clear s y m lt oy).1;
    entries = last-with_mark-length s false m ∙ k.entries;
    lasts = λ p x e. k.lasts p x (sym (last_of-with_mark p s false m) ∙ e);
  }
    where
      lt : s < mark_count m
      lt = on_within s m (bare_is_on t s m bare)

  -- a child of an OR is remembered
  pub remembered : (s p : ℕ) → parent_of t s ≡ Some p → comp_of t p ≡ Or → IsConsistent t (with_last t s m)
  remembered s p up is_or = record {
    sized = mark_count-with_last t s m ∙ k.sized;
    parents = λ x q ux on. is_on-with_last t s q m ∙ k.parents x q ux (sym (is_on-with_last t s x m) ∙ on);
    single =
        λ q x y o ux uy ox oy. k.single q x y o ux uy (sym (is_on-with_last t s x m) ∙ ox) (sym (is_on-with_last t s y m) ∙ oy);
    entries = last-with_last-length t s p m up ∙ k.entries;
    lasts = λ q x e. at q x e (same_or_other q p);
  }
    where
      some_is : (x y : ℕ) → Some x ≡ Some y → x ≡ y
      some_is x y e = cc

      at : (q x : ℕ) → last_of q (with_last t s m) ≡ Some x → (q ≡ p) ⊎ (q ≢ p)
          → (comp_of t q ≡ Or) × (parent_of t x ≡ Some q)
      at q x e (inl f) =
          let e' : last_of p (with_last t s m) ≡ Some x = ap (λ y. last_of y (with_last t s m)) (sym f) ∙ e in
          let there = last_of_within p m (with_last t s m) x (last-with_last-length t s p m up) e' in
          let g : s ≡ x = some_is s x (sym (last_of-with_last_same t s p m up there) ∙ e') in
          (ap (comp_of t) f ∙ is_or, ap (parent_of t) (sym g) ∙ up ∙ ap Some (sym f))
      at q x e (inr ne) = k.lasts q x (sym (last_of-with_last_other t s p q m up ne) ∙ e)

-- no state is active in the empty set
pub none_on : (t : Tree) (x : ℕ) → is_on x (no_marks t) ≡ false
unfolding is_on no_marks
none_on t x = ⊎_elim
    (λ lt. get_or-replicate (state_count t) x false false lt)
    (λ le. get_or-eq_default (replicate (state_count t) false) false (omega (arith, length-replicate (state_count t) false)))
    (cases_lt x (state_count t))

-- and none remembers a child
pub none_last : (t : Tree) (p : ℕ) → last_of p (no_marks t) ≡ None
unfolding last_of no_marks
none_last t p = ⊎_elim
    (λ lt. get_or-replicate (state_count t) p None None lt)
    (λ le. get_or-eq_default (replicate (state_count t) None) None (omega (arith, length-replicate {A = Option ℕ} (state_count t) None)))
    (cases_lt p (state_count t))

none_entries : (t : Tree) → length (no_marks t).last ≡ state_count t
unfolding no_marks
none_entries t = length-replicate (state_count t) None

none_count : (t : Tree) → mark_count (no_marks t) ≡ state_count t
unfolding mark_count no_marks
none_count t = length-replicate (state_count t) false

-- so the empty set is consistent
pub no_marks_consistent : (t : Tree) → IsConsistent t (no_marks t)
no_marks_consistent t = record {
  sized = none_count t;
  parents = λ s p up on. absurd (let off = none_on t s in cc);
  single = λ p x y o ux uy ox oy. absurd (let off = none_on t x in cc);
  entries = none_entries t;
  lasts = λ p x e. absurd (let none = none_last t p in cc);
}

-- what an OR remembers is one of its children
pub last_within : (t : Tree) (p : ℕ) (m : Configuration) (o : Option ℕ) → IsConsistent t m → o ≡ last_of p m
    → IfSome o (λ x. (parent_of t x ≡ Some p) × (x < state_count t))
last_within t p m None k e = tt
last_within t p m (Some x) k e = let up = (k.lasts p x (sym e)).1 in (up, child_within t x p up)

-- the test that callers of `mark` make
pub can_mark_where : (t : Tree) (s : ℕ) (m : Configuration) (on takes : Bool) → on ≡ is_on s m → on ≡ false
    → takes ≡ parent_takes_child t (parent_of t s) m → takes ≡ true → can_mark t s m ≡ true
unfolding can_mark
can_mark_where t s m on takes e off f is =
    ap (λ b. not b && parent_takes_child t (parent_of t s) m) (sym e ∙ off) ∙ sym f ∙ is
