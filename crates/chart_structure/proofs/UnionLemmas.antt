-- The first fault of two sets of faults together.
use Rattle.std.proofs.Common.{◌≡◌, ◌⊎◌, ℕ, Bool, true, false, Option, Some, None, refl, arith, inl, inr, ⊎_elim, cond}
use Rattle.std.proofs.lemmas.Bool.Decides.{nat_tests}
use Rattle.chart_tree.specs.Form.{form_number}
use Rattle.chart_tree.specs.declared.first.FaultAt.{FaultAt}
use Rattle.chart_tree.specs.First.{comes_before, is_before, kept, IsFirst}

comes_before-irreflexive : (a b c : ℕ) → comes_before a b c a b c ≡ false
unfolding comes_before
comes_before-irreflexive a b c = grind (arith, nat_tests)

-- what isn't before the old one isn't before one that is
comes_before-through : (a b c x y z u v w : ℕ) → comes_before a b c x y z ≡ false → comes_before u v w x y z ≡ true
    → comes_before a b c u v w ≡ false
unfolding comes_before
comes_before-through a b c x y z u v w p q = grind (arith, nat_tests)

-- what isn't before one that isn't before a third one isn't before the third one
comes_before-after : (a b c x y z u v w : ℕ) → comes_before a b c u v w ≡ false → comes_before u v w x y z ≡ false
    → comes_before a b c x y z ≡ false
unfolding comes_before
comes_before-after a b c x y z u v w p q = grind (arith, nat_tests)

-- no fault is before itself
pub not_before_itself : (f : FaultAt) → is_before f f ≡ false
not_before_itself f = comes_before-irreflexive f.at.line f.at.column (form_number f.kind)

-- the earlier of two faults
abbrev pub earlier_of : Option FaultAt → Option FaultAt → Option FaultAt
earlier_of a None = a
earlier_of a (Some g) = kept a g

-- the first of two sets is the earlier of their first ones
pub first_union : (F G : FaultAt → Type 0) (a b : Option FaultAt) → IsFirst F a → IsFirst G b
    → IsFirst (λ f. F f ⊎ G f) (earlier_of a b)
unfolding kept
first_union F G None None p q = λ f h. ⊎_elim (p f) (q f) h
first_union F G (Some x) None p q = (inl p.0, λ f h. ⊎_elim (p.1 f) (λ y. absurd (q f y)) h)
first_union F G None (Some g) p q = (inr q.0, λ f h. ⊎_elim (λ x. absurd (p f x)) (q.1 f) h)
first_union F G (Some x) (Some g) p q = go (is_before g x) refl
  where
    go : (t : Bool) → is_before g x ≡ t → IsFirst (λ f. F f ⊎ G f) (cond t (Some g) (Some x))
    go true e = (
      inr q.0,
      λ f h.
          ⊎_elim (λ y. comes_before-through _ _ _ x.at.line x.at.column (form_number x.kind) _ _ _ (p.1 f y) e) (q.1 f) h,
    )
    go false e = (
      inl p.0,
      λ f h.
          ⊎_elim (p.1 f)
          (λ y. comes_before-after _ _ _ _ _ _ g.at.line g.at.column (form_number g.kind) (q.1 f y) e) h,
    )

-- sets with the same faults have the same first one
pub first_same : (F G : FaultAt → Type 0) (o : Option FaultAt) → ((f : FaultAt) → F f → G f) → ((f : FaultAt) → G f → F f)
    → IsFirst F o → IsFirst G o
first_same F G None to from p = λ f h. p f (from f h)
first_same F G (Some g) to from p = (to g p.0, λ f h. p.1 f (from f h))
