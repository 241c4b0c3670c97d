-- Keeping the first of several faults.
use Rattle.std.proofs.Common.{◌≡◌, ℕ, ◌<◌, Bool, true, false, Option, Some, None, refl, arith, cond}
use Rattle.std.specs.Prelude.{◌⊎◌}
use Rattle.std.proofs.lemmas.Bool.Decides.{nat_tests}
use Rattle.chart_tree.specs.Form.{form_number}
use Rattle.chart_tree.specs.declared.first.FaultAt.{FaultAt}
use Rattle.chart_tree.specs.First.{comes_before, is_before, kept, IsFirst, IsOne, Passed}

-- (a, b, c) comes before (x, y, z)
Before : ℕ → ℕ → ℕ → ℕ → ℕ → ℕ → Type 0
Before a b c x y z = (a < x) ⊎ ((a ≡ x) × ((b < y) ⊎ ((b ≡ y) × (c < z))))

comes_before-irreflexive : (a b c : ℕ) → comes_before a b c a b c ≡ false
unfolding comes_before
comes_before-irreflexive a b c = grind (arith, nat_tests)

-- what isn't before the old one isn't before one that is
comes_before-through : (a b c x y z u v w : ℕ) → comes_before a b c x y z ≡ false → comes_before u v w x y z ≡ true → comes_before a b c u v w ≡ false
unfolding comes_before
comes_before-through a b c x y z u v w p q = grind (arith, nat_tests)

kept_at : FaultAt → FaultAt → Bool → Option FaultAt
kept_at f g b = cond b (Some g) (Some f)

pub kept_one : (F : FaultAt → Type 0) (o : Option FaultAt) (g : FaultAt) → IsOne F o → F g → IsOne F (kept o g)
unfolding kept
kept_one F None g a b = b
kept_one F (Some f) g a b = go (is_before g f)
  where
    go : (t : Bool) → IsOne F (cond t (Some g) (Some f))
    go true = b
    go false = a

pub kept_new : (o : Option FaultAt) (g : FaultAt) → Passed (kept o g) g
unfolding kept
kept_new None g = comes_before-irreflexive g.at.line g.at.column (form_number g.kind)
kept_new (Some f) g = go (is_before g f) refl
  where
    go : (t : Bool) → is_before g f ≡ t → Passed (cond t (Some g) (Some f)) g
    go true e = comes_before-irreflexive g.at.line g.at.column (form_number g.kind)
    go false e = e

pub kept_old : (o : Option FaultAt) (g h : FaultAt) → Passed o h → Passed (kept o g) h
unfolding kept
kept_old None g h a = absurd a
kept_old (Some f) g h a = go (is_before g f) refl
  where
    go : (t : Bool) → is_before g f ≡ t → Passed (cond t (Some g) (Some f)) h
    go true e = comes_before-through _ _ _ f.at.line f.at.column (form_number f.kind) _ _ _ a e
    go false e = a

-- where each fault was passed, what was kept is the first
pub first_of_passed : (F : FaultAt → Type 0) (o : Option FaultAt) → IsOne F o → ((f : FaultAt) → F f → Passed o f) → IsFirst F o
first_of_passed F None a b = b
first_of_passed F (Some g) a b = (a, b)
