-- Sets of faults that have a first fault, or none.
use Rattle.std.proofs.Common.{◌≡◌, ◌≢◌, ◌⊎◌, ℕ, zero, suc, ◌<◌, false, List, length, Option, Some, None, inl, inr, refl}
use Rattle.std.proofs.Common.{sym, subst, arith}
use Rattle.std.specs.Prelude.{slice_get}
use Rattle.std.proofs.lemmas.Bool.{cases_eq}
use Rattle.chart_tree.specs.declared.first.FaultAt.{FaultAt}
use Rattle.chart_tree.specs.First.{is_before, IsFirst}
use Rattle.checked_chart.specs.declared.parts.Dest.{Dest}
use Rattle.checked_chart.specs.declared.parts.Dest.TheVariants.{State, Junction}
use Rattle.chart_structure.specs.declared.net.Arrow.{Arrow}
use Rattle.chart_structure.proofs.UnionLemmas.{earlier_of, first_union, first_same, not_before_itself}

-- it holds, or it doesn't
abbrev pub Decided : Type 0 → Type 0
Decided A = A ⊎ (A → ⊥)

-- both of two are decided
pub both : (A B : Type 0) → Decided A → Decided B → Decided (A × B)
both A B (inl a) (inl b) = inl (a, b)
both A B (inl a) (inr never) = inr (λ p. never p.1)
both A B (inr never) d = inr (λ p. never p.0)

-- so is the contrary
pub contrary : (A : Type 0) → Decided A → Decided (A → ⊥)
contrary A (inl a) = inr (λ never. never a)
contrary A (inr never) = inl never

-- there is a first one of the faults, or none
abbrev pub HasFirst : (FaultAt → Type 0) → Type 0
HasFirst F = (o : Option FaultAt) × IsFirst F o

-- the same faults
pub like : (F G : FaultAt → Type 0) → ((f : FaultAt) → F f → G f) → ((f : FaultAt) → G f → F f) → HasFirst F → HasFirst G
like F G to from h = (h.0, first_same F G h.0 to from h.1)

-- no faults
pub of_none : (F : FaultAt → Type 0) → ((f : FaultAt) → F f → ⊥) → HasFirst F
of_none F never = (None, never)

-- one fault
pub of_one : (g : FaultAt) → HasFirst (λ f. f ≡ g)
of_one g = (Some g, (refl, λ f e. subst (λ x. is_before x g ≡ false) (sym e) (not_before_itself g)))

-- the faults of two sets
pub of_two : (F G : FaultAt → Type 0) → HasFirst F → HasFirst G → HasFirst (λ f. F f ⊎ G f)
of_two F G a b = (earlier_of a.0 b.0, first_union F G a.0 b.0 a.1 b.1)

-- faults that are there where something holds
pub where_holds : (A : Type 0) (F : FaultAt → Type 0) → Decided A → HasFirst F → HasFirst (λ f. A × F f)
where_holds A F (inl a) h = like F (λ f. A × F f) (λ f x. (a, x)) (λ f x. x.1) h
where_holds A F (inr never) h = of_none (λ f. A × F f) (λ f x. never x.0)

-- one fault of a number below the limit or of the next one
abbrev Below : (ℕ → FaultAt → Type 0) → ℕ → FaultAt → Type 0
Below F n f = (s : ℕ) × (s < n) × F s f

one_more : (F : ℕ → FaultAt → Type 0) (n : ℕ) (f : FaultAt) → Below F n f ⊎ F n f → Below F (suc n) f
one_more F n f (inl h) = let lt = h.1 in (h.0, omega arith, h.2)
one_more F n f (inr h) = (n, omega arith, h)

one_less : (F : ℕ → FaultAt → Type 0) (n : ℕ) (f : FaultAt) → Below F (suc n) f → Below F n f ⊎ F n f
one_less F n f h = at (cases_eq h.0 n)
  where
    at : (h.0 ≡ n) ⊎ (h.0 ≢ n) → Below F n f ⊎ F n f
    at (inl same) = inr (subst (λ s. F s f) same h.2)
    at (inr other) = let lt = h.1 in inl (h.0, omega arith, h.2)

-- the faults of the numbers below a limit
pub of_below : (F : ℕ → FaultAt → Type 0) → ((s : ℕ) → HasFirst (F s)) → (n : ℕ)
    → HasFirst (λ f. (s : ℕ) × (s < n) × F s f)
of_below F each zero = of_none (Below F zero) (λ f h. let lt = h.1 in absurd (omega arith))
of_below F each (suc n) =
    like (λ f. Below F n f ⊎ F n f) (Below F (suc n)) (one_more F n) (one_less F n)
    (of_two (Below F n) (F n) (of_below F each n) (each n))

module _ {X : Type 0} where
  -- the faults of something that may be there
  pub of_some : (o : Option X) (F : X → FaultAt → Type 0) → ((x : X) → HasFirst (F x))
      → HasFirst (λ f. (x : X) × (o ≡ Some x) × F x f)
  of_some None F each = of_none (λ f. (x : X) × (None ≡ Some x) × F x f) (λ f h. absurd (cc h.1))
  of_some (Some y) F each =
      like (F y) (λ f. (x : X) × (Some y ≡ Some x) × F x f) (λ f h. (y, refl, h))
      (λ f h. let e = h.1 in let same : h.0 ≡ y = cc in subst (λ x. F x f) same h.2) (each y)

-- the faults of the transitions of a list, each with its place
pub of_list : (list : List Arrow) (F : ℕ → Arrow → FaultAt → Type 0) → ((i : ℕ) (a : Arrow) → HasFirst (F i a))
    → HasFirst (λ f. (i : ℕ) × (i < length list) × ((a : Arrow) × (slice_get list i ≡ Some a) × F i a f))
of_list list F each =
    of_below (λ i f. (a : Arrow) × (slice_get list i ≡ Some a) × F i a f)
    (λ i. of_some (slice_get list i) (F i) (each i)) (length list)

-- the faults of a state to which a transition leads
pub of_state : (d : Dest) (F : ℕ → FaultAt → Type 0) → ((s : ℕ) → HasFirst (F s))
    → HasFirst (λ f. (s : ℕ) × (d ≡ State s) × F s f)
of_state (State t) F each =
    like (F t) (λ f. (s : ℕ) × (State t ≡ State s) × F s f) (λ f h. (t, refl, h))
    (λ f h. let e = h.1 in let same : h.0 ≡ t = cc in subst (λ s. F s f) same h.2) (each t)
of_state (Junction j) F each = of_none (λ f. (s : ℕ) × (Junction j ≡ State s) × F s f) (λ f h. absurd (cc h.1))
