-- The first of the faults of a list.
use Rattle.std.proofs.Common.{◌≡◌, List, [], ◌∷◌, ◌++◌, Option, Some, None}
use Rattle.std.proofs.Common.{Bool, true, false, refl, inl, inr, subst, cond}
use Rattle.chart_tree.specs.declared.first.FaultAt.{FaultAt}
use Rattle.chart_tree.specs.First.{kept, is_before, IsFirst, IsOne, Passed}
use Rattle.chart_tree.proofs.FirstLemmas.{kept_one, kept_old, kept_new, first_of_passed}
use Rattle.resolved_tree.specs.Faults.{first_with, first_of, IsIn}

pub first_with_both : (found : Option FaultAt) (xs ys : List FaultAt) → first_with found (xs ++ ys) ≡ first_with (first_with found xs) ys
unfolding first_with
first_with_both found [] ys = refl
first_with_both found (x ∷ xs) ys = first_with_both (kept found x) xs ys

-- what is kept is what was found or one of the list, and all of these are passed
pub first_with_one : (F : FaultAt → Type 0) (found : Option FaultAt) (faults : List FaultAt) → IsOne F found
    → ((f : FaultAt) → IsIn faults f → F f) → IsOne F (first_with found faults)
unfolding first_with
first_with_one F found [] one all = one
first_with_one F found (x ∷ xs) one all =
    first_with_one F (kept found x) xs (kept_one F found x one (all x (inl refl))) (λ f h. all f (inr h))

pub first_with_old : (found : Option FaultAt) (faults : List FaultAt) (f : FaultAt) → Passed found f → Passed (first_with found faults) f
unfolding first_with
first_with_old found [] f h = h
first_with_old found (x ∷ xs) f h = first_with_old (kept found x) xs f (kept_old found x f h)

pub first_with_new : (found : Option FaultAt) (faults : List FaultAt) (f : FaultAt) → IsIn faults f → Passed (first_with found faults) f
unfolding first_with
first_with_new found [] f h = absurd h
first_with_new found (x ∷ xs) f (inl e) = subst (λ y. Passed (first_with (kept found x) xs) y) e (first_with_old (kept found x) xs x (kept_new found x))
first_with_new found (x ∷ xs) f (inr h) = first_with_new (kept found x) xs f h

-- the first of a list comes first
pub first_of_first : (faults : List FaultAt) → IsFirst (λ f. IsIn faults f) (first_of faults)
unfolding first_of
first_of_first faults = first_of_passed (λ f. IsIn faults f) (first_with None faults)
    (first_with_one (λ f. IsIn faults f) None faults tt (λ f h. h)) (λ f h. first_with_new None faults f h)

-- ---- no fault

-- a fault that was found is kept, or the other one is
kept_some : (o : Option FaultAt) (g : FaultAt) → kept o g ≡ None → o ≡ None
unfolding kept
kept_some None g e = refl
kept_some (Some f) g e = absurd (either (is_before g f) e)
  where
    either : (b : Bool) → cond b (Some g) (Some f) ≡ None → ⊥
    either true e = cc
    either false e = cc

-- a fault that was found isn't lost
stays : (o : Option FaultAt) (faults : List FaultAt) → first_with o faults ≡ None → o ≡ None
unfolding first_with
stays o [] e = e
stays o (g ∷ faults) e = kept_some o g (stays (kept o g) faults e)

-- where no fault is the first one there is none
pub none_found : (faults : List FaultAt) → first_of faults ≡ None → faults ≡ []
unfolding first_of first_with kept
none_found [] e = refl
none_found (f ∷ faults) e = absurd (let lost = stays (Some f) faults e in cc)
