-- The functions of a plan that are made one after another are those that stay, or aren't to.
use Rattle.std.proofs.Common.{◌≡◌, ◌+◌, ◌<◌, ◌++◌, ℕ, suc, zero, List, [], ◌∷◌, length, slice_index_or, refl, sym, subst}
use Rattle.std.proofs.Common.{◌∙◌, ap, arith}
use Rattle.flow_base.specs.Lists.{items_of}
use Rattle.c_decided.specs.declared.plan.FunctionFacts.{FunctionFacts}
use Rattle.c_decided.specs.declared.plan.Plan.{Plan}
use Rattle.c_decided.specs.Views.{missing}
use Rattle.c_decided_runs.specs.declared.checks.Outside.{Outside}
use Rattle.c_fact_search.specs.Searched.{is_kept, IsPlanOf}

-- each of these stays if that function is to, from a number on
abbrev pub StayFrom : Outside → ℕ → List FunctionFacts → Type 0
StayFrom o n [] = Unit {0}
StayFrom o n (f ∷ fs) = (f.stays ≡ is_kept o n) × StayFrom o (suc n) fs

-- there are so many of them
pub record AreSoMany (o : Outside) (count : ℕ) (fs : List FunctionFacts) : Type 0 where
  pub many : length fs ≡ count
  pub stay : StayFrom o 0 fs

pub none_stay : (o : Outside) (fs : List FunctionFacts) → fs ≡ [] → AreSoMany o 0 fs
none_stay o [] e = record { many = refl; stay = tt }
none_stay o (f ∷ fs) e = absurd cc

-- one more
stay-more : (o : Outside) (n m : ℕ) (fs : List FunctionFacts) (f : FunctionFacts) → StayFrom o n fs
    → m ≡ n + length fs → f.stays ≡ is_kept o m → StayFrom o n (fs ++ f ∷ [])
stay-more o n m [] f h e is =
    let at : m ≡ n = omega (arith, e) in
    (subst (λ (m : ℕ). f.stays ≡ is_kept o m) at is, tt)
stay-more o n m (x ∷ fs) f h e is = (h.0, stay-more o (suc n) m fs f h.1 (omega (arith, e)) is)

length-more : (fs : List FunctionFacts) (f : FunctionFacts) → length (fs ++ f ∷ []) ≡ suc (length fs)
length-more [] f = refl
length-more (x ∷ fs) f = ap suc (length-more fs f)

pub one_more_stays : (o : Outside) (n : ℕ) (fs new : List FunctionFacts) (f : FunctionFacts) → AreSoMany o n fs
    → f.stays ≡ is_kept o n → new ≡ fs ++ f ∷ [] → AreSoMany o (n + 1) new
one_more_stays o n fs new f h is e =
    subst (λ (new : List FunctionFacts). AreSoMany o (n + 1) new) (sym e) (record {
      many = let more = length-more fs f in omega (arith, more, h.many);
      stay = stay-more o 0 n fs f h.stay (omega (arith, h.many)) is;
    })

stays-at : (o : Outside) (n m p : ℕ) (fs : List FunctionFacts) → StayFrom o n fs → p < length fs → m ≡ n + p
    → (slice_index_or fs p missing).stays ≡ is_kept o m
stays-at o n m p [] h less e = absurd (omega (arith, less))
stays-at o n m zero (f ∷ fs) h less e =
    let at : n ≡ m = omega (arith, e) in
    subst (λ (n : ℕ). f.stays ≡ is_kept o n) at h.0
stays-at o n m (suc p) (f ∷ fs) h less e =
    stays-at o (suc n) m p fs h.1 (omega (arith, less)) (omega (arith, e))

pub plan_is_right : (o : Outside) (count : ℕ) (fs : List FunctionFacts) (plan : Plan) → AreSoMany o count fs
    → items_of plan.functions ≡ fs → IsPlanOf count o plan
plan_is_right o count fs plan h e = record {
  many = ap length e ∙ h.many;
  stays = λ p less.
      ap (λ (fs : List FunctionFacts). (slice_index_or fs p missing).stays) e
      ∙ stays-at o 0 p p fs h.stay (subst (λ n. p < n) (sym h.many) less) (omega arith);
}
