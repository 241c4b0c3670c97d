-- The data that have a value.
use Rattle.std.proofs.Common.{◌≡◌, ◌≢◌, ℕ, zero, suc, ◌+◌, ◌<◌, Bool, true, false, nat_eq, List, [], ◌∷◌, ◌++◌}
use Rattle.std.proofs.Common.{length, take, replicate, Option, None, refl, sym, ap, ◌∙◌, arith, length-set}
use Rattle.std.proofs.lemmas.Bool.Decides.{nat_tests}
use Rattle.std.proofs.lemmas.List.{set_comm, take_more_set, length-replicate}
use Rattle.std.specs.Prelude.{slice_set}
use Rattle.std.specs.List.{AllByRecursion}
use Rattle.actions.specs.declared.expr.Value.{Value}
use Rattle.event_file.specs.LineValues.{without, AreNamed}

-- ---- values without those of some data

pub length-without : (values : List (Option Value)) (named : List ℕ) → length (without values named) ≡ length values
length-without values [] = refl
length-without values (v ∷ named) = length-without (slice_set values v None) named ∙ length-set values v None

-- one datum more
pub without-more : (values : List (Option Value)) (named : List ℕ) (v : ℕ) → without values (named ++ v ∷ []) ≡ slice_set (without values named) v None
without-more values [] v = refl
without-more values (m ∷ named) v = without-more (slice_set values m None) named v

set_twice : (values : List (Option Value)) (v : ℕ) (x y : Option Value) → slice_set (slice_set values v x) v y ≡ slice_set values v y
set_twice [] v x y = refl
set_twice (z ∷ values) zero x y = refl
set_twice (z ∷ values) (suc v) x y = ap (λ (zs : List (Option Value)). z ∷ zs) (set_twice values v x y)

set_before : (values : List (Option Value)) (named : List ℕ) (v : ℕ) (x : Option Value) (m : ℕ) (same : Bool) → nat_eq m v ≡ same
    → slice_set (without (slice_set (slice_set values m None) v x) named) v None ≡ slice_set (without (slice_set values m None) named) v None
    → slice_set (without (slice_set (slice_set values v x) m None) named) v None ≡ slice_set (without (slice_set values m None) named) v None
set_before values named v x m true e rest =
    let is : m ≡ v = grind (arith, nat_tests) in
    rw is (ap (λ (zs : List (Option Value)). slice_set (without zs named) v None) (set_twice values v x None))
set_before values named v x m false e rest =
    let other : v ≢ m = λ is. grind (arith, nat_tests) in
    ap (λ (zs : List (Option Value)). slice_set (without zs named) v None) (set_comm values v m x None other) ∙ rest

-- a value that is dropped may have been any
without-set : (values : List (Option Value)) (named : List ℕ) (v : ℕ) (x : Option Value)
    → slice_set (without (slice_set values v x) named) v None ≡ slice_set (without values named) v None
without-set values [] v x = set_twice values v x None
without-set values (m ∷ named) v x =
    set_before values named v x m (nat_eq m v) refl (without-set (slice_set values m None) named v x)

set_none : (n v : ℕ) → slice_set (replicate n None) v None ≡ replicate {A = Option Value} n None
set_none zero v = refl
set_none (suc n) zero = refl
set_none (suc n) (suc v) = ap (λ (zs : List (Option Value)). None ∷ zs) (set_none n v)

-- ---- which data have a value

within-more : (n m : ℕ) (named : List ℕ) (v : ℕ) → m ≡ n → AllByRecursion (λ k. k < n) named → v < n → AllByRecursion (λ k. k < m) (named ++ v ∷ [])
within-more n m [] v is all within = (omega arith, tt)
within-more n m (k ∷ named) v is all within = let first = all.0 in (omega arith, within-more n m named v is all.1 within)

within-same : (n m : ℕ) (named : List ℕ) → m ≡ n → AllByRecursion (λ k. k < n) named → AllByRecursion (λ k. k < m) named
within-same n m named is all = rw is all

-- no datum has a value
pub none_named : (values : List (Option Value)) (n : ℕ) → values ≡ replicate n None → AreNamed values [] false
none_named values n are = record {
  within = tt;
  only = λ _. are ∙ ap (λ m. replicate m None) (sym (ap (λ (zs : List (Option Value)). length zs) are ∙ length-replicate n None));
}

-- a datum more has a value
pub named_more : (values : List (Option Value)) (named : List ℕ) (more : Bool) (v : ℕ) (x : Option Value) → AreNamed values named more → v < length values
    → AreNamed (slice_set values v x) (named ++ v ∷ []) more
named_more values named more v x h within = record {
  within = within-more (length values) (length (slice_set values v x)) named v (length-set values v x) h.within within;
  only = λ e. without-more (slice_set values v x) named v ∙ without-set values named v x
      ∙ ap (λ (zs : List (Option Value)). slice_set zs v None) (h.only e) ∙ set_none (length values) v
      ∙ ap (λ n. replicate n None) (sym (length-set values v x));
}

-- the same, where the numbers stand in front of others
pub named_next : (values : List (Option Value)) (named : List ℕ) (count : ℕ) (more : Bool) (v : ℕ) (x : Option Value) → AreNamed values (take count named) more
    → v < length values → count < length named → AreNamed (slice_set values v x) (take (count + 1) (slice_set named count v)) more
named_next values named count more v x h within room =
    let next : take (count + 1) (slice_set named count v) ≡ take count named ++ v ∷ [] = take_more_set named count v room in
    rw next (named_more values (take count named) more v x h within)

-- a datum more may have a value
pub more_named : (values : List (Option Value)) (named : List ℕ) (more : Bool) (v : ℕ) (x : Option Value) → AreNamed values named more
    → AreNamed (slice_set values v x) named true
more_named values named more v x h = record {
  within = within-same (length values) (length (slice_set values v x)) named (length-set values v x) h.within;
  only = λ e. absurd (cc);
}
