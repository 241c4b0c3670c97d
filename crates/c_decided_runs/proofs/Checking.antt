-- A plan that is checked fits together between events.
use Rattle.std.proofs.Common.{◌≡◌, ◌≢◌, ◌<◌, ◌≤◌, nat_le, ℕ, suc, zero, ℤ, Bool, true, false, cond, List, [], ◌∷◌, length}
use Rattle.std.proofs.Common.{map, Option, Some, None, slice_get, slice_set, refl, sym, ap, ◌∙◌, subst, arith}
use Rattle.std.proofs.lemmas.Bool.Decides.{nat_tests}
use Rattle.c_subset.specs.declared.trees.Width.{Width}
use Rattle.c_subset.specs.declared.trees.CType.{CType}
use Rattle.c_subset.specs.declared.trees.CType.TheVariants.{Unsigned}
use Rattle.c_subset.specs.Meaning.{CValue, Object, Store}
use Rattle.c_subset.specs.Running.{object_of, with_field}
use Rattle.c_functions.specs.Plans.{Shape, init_function, start_function, react_function}
use Rattle.c_functions.specs.Starts.{first_values}
use Rattle.c_facts.specs.Known.{Sets, Anything, OneOf, Row, Known, Never, Rows, field_of, number_at, number_of}
use Rattle.c_facts.specs.declared.known.Place.{Place}
use Rattle.c_facts.specs.Known.{is_number, is_at, HasSets, HoldRows, Hold, object}
use Rattle.c_facts.proofs.Holding.{covers-holds}
use Rattle.c_decided.specs.Decided.{Plan}
use Rattle.c_decided.proofs.Numbering.{both-true, type-is}
use Rattle.c_decided_runs.specs.Runs.{where_true, IsBetween}
use Rattle.c_decided_runs.specs.Checks.{is_anything, is_type, rows_typed, is_typed, rows_above, is_above, ShapeIsChecked}

-- ---- types

types-are : (s : Store) (w : Width) (f : ℕ) (os : List Object)
    → is_type (Unsigned w) (slice_get (map (λ (o : Object). o.type) os) f) ≡ true
    → (v : Option ℤ) × (slice_get os f ≡ Some (object w v))
types-are s w f [] e = absurd cc
types-are s w zero (o ∷ os) e =
    (o.value, ap (λ (t : CType). Some (record { type = t; value = o.value })) (type-is o.type (Unsigned w) e))
types-are s w (suc f) (o ∷ os) e = types-are s w f os e

rows-typed : (s : Store) (types : List CType) → map (λ (o : Object). o.type) s.fields ≡ types → (rs : List Row)
    → rows_typed types rs ≡ true → HoldRows s rs
rows-typed s types is [] e = tt
rows-typed s types is (r ∷ rs) e =
    let one = both-true (is_anything r.sets)
    (cond (is_type (Unsigned r.width) (slice_get types (field_of r.place))) (rows_typed types rs) false) e in
    let two = both-true (is_type (Unsigned r.width) (slice_get types (field_of r.place))) (rows_typed types rs) one.1 in
    let there = types-are s r.width (field_of r.place) s.fields
    (ap (λ (ts : List CType). is_type (Unsigned r.width) (slice_get ts (field_of r.place))) is ∙ two.0) in (
      record { value = there.0; there = there.1 },
      (any r.sets one.0, rows-typed s types is rs two.1),
    )
  where
    any : (x : Sets) → is_anything x ≡ true → HasSets s r.place (is_at s r.home) x
    any Anything e = tt
    any (OneOf on off) e = absurd cc

known-typed : (s : Store) (types : List CType) → map (λ (o : Object). o.type) s.fields ≡ types → (k : Known)
    → is_typed types k ≡ true → Hold s k
known-typed s types is Never e = absurd cc
known-typed s types is (Rows rs) e = rows-typed s types is rs e

-- ---- data

module _ (n : ℕ) (s : Store) (v : ℕ) (x : CValue) (below : v < n) where
  far : (f : ℕ) → nat_le n f ≡ true → f ≢ v
  far f e is = absurd (omega (arith, le f e, is, below))
    where
      le : (f : ℕ) → nat_le n f ≡ true → n ≤ f
      le f e = grind (arith, nat_tests)

  same-entry : {A : Type 0} (xs : List A) (f k : ℕ) (y : A) → k ≢ f → slice_get (slice_set xs f y) k ≡ slice_get xs k
  same-entry [] f k y n = refl
  same-entry (x ∷ xs) zero zero y n = absurd (n refl)
  same-entry (x ∷ xs) zero (suc k) y n = refl
  same-entry (x ∷ xs) (suc f) zero y n = refl
  same-entry (x ∷ xs) (suc f) (suc k) y n = same-entry xs f k y (λ e. n (ap suc e))

  same-field : (f : ℕ) → nat_le n f ≡ true → slice_get (with_field s v x).fields f ≡ slice_get s.fields f
  same-field f e = same-entry s.fields v f (object_of x) (far f e)

  same-number : (p : Place) → nat_le n (field_of p) ≡ true → number_at (with_field s v x) p ≡ number_at s p
  same-number p e =
      ap (λ (o : Option Object). in-object o) (same-field (field_of p) e)
    where
      in-object : Option Object → Option ℕ
      in-object None = None
      in-object (Some o) = number_of p o.type o.value

  rows-above : (rs : List Row) → rows_above n rs ≡ true → HoldRows s rs → HoldRows (with_field s v x) rs
  rows-above [] e h = tt
  rows-above (r ∷ rs) e h =
      let one = both-true (nat_le n (field_of r.place))
      (cond (nat_le n (field_of r.home.place)) (rows_above n rs) false) e in
      let two = both-true (nat_le n (field_of r.home.place)) (rows_above n rs) one.1 in
      let home : is_at (with_field s v x) r.home ≡ is_at s r.home =
      ap (λ (o : Option ℕ). is_number o r.home.value) (same-number r.home.place two.0) in (
        record { value = h.0.value; there = same-field (field_of r.place) one.0 ∙ h.0.there },
        (
          subst (λ (b : Bool). HasSets (with_field s v x) r.place b r.sets) (sym home)
              (sets r.place (is_at s r.home) r.sets one.0 h.1.0),
          rows-above rs two.1 h.1.1,
        ),
      )
    where
      sets : (p : Place) (b : Bool) (z : Sets) → nat_le n (field_of p) ≡ true → HasSets s p b z
          → HasSets (with_field s v x) p b z
      sets p b Anything e h = tt
      sets p b (OneOf on off) e h =
          record { number = h.number; there = same-number p e ∙ h.there; among = h.among }

  known-above : (k : Known) → is_above n k ≡ true → Hold s k → Hold (with_field s v x) k
  known-above Never e h = h
  known-above (Rows rs) e h = rows-above rs e h

-- ---- the plan

pub checked-between : (K : Shape) (P : Plan) → ShapeIsChecked K P → IsBetween K P
checked-between K P is = record {
  unset = λ s shape.
      known-typed s (map (λ (x : CValue). x.type) (first_values K)) shape.fields (P.begins (init_function K)) is.unset;
  first = λ s h.
      covers-holds s (where_true (P.leaves (init_function K))) (P.begins (start_function K)) is.first h;
  started = λ s h.
      covers-holds s (where_true (P.leaves (start_function K))) (P.begins (react_function K)) is.started h;
  reacted = λ s h.
      covers-holds s (where_true (P.leaves (react_function K))) (P.begins (react_function K)) is.reacted h;
  given = λ s v x below h. known-above (length K.names.vars) s v x below (P.begins (start_function K)) is.given h;
  given_again = λ s v x below h.
      known-above (length K.names.vars) s v x below (P.begins (react_function K)) is.given_again h;
  start_stays = is.start_stays;
  react_stays = is.react_stays;
}
