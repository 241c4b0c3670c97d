-- Places, and the numbers at them.
use Rattle.std.specs.Option.{option_and_then}
use Rattle.std.proofs.Common.{◌≡◌, ◌^◌, nat_eq, nat_lt, ℕ, ℤ, pos, negsuc, Bool, true, false, cond, List, [], ◌∷◌}
use Rattle.std.proofs.Common.{Option, Some, None, slice_get, refl, sym, ap, ◌∙◌, subst}
use Rattle.c_subset.specs.declared.trees.Width.{Width}
use Rattle.c_subset.specs.declared.trees.Width.TheVariants.{W8, W16, W32, W64, W128}
use Rattle.c_subset.specs.declared.trees.CType.{CType}
use Rattle.c_subset.specs.declared.trees.CType.TheVariants.{Unsigned}
use Rattle.c_subset.specs.Meaning.{bits, Object, Store}
use Rattle.c_facts.specs.Known.{Place, Home, Row, field_of, number_in, number_of, number_at, is_number, is_at, object}
use Rattle.c_facts.specs.Known.{IsThere, type_at, HoldRows}
use Rattle.c_facts.specs.declared.known.Place.TheVariants as places
use Rattle.c_facts.specs.Facts.{same_place, same_home, same_row, width_at, is_width}
use Rattle.c_facts.proofs.NumberSets.{same}

-- ---- places that are the same

both : (a b : Bool) → cond a b false ≡ true → (a ≡ true) × (b ≡ true)
both true b e = (refl, e)
both false b e = absurd cc

pub is-place : (p q : Place) → same_place p q ≡ true → p ≡ q
is-place (places.Field f) (places.Field g) e = ap places.Field (same f g e)
is-place (places.Field f) (places.Bit g b) e = absurd cc
is-place (places.Bit f a) (places.Field g) e = absurd cc
is-place (places.Bit f a) (places.Bit g b) e =
    let parts = both (nat_eq f g) (nat_eq a b) e in
    ap (λ (f : ℕ). places.Bit f a) (same f g parts.0) ∙ ap (places.Bit g) (same a b parts.1)

pub is-width : (v w : Width) → nat_eq (bits v) (bits w) ≡ true → v ≡ w
is-width W8 W8 e = refl
is-width W16 W16 e = refl
is-width W32 W32 e = refl
is-width W64 W64 e = refl
is-width W128 W128 e = refl
is-width v w e = absurd cc

-- homes that are the same have their numbers in the same structs
pub same-at : (s : Store) (g h : Home) → same_home g h ≡ true → is_at s g ≡ is_at s h
same-at s g h e =
    let parts = both (same_place g.place h.place) (nat_eq g.value h.value) e in
    ap (λ (p : Place). is_number (number_at s p) g.value) (is-place g.place h.place parts.0)
    ∙ ap (λ (v : ℕ). is_number (number_at s h.place) v) (same g.value h.value parts.1)

-- rows of the same place and type
pub is-row : (a b : Row) → same_row a b ≡ true → (a.place ≡ b.place) × (a.width ≡ b.width)
is-row a b e =
    let parts = both (same_place a.place b.place) (nat_eq (bits a.width) (bits b.width)) e in
    (is-place a.place b.place parts.0, is-width a.width b.width parts.1)

-- ---- fields of an unsigned type

-- a field has the width of a row that speaks of it
pub width-there : (s : Store) (w : Width) (f : ℕ) (rs : List Row) → width_at f rs ≡ Some w → HoldRows s rs
    → IsThere w s f
width-there s w f [] e h = absurd cc
width-there s w f (r ∷ rs) e h = at (nat_eq (field_of r.place) f) refl e (λ e. width-there s w f rs e h.1.1)
  where
    some : Some r.width ≡ Some w → r.width ≡ w
    some e = cc

    at : (b : Bool) → nat_eq (field_of r.place) f ≡ b → cond b (Some r.width) (width_at f rs) ≡ Some w
        → (width_at f rs ≡ Some w → IsThere w s f) → IsThere w s f
    at true is e rest =
        subst (λ (w : Width). IsThere w s f) (some e)
        (subst (λ (f : ℕ). IsThere r.width s f) (same (field_of r.place) f is) h.0)
    at false is e rest = rest e

pub asked-there : (s : Store) (w : Width) (f : ℕ) (rs : List Row) → is_width w (width_at f rs) ≡ true → HoldRows s rs
    → IsThere w s f
asked-there s w f rs e h = at (width_at f rs) refl e
  where
    at : (o : Option Width) → width_at f rs ≡ o → is_width w o ≡ true → IsThere w s f
    at None is e = absurd cc
    at (Some v) is e = subst (λ (w : Width). IsThere w s f) (is-width v w e) (width-there s v f rs is h)

-- the type of a field that is there
pub there-type : (w : Width) (s : Store) (f : ℕ) → IsThere w s f → type_at s f ≡ Some (Unsigned w)
there-type w s f is = ap (λ (o : Option Object). option_and_then (λ (o : Object). Some o.type) o) is.there

-- a field of that type is there
pub typed-there : (w : Width) (s : Store) (f : ℕ) → type_at s f ≡ Some (Unsigned w) → IsThere w s f
typed-there w s f e = at (slice_get s.fields f) refl e
  where
    some : (t : CType) → Some t ≡ Some (Unsigned w) → t ≡ Unsigned w
    some t e = cc

    at : (o : Option Object) → slice_get s.fields f ≡ o
        → option_and_then (λ (o : Object). Some o.type) o ≡ Some (Unsigned w) → IsThere w s f
    at None is e = absurd cc
    at (Some o) is e = record {
      value = o.value;
      there = is ∙ ap (λ (t : CType). Some (record { type = t; value = o.value })) (some o.type e);
    }

-- where the type stays, a field that was there is
pub still-there : (w : Width) (s v : Store) (f : ℕ) → type_at v f ≡ type_at s f → IsThere w s f → IsThere w v f
still-there w s v f e is = typed-there w v f (e ∙ there-type w s f is)

-- the number at a place of an object of an unsigned type
pub number-there : (s : Store) (w : Width) (p : Place) (n : ℕ)
    → slice_get s.fields (field_of p) ≡ Some (object w (Some (pos n))) → nat_lt n (2 ^ bits w) ≡ true
    → number_at s p ≡ Some (number_in p n)
number-there s w p n there small =
    ap (λ (o : Option Object). option_and_then (λ (o : Object). number_of p o.type o.value) o) there
    ∙ ap (λ (b : Bool). cond b (Some (number_in p n)) None) small

-- a field that has a number of its type
pub record IsWord (w : Width) (s : Store) (f : ℕ) : Type 0 where
  pub number : ℕ
  pub there : slice_get s.fields f ≡ Some (object w (Some (pos number)))
  pub small : nat_lt number (2 ^ bits w) ≡ true

-- a field of that type with a number at some place has a number
pub is-word : (w : Width) (s : Store) (p : Place) (z : ℕ) → IsThere w s (field_of p) → number_at s p ≡ Some z
    → IsWord w s (field_of p)
is-word w s p z is e = at is.value is.there (sym (read is.value is.there) ∙ e)
  where
    read : (o : Option ℤ) → slice_get s.fields (field_of p) ≡ Some (object w o)
        → number_at s p ≡ number_of p (Unsigned w) o
    read o there = ap (λ (o : Option Object). option_and_then (λ (o : Object). number_of p o.type o.value) o) there

    inner : (n : ℕ) (b : Bool) → nat_lt n (2 ^ bits w) ≡ b
        → slice_get s.fields (field_of p) ≡ Some (object w (Some (pos n)))
        → cond b (Some (number_in p n)) None ≡ Some z → IsWord w s (field_of p)
    inner n true small there e = record { number = n; there = there; small = small }
    inner n false small there e = absurd cc

    at : (o : Option ℤ) → slice_get s.fields (field_of p) ≡ Some (object w o)
        → number_of p (Unsigned w) o ≡ Some z → IsWord w s (field_of p)
    at None there e = absurd cc
    at (Some (pos n)) there e = inner n (nat_lt n (2 ^ bits w)) refl there e
    at (Some (negsuc n)) there e = absurd cc
