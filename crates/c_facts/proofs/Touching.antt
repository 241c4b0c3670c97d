-- Which places may change.
use Rattle.std.specs.Int.{bit_at}
use Rattle.std.proofs.Common.{◌≡◌, ◌≢◌, ◌<◌, ◌≤◌, ◌-◌, ◌^◌, ◌%◌, nat_eq, bit_and, bit_or, ℕ, zero, suc}
use Rattle.std.proofs.Common.{Bool, true, false, cond, List, [], ◌∷◌, Option, Some, None, ◌⊎◌, inl, inr, slice_get}
use Rattle.std.proofs.Common.{refl, sym, ap, ◌∙◌, subst, arith, min, w32}
use Rattle.std.proofs.lemmas.Bool.{cases_lt}
use Rattle.std.proofs.lemmas.Bool.Decides.{nat_tests}
use Rattle.std.proofs.lemmas.Nat.{pow_below}
use Rattle.std.proofs.lemmas.Nat.Bits.{bit_at_and, bit_at_or, bit_at-pow_other, bit_at_not, bit_at-lt}
use Rattle.std.proofs.Math.Nat.{div-eq_of_lt}
use Rattle.fixed_point.proofs.Powers.{power-le}
use Rattle.c_subset.specs.declared.trees.Width.{Width}
use Rattle.c_subset.specs.Trees.{CExpr}
use Rattle.c_subset.specs.Meaning.{bits, CValue, Gives, Store, Locals, meaning, with_meaning}
use Rattle.c_subset.specs.Running.{brought_to, object_of, with_field}
use Rattle.c_facts.specs.Known.{Place, Known, Never, Rows, field_of, number_at, Hold, Stays}
use Rattle.c_facts.specs.declared.known.Place.TheVariants as places
use Rattle.c_facts.specs.declared.known.Written.TheVariants as writes
use Rattle.c_facts.specs.Facts.{Written, same_place, width_at, is_numbered, overlaps, is_touched, has_place, is_covered}
use Rattle.c_facts.specs.Facts.{all_covered}
use Rattle.c_facts.specs.Asking.{single_bit, single_gap, bit_covered, may_write, may_write_by, may_store, written_by}
use Rattle.c_facts.specs.Asking.{written}
use Rattle.c_facts.proofs.NumberSets.{same}
use Rattle.c_facts.proofs.PlaceLemmas.{is-place, IsWord}
use Rattle.c_facts.proofs.ValueLemmas.{unsigned, below, single-is}
use Rattle.c_facts.proofs.Storing.{apart, this-entry, Puts, put-number, old-number, far-number, types-stay, Was, was}
use Rattle.c_facts.proofs.Storing.{written-puts}

-- ---- sets of places

self-eq : (x : ℕ) → nat_eq x x ≡ true
self-eq x = grind (arith, nat_tests)

both : (a b : Bool) → cond a b false ≡ true → (a ≡ true) × (b ≡ true)
both true b e = (refl, e)
both false b e = absurd cc

-- places that have something in common are of one field
overlap-field : (p q : Place) → overlaps p q ≡ true → field_of p ≡ field_of q
overlap-field (places.Field f) q e = same f (field_of q) e
overlap-field (places.Bit f a) (places.Field g) e = same f g e
overlap-field (places.Bit f a) (places.Bit g b) e = same f g (both (nat_eq f g) (nat_eq a b) e).0

-- one of the places touches it
touched-by : (ps : List Place) (p q : Place) → has_place ps p ≡ true → overlaps p q ≡ true → is_touched ps q ≡ true
touched-by [] p q h o = absurd cc
touched-by (x ∷ ps) p q h o = at (same_place x p) refl h (λ h. touched-by ps p q h o)
  where
    first : (b : Bool) → b ≡ true → cond b true (is_touched ps q) ≡ true
    first true e = refl
    first false e = absurd cc

    later : (b : Bool) → is_touched ps q ≡ true → cond b true (is_touched ps q) ≡ true
    later true e = refl
    later false e = e

    at : (b : Bool) → same_place x p ≡ b → cond b true (has_place ps p) ≡ true
        → (has_place ps p ≡ true → is_touched ps q ≡ true) → is_touched (x ∷ ps) q ≡ true
    at true e h rest =
        first (overlaps x q) (ap (λ (x : Place). overlaps x q) (is-place x p e) ∙ o)
    at false e h rest = later (overlaps x q) (rest h)

-- a field that is there touches all its places
pub field-touches : (ps : List Place) (q : Place) → has_place ps (places.Field (field_of q)) ≡ true
    → is_touched ps q ≡ true
field-touches ps q h = touched-by ps (places.Field (field_of q)) q h (self-eq (field_of q))

-- a place that is covered touches what it has something in common with
pub covered-touches : (ps : List Place) (p q : Place) → is_covered ps p ≡ true → overlaps p q ≡ true
    → is_touched ps q ≡ true
covered-touches ps p q c o = at (has_place ps (places.Field (field_of p))) refl c
  where
    at : (b : Bool) → has_place ps (places.Field (field_of p)) ≡ b → cond b true (has_place ps p) ≡ true
        → is_touched ps q ≡ true
    at true e c =
        field-touches ps q (ap (λ (f : ℕ). has_place ps (places.Field f)) (sym (overlap-field p q o)) ∙ e)
    at false e c = touched-by ps p q c o

-- what the first places touch the second ones do
pub all-touch : (ps qs : List Place) (q : Place) → all_covered ps qs ≡ true → is_touched ps q ≡ true
    → is_touched qs q ≡ true
all-touch [] qs q c t = absurd cc
all-touch (p ∷ ps) qs q c t =
    let parts = both (is_covered qs p) (all_covered ps qs) c in
    at (overlaps p q) refl t parts.0 (λ t. all-touch ps qs q parts.1 t)
  where
    at : (b : Bool) → overlaps p q ≡ b → cond b true (is_touched ps q) ≡ true → is_covered qs p ≡ true
        → (is_touched ps q ≡ true → is_touched qs q ≡ true) → is_touched qs q ≡ true
    at true e t c rest = covered-touches qs p q c e
    at false e t c rest = rest t

-- ---- what a store may change

-- a bit of a place that isn't touched isn't one that is covered
other-bit : (ps : List Place) (f b c : ℕ) → is_covered ps (places.Bit f b) ≡ true
    → is_touched ps (places.Bit f c) ≡ false → c ≢ b
other-bit ps f b c e t same =
    impossible
    (sym (covered-touches ps (places.Bit f b) (places.Bit f c) e
    (ap (λ (d : Bool). cond d (nat_eq b c) false) (self-eq f) ∙ ap (λ (x : ℕ). nat_eq x c) (sym same) ∙ self-eq c)) ∙ t)
  where
    impossible : true ≡ false → ⊥
    impossible e = absurd cc

-- a mask without a single bit
pub gap-is : (n mask b : ℕ) → single_gap n mask ≡ Some b → mask ≡ 2 ^ 32 - 1 - 2 ^ b
gap-is zero mask b e = absurd cc
gap-is (suc n) mask b e = at (nat_eq mask (2 ^ 32 - 1 - 2 ^ n)) refl e (λ e. gap-is n mask b e)
  where
    at : (c : Bool) → nat_eq mask (2 ^ 32 - 1 - 2 ^ n) ≡ c → cond c (Some n) (single_gap n mask) ≡ Some b
        → (single_gap n mask ≡ Some b → mask ≡ 2 ^ 32 - 1 - 2 ^ b) → mask ≡ 2 ^ 32 - 1 - 2 ^ b
    at true is e rest = same mask (2 ^ 32 - 1 - 2 ^ n) is ∙ ap (λ (k : ℕ). 2 ^ 32 - 1 - 2 ^ k) (some e)
      where
        some : Some n ≡ Some b → n ≡ b
        some e = cc
    at false is e rest = rest e

pub gap-below : (n mask b : ℕ) → single_gap n mask ≡ Some b → b < n
gap-below zero mask b e = absurd cc
gap-below (suc n) mask b e = at (nat_eq mask (2 ^ 32 - 1 - 2 ^ n)) e (λ e. gap-below n mask b e)
  where
    at : (c : Bool) → cond c (Some n) (single_gap n mask) ≡ Some b → (single_gap n mask ≡ Some b → b < n) → b < suc n
    at true e rest = let is : n ≡ b = some e in omega (arith, is)
      where
        some : Some n ≡ Some b → n ≡ b
        some e = cc
    at false e rest = let less = rest e in omega (arith, less)

-- the other bits of the mask are set
gap-bit : (b c : ℕ) → b < 32 → c < 32 → c ≢ b → bit_at (2 ^ 32 - 1 - 2 ^ b) c ≡ 1
gap-bit b c low within ne =
    let small = pow_below b 32 low in
    bit_at_not w32 (2 ^ b) c small within ∙ ap (λ (x : ℕ). 1 - x) (bit_at-pow_other b c ne)

-- a word of 32 bits has no others
no-bit : (n c : ℕ) → n < 2 ^ 32 → 32 ≤ c → bit_at n c ≡ 0
no-bit n c small high =
    let wide = power-le 32 c high in
    ap (λ (x : ℕ). x % 2) (div-eq_of_lt (omega (arith, wide, small)))

module _ (w : Width) (s : Store) (f : ℕ) (x : CValue)
    (now : slice_get (with_field s f x).fields f ≡ Some (object_of x)) where
  abbrev v : Store
  v = with_field s f x

  -- another bit stays where one was set
  other-set : (b c m : ℕ) (word : IsWord w s f) → m ≡ 2 ^ b → c ≢ b → x ≡ unsigned w (bit_or word.number m)
      → bit_or word.number m < 2 ^ bits w → number_at v (places.Bit f c) ≡ number_at s (places.Bit f c)
  other-set b c m word mask ne e fits =
      let none : bit_at m c ≡ 0 = ap (λ (m : ℕ). bit_at m c) mask ∙ bit_at-pow_other b c ne in
      let bit : bit_at (bit_or word.number m) c ≡ bit_at word.number c =
      bit_at_or word.number m c ∙ omega (arith, none) in
      put-number w s f x now (places.Bit f c) (bit_or word.number m) refl e fits ∙ ap Some bit
      ∙ sym (old-number w s f x now (places.Bit f c) word refl)

  -- and where one was cleared
  other-kept : (b c m : ℕ) (word : IsWord w s f) → bits w ≡ 32 → m ≡ 2 ^ 32 - 1 - 2 ^ b → b < 32 → c ≢ b
      → x ≡ unsigned w (bit_and word.number m) → bit_and word.number m < 2 ^ bits w
      → number_at v (places.Bit f c) ≡ number_at s (places.Bit f c)
  other-kept b c m word width mask low ne e fits = at (same_or_less c)
    where
      same_or_less : (c : ℕ) → (c < 32) ⊎ (32 ≤ c)
      same_or_less c = cases_lt c 32

      old : bit_at word.number c < 2
      old = bit_at-lt word.number c

      bit : min (bit_at word.number c) (bit_at m c) ≡ bit_at word.number c
          → bit_at (bit_and word.number m) c ≡ bit_at word.number c
      bit e = bit_at_and word.number m c ∙ e

      done : bit_at (bit_and word.number m) c ≡ bit_at word.number c
          → number_at v (places.Bit f c) ≡ number_at s (places.Bit f c)
      done is =
          put-number w s f x now (places.Bit f c) (bit_and word.number m) refl e fits ∙ ap Some is
          ∙ sym (old-number w s f x now (places.Bit f c) word refl)

      at : (c < 32) ⊎ (32 ≤ c) → number_at v (places.Bit f c) ≡ number_at s (places.Bit f c)
      at (inl within) =
          let one : bit_at m c ≡ 1 = ap (λ (m : ℕ). bit_at m c) mask ∙ gap-bit b c low within ne in
          done (bit (omega (arith, one, old)))
      at (inr high) =
          let small : word.number < 2 ^ 32 =
          subst (λ (n : ℕ). word.number < 2 ^ n) width (below word.number w word.small) in
          let none : bit_at word.number c ≡ 0 = no-bit word.number c small high in
          done (bit (omega (arith, none)))

  bit-stays : (ps : List Place) (e : Written) (c : ℕ) → may_write ps w f e ≡ true → Puts w s f x e
      → is_touched ps (places.Bit f c) ≡ false → number_at v (places.Bit f c) ≡ number_at s (places.Bit f c)
  bit-stays ps writes.Other c may puts t = absurd cc
  bit-stays ps (writes.Number n) c may puts t = absurd cc
  bit-stays ps (writes.SetsBits m) c may puts t = at (single_bit 32 m) refl may
    where
      at : (o : Option ℕ) → single_bit 32 m ≡ o → bit_covered ps f o ≡ true
          → number_at v (places.Bit f c) ≡ number_at s (places.Bit f c)
      at None is may = absurd cc
      at (Some b) is may =
          other-set b c m puts.0 (single-is 32 m b is) (other-bit ps f b c may t) puts.1.0 puts.1.1
  bit-stays ps (writes.KeepsBits m) c may puts t =
      at (nat_eq (bits w) 32) (single_gap 32 m) refl refl may
    where
      at : (u : Bool) (o : Option ℕ) → nat_eq (bits w) 32 ≡ u → single_gap 32 m ≡ o
          → cond u (bit_covered ps f o) false ≡ true
          → number_at v (places.Bit f c) ≡ number_at s (places.Bit f c)
      at false o ue is may = absurd cc
      at true None ue is may = absurd cc
      at true (Some b) ue is may =
          other-kept b c m puts.0 (same (bits w) 32 ue) (gap-is 32 m b is) (gap-below 32 m b is)
          (other-bit ps f b c may t) puts.1.0 puts.1.1

-- a whole field is touched where one of its bits is
field-stays : (ps : List Place) (w : Width) (f : ℕ) (e : Written) (g : ℕ) → g ≡ f → may_write ps w f e ≡ true
    → is_touched ps (places.Field g) ≡ false → ⊥
field-stays ps w f e g here may t = go e may
  where
    impossible : true ≡ false → ⊥
    impossible e = absurd cc

    bit : (o : Option ℕ) → bit_covered ps f o ≡ true → ⊥
    bit None may = absurd cc
    bit (Some b) may =
        impossible
        (sym (covered-touches ps (places.Bit f b) (places.Field g) may
        (ap (λ (g : ℕ). nat_eq f g) here ∙ self-eq f)) ∙ t)

    go : (e : Written) → may_write ps w f e ≡ true → ⊥
    go writes.Other may = absurd cc
    go (writes.Number n) may = absurd cc
    go (writes.SetsBits m) may = bit (single_bit 32 m) may
    go (writes.KeepsBits m) may = inner (nat_eq (bits w) 32) may
      where
        inner : (u : Bool) → cond u (bit_covered ps f (single_gap 32 m)) false ≡ true → ⊥
        inner true may = bit (single_gap 32 m) may
        inner false may = absurd cc

-- a store by which only these places may change changes no others
pub stores-within : (int : Width) (s : Store) (l : Locals) (f : ℕ) (e : CExpr) (x : CValue) (ps : List Place)
    (k : Known) → may_store ps f e k ≡ true
    → with_meaning (meaning int s l e) (λ y. brought_to (slice_get s.fields f) y.value) ≡ Gives x → Hold s k
    → (q : Place) → is_touched ps q ≡ false → Stays s (with_field s f x) q
stores-within int s l f e x ps Never may m h q t = absurd h
stores-within int s l f e x ps (Rows rs) may m h q t = record {
  type = types-stay s f x w.o w.there w.typed (field_of q);
  number = at (nat_eq (field_of q) f) refl;
}
  where
    w : Was int s l f e x rs h
    w = was int s l f e x rs h m

    now : slice_get (with_field s f x).fields f ≡ Some (object_of x)
    now = this-entry s.fields f w.o (object_of x) w.there

    impossible : true ≡ false → ⊥
    impossible e = absurd cc

    a-place : (ps : List Place) (p : Place) → is_touched ps p ≡ false
        → has_place ps (places.Field (field_of p)) ≡ true → ⊥
    a-place ps p t h = impossible (sym (field-touches ps p h) ∙ t)

    by-width : (n : Option Width) → width_at f rs ≡ n → (q : Place) → field_of q ≡ f → is_touched ps q ≡ false
        → may_write_by ps n f (written_by (is_numbered f rs) n f e) ≡ true
        → number_at (with_field s f x) q ≡ number_at s q
    by-width None ne q here t may = absurd cc
    by-width (Some u) ne (places.Field g) here t may =
        absurd (field-stays ps u f (written_by (is_numbered f rs) (Some u) f e) g here may t)
    by-width (Some u) ne (places.Bit g c) here t may =
        subst (λ (g : ℕ). number_at (with_field s f x) (places.Bit g c) ≡ number_at s (places.Bit g c)) (sym here)
        (bit-stays u s f x now ps (written_by (is_numbered f rs) (Some u) f e) c may
        (written-puts int s l f e x rs h w (Some u) ne)
        (subst (λ (g : ℕ). is_touched ps (places.Bit g c) ≡ false) here t))

    inner : (b : Bool) → field_of q ≡ f → has_place ps (places.Field f) ≡ b
        → cond b true (may_write_by ps (width_at f rs) f (written f e rs)) ≡ true
        → number_at (with_field s f x) q ≡ number_at s q
    inner true here is may =
        absurd (a-place ps q t (ap (λ (f : ℕ). has_place ps (places.Field f)) here ∙ is))
    inner false here is may = by-width (width_at f rs) refl q here t may

    at : (b : Bool) → nat_eq (field_of q) f ≡ b → number_at (with_field s f x) q ≡ number_at s q
    at true is = inner (has_place ps (places.Field f)) (same (field_of q) f is) refl may
    at false is = far-number s f x q (apart (field_of q) f is)
