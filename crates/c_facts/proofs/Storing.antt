-- What a store puts into a field, and what holds after it.
use Rattle.std.specs.Option.{option_and_then}
use Rattle.std.specs.Int.{bit_at}
use Rattle.std.proofs.Common.{◌≡◌, ◌≢◌, ◌<◌, ◌-◌, ◌^◌, nat_eq, bit_and, bit_or, ℕ, zero, suc, ℤ}
use Rattle.std.proofs.Common.{pos, Bool, true, false, cond, List, [], ◌∷◌, Option, Some, None, ◌⊎◌, inl, inr}
use Rattle.std.proofs.Common.{slice_get, slice_set, refl, sym, ap, ◌∙◌, subst, arith}
use Rattle.std.proofs.lemmas.Bool.Decides.{nat_tests}
use Rattle.std.proofs.lemmas.Nat.Bits.{bit_at_and, bit_at_or, bit_at-lt}
use Rattle.c_subset.specs.declared.trees.Width.{Width}
use Rattle.c_subset.specs.declared.trees.CType.{CType}
use Rattle.c_subset.specs.declared.trees.CType.TheVariants.{Signed, Unsigned, Truth}
use Rattle.c_subset.specs.declared.trees.Bitwise.{Bitwise}
use Rattle.c_subset.specs.declared.trees.Bitwise.TheVariants.{BitAnd, BitOr}
use Rattle.c_subset.specs.Trees.{CExpr, Const, Field, Element, Local, Cast, Minus, Bang, Calc, Divide, Bits, Compare}
use Rattle.c_subset.specs.Trees.{Both, Either, Choose}
use Rattle.c_subset.specs.Meaning.{bits, fits_signed, CValue, Meaning, Gives, Wrong, with_meaning, gives, converted}
use Rattle.c_subset.specs.Meaning.{bits_of, combined, Object, Store, Locals, meaning}
use Rattle.c_subset.specs.Running.{brought_to, object_of, with_field}
use Rattle.c_facts.specs.Known.{Place, Sets, Anything, OneOf, Row, Known, Never, Rows, field_of, number_in, number_of}
use Rattle.c_facts.specs.Known.{number_at, is_at, object, IsThere, HasOne, HasSets, HoldRows, Hold, type_at}
use Rattle.c_facts.specs.declared.known.Place.TheVariants as places
use Rattle.c_facts.specs.declared.known.Constant.{Constant}
use Rattle.c_facts.specs.declared.known.Written.TheVariants as writes
use Rattle.c_facts.specs.declared.known.Change.TheVariants as changes
use Rattle.c_facts.specs.Facts.{Written, change_of, change_at, width_at, is_known, is_numbered, stored_rows, homes_of_unknown}
use Rattle.c_facts.specs.Asking.{unsigned_of, constant_of, field_in, number_written, mask_written, bits_written}
use Rattle.c_facts.specs.Asking.{written_in, written_by, written, stored}
use Rattle.c_facts.proofs.NumberSets.{same}
use Rattle.c_facts.proofs.PlaceLemmas.{is-width, width-there, number-there, IsWord, is-word}
use Rattle.c_facts.proofs.ValueLemmas.{unsigned, below, is-below, same-gives, own-stays, combined-unsigned, field-is}
use Rattle.c_facts.proofs.ValueLemmas.{bits-mean, const-means, bits-small, unsigned-is, constant-is}
use Rattle.c_facts.proofs.Changing.{IsChange, rows-stored}
use Rattle.c_facts.proofs.Holding.{settled-hold}

-- ---- fields after a store

pub apart : (k f : ℕ) → nat_eq k f ≡ false → k ≢ f
apart k f n e = grind (arith, nat_tests)

other-entry : {A : Type 0} (xs : List A) (f k : ℕ) (y : A) → k ≢ f → slice_get (slice_set xs f y) k ≡ slice_get xs k
other-entry [] f k y n = refl
other-entry (x ∷ xs) zero zero y n = absurd (n refl)
other-entry (x ∷ xs) zero (suc k) y n = refl
other-entry (x ∷ xs) (suc f) zero y n = refl
other-entry (x ∷ xs) (suc f) (suc k) y n = other-entry xs f k y (λ e. n (ap suc e))

pub this-entry : {A : Type 0} (xs : List A) (f : ℕ) (x y : A) → slice_get xs f ≡ Some x
    → slice_get (slice_set xs f y) f ≡ Some y
this-entry [] f x y e = absurd cc
this-entry (z ∷ xs) zero x y e = refl
this-entry (z ∷ xs) (suc f) x y e = this-entry xs f x y e

-- a value has the type to which it was brought
type-of : (t : CType) (z : ℤ) (x : CValue) → converted t z ≡ Gives x → x.type ≡ t
type-of (Signed w) z x e = at (fits_signed (bits w) z) e
  where
    at : (b : Bool) → cond b (gives (Signed w) z) Wrong ≡ Gives x → x.type ≡ Signed w
    at true e = ap (λ (y : CValue). y.type) (sym (same-gives (record { type = Signed w; value = z }) x e))
    at false e = absurd cc
type-of (Unsigned w) z x e = ap (λ (y : CValue). y.type) (sym (same-gives _ x e))
type-of Truth z x e = ap (λ (y : CValue). y.type) (sym (same-gives _ x e))

-- ---- what is written

-- what a store is known to put into a field of that width
abbrev pub Puts : Width → Store → ℕ → CValue → Written → Type 0
Puts w s f x writes.Other = Unit {0}
Puts w s f x (writes.Number n) = (x ≡ unsigned w n) × (n < 2 ^ bits w)
Puts w s f x (writes.SetsBits m) =
    (word : IsWord w s f) × ((x ≡ unsigned w (bit_or word.number m)) × (bit_or word.number m < 2 ^ bits w))
Puts w s f x (writes.KeepsBits m) =
    (word : IsWord w s f) × ((x ≡ unsigned w (bit_and word.number m)) × (bit_and word.number m < 2 ^ bits w))

-- a field of which some set of numbers is known has a number
pub numbered-word : (s : Store) (w : Width) (f : ℕ) (rs : List Row) → is_numbered f rs ≡ true → IsThere w s f
    → HoldRows s rs → IsWord w s f
numbered-word s w f [] e i h = absurd cc
numbered-word s w f (r ∷ rs) e i h =
    at (nat_eq (field_of r.place) f) refl e (λ e. numbered-word s w f rs e i h.1.1)
  where
    known : (x : Sets) (b : Bool) → field_of r.place ≡ f → is_known x ≡ true → HasSets s r.place b x → IsWord w s f
    known Anything b e k has = absurd cc
    known (OneOf on off) b e k has =
        subst (λ (f : ℕ). IsWord w s f) e (go b has)
      where
        there : IsThere w s (field_of r.place)
        there = subst (λ (f : ℕ). IsThere w s f) (sym e) i

        go : (b : Bool) → HasOne s r.place (cond b on off) → IsWord w s (field_of r.place)
        go true has = is-word w s r.place has.number there has.there
        go false has = is-word w s r.place has.number there has.there

    inner : (b : Bool) → is_known r.sets ≡ b → field_of r.place ≡ f → cond b true (is_numbered f rs) ≡ true
        → (is_numbered f rs ≡ true → IsWord w s f) → IsWord w s f
    inner true k is e rest = known r.sets (is_at s r.home) is k h.1.0
    inner false k is e rest = rest e

    at : (b : Bool) → nat_eq (field_of r.place) f ≡ b
        → cond b (cond (is_known r.sets) true (is_numbered f rs)) (is_numbered f rs) ≡ true
        → (is_numbered f rs ≡ true → IsWord w s f) → IsWord w s f
    at true is e rest = inner (is_known r.sets) refl (same (field_of r.place) f is) e rest
    at false is e rest = rest e

module _ (int w : Width) (s : Store) (l : Locals) (f : ℕ) (x : CValue) where
  -- what is brought to the type of the field
  abbrev pub Given : CExpr → Type 0
  Given e = with_meaning (meaning int s l e) (λ y. converted (Unsigned w) y.value) ≡ Gives x

  number-puts : (t : CType) (z : ℤ) → Given (Const t z) → Puts w s f x (number_written w (unsigned_of t z))
  number-puts t z g = at (unsigned_of t z) refl
    where
      at : (o : Option Constant) → unsigned_of t z ≡ o → Puts w s f x (number_written w o)
      at None e = tt
      at (Some c) e = inner (nat_eq (bits c.width) (bits w)) refl
        where
          const : (Const t z ≡ Const (Unsigned c.width) (pos c.number)) × (c.number < 2 ^ bits c.width)
          const = unsigned-is t z c e

          inner : (b : Bool) → nat_eq (bits c.width) (bits w) ≡ b
              → Puts w s f x (cond b (writes.Number c.number) writes.Other)
          inner false is = tt
          inner true is =
              let same-width : c.width ≡ w = is-width c.width w is in
              let fits : c.number < 2 ^ bits w =
              subst (λ (w : Width). c.number < 2 ^ bits w) same-width const.1 in
              let expr : Const t z ≡ Const (Unsigned w) (pos c.number) =
              const.0 ∙ ap (λ (w : Width). Const (Unsigned w) (pos c.number)) same-width in
              let bring : Meaning → Meaning = λ (m : Meaning). with_meaning m (λ y. converted (Unsigned w) y.value) in
              let once : converted (Unsigned w) (pos c.number) ≡ gives (Unsigned w) (pos c.number) =
              own-stays w c.number fits in
              let value : bring (meaning int s l (Const (Unsigned w) (pos c.number)))
              ≡ gives (Unsigned w) (pos c.number) = ap bring (const-means int w s l c.number fits) ∙ once in
              let is-x : gives (Unsigned w) (pos c.number) ≡ Gives x =
              sym value ∙ sym (ap (λ (e : CExpr). bring (meaning int s l e)) expr) ∙ g in
              (sym (same-gives (unsigned w c.number) x is-x), fits)

  bits-put : (op : Bitwise) (a b : CExpr) → IsWord w s f → Given (Bits op a b)
      → Puts w s f x (bits_written w f op (field_in a) (constant_of b))
  bits-put op a b word g = at (field_in a) (constant_of b) refl refl
    where
      at : (i : Option ℕ) (o : Option Constant) → field_in a ≡ i → constant_of b ≡ o
          → Puts w s f x (bits_written w f op i o)
      at None o ie oe = tt
      at (Some i) None ie oe = tt
      at (Some i) (Some c) ie oe = inner (nat_eq f i) (nat_eq (bits c.width) (bits w)) refl refl
        where
          const : (b ≡ Const (Unsigned c.width) (pos c.number)) × (c.number < 2 ^ bits c.width)
          const = constant-is b c oe

          puts : (op : Bitwise) → x ≡ unsigned w (bits_of op word.number c.number)
              → bits_of op word.number c.number < 2 ^ bits w → Puts w s f x (mask_written op c.number)
          puts BitAnd e fits = (word, (e, fits))
          puts BitOr e fits = (word, (e, fits))

          inner : (u v : Bool) → nat_eq f i ≡ u → nat_eq (bits c.width) (bits w) ≡ v
              → Puts w s f x (cond u (cond v (mask_written op c.number) writes.Other) writes.Other)
          inner false v ue ve = tt
          inner true false ue ve = tt
          inner true true ue ve = go (combined-unsigned int w op n c.number fn fc)
            where
              n : ℕ
              n = word.number

              same-width : c.width ≡ w
              same-width = is-width c.width w ve

              fn : n < 2 ^ bits w
              fn = below n w word.small

              fc : c.number < 2 ^ bits w
              fc = subst (λ (w : Width). c.number < 2 ^ bits w) same-width const.1

              left : a ≡ Field f
              left = field-is a i ie ∙ ap Field (sym (same f i ue))

              right : b ≡ Const (Unsigned w) (pos c.number)
              right = const.0 ∙ ap (λ (w : Width). Const (Unsigned w) (pos c.number)) same-width

              bring : Meaning → Meaning
              bring m = with_meaning m (λ y. converted (Unsigned w) y.value)

              both : Bits op a b ≡ Bits op (Field f) (Const (Unsigned w) (pos c.number))
              both =
                  ap (λ (a : CExpr). Bits op a b) left
                  ∙ ap (λ (b : CExpr). Bits op (Field f) b) right

              is : bring (combined int op (unsigned w n) (unsigned w c.number)) ≡ Gives x
              is =
                  sym (ap bring (bits-mean int w s l op f n c.number word.there fc))
                  ∙ sym (ap (λ (e : CExpr). bring (meaning int s l e)) both) ∙ g

              go : (combined int op (unsigned w n) (unsigned w c.number) ≡ Wrong)
                  ⊎ (combined int op (unsigned w n) (unsigned w c.number)
                  ≡ gives (Unsigned w) (pos (bits_of op n c.number)))
                  → Puts w s f x (mask_written op c.number)
              go (inl e) = absurd (wrong (sym (ap bring e) ∙ is))
                where
                  wrong : Wrong ≡ Gives x → ⊥
                  wrong e = absurd cc
              go (inr e) =
                  let fits = bits-small w op n c.number fn fc in
                  let value : bring (gives (Unsigned w) (pos (bits_of op n c.number)))
                  ≡ gives (Unsigned w) (pos (bits_of op n c.number)) = own-stays w (bits_of op n c.number) fits in
                  let is-x : gives (Unsigned w) (pos (bits_of op n c.number)) ≡ Gives x =
                  sym value ∙ sym (ap bring e) ∙ is in
                  puts op (sym (same-gives (unsigned w (bits_of op n c.number)) x is-x)) fits

  expr-puts : (numbered : Bool) (e : CExpr) → (numbered ≡ true → IsWord w s f) → Given e
      → Puts w s f x (written_in numbered w f e)
  expr-puts numbered (Const t z) word g = number-puts t z g
  expr-puts numbered (Field i) word g = tt
  expr-puts numbered (Element r i) word g = tt
  expr-puts numbered (Local t k) word g = tt
  expr-puts numbered (Cast t e) word g = tt
  expr-puts numbered (Minus e) word g = tt
  expr-puts numbered (Bang e) word g = tt
  expr-puts numbered (Calc op a b) word g = tt
  expr-puts numbered (Divide op a b) word g = tt
  expr-puts true (Bits op a b) word g = bits-put op a b (word refl) g
  expr-puts false (Bits op a b) word g = tt
  expr-puts numbered (Compare op a b) word g = tt
  expr-puts numbered (Both a b) word g = tt
  expr-puts numbered (Either a b) word g = tt
  expr-puts numbered (Choose t c a b) word g = tt

-- ---- what becomes of places

module _ (w : Width) (s : Store) (f : ℕ) (x : CValue)
    (now : slice_get (with_field s f x).fields f ≡ Some (object_of x)) where
  abbrev pub v : Store
  v = with_field s f x

  pub put-number : (p : Place) (n : ℕ) → field_of p ≡ f → x ≡ unsigned w n → n < 2 ^ bits w
      → number_at v p ≡ Some (number_in p n)
  put-number p n pf e fits =
      number-there v w p n
      (ap (λ (f : ℕ). slice_get v.fields f) pf ∙ now ∙ ap (λ (x : CValue). Some (object_of x)) e) (is-below n w fits)

  pub old-number : (p : Place) (word : IsWord w s f) → field_of p ≡ f → number_at s p ≡ Some (number_in p word.number)
  old-number p word pf =
      number-there s w p word.number (ap (λ (f : ℕ). slice_get s.fields f) pf ∙ word.there) word.small

  -- a bit of a word of which bits are set
  set-change : (g b m : ℕ) (word : IsWord w s f) → g ≡ f → x ≡ unsigned w (bit_or word.number m)
      → bit_or word.number m < 2 ^ bits w → (c : Bool) → nat_eq (bit_at m b) 1 ≡ c
      → IsChange s v (places.Bit g b) (cond c (changes.Becomes 1) changes.Stays)
  set-change g b m word gf e fits true is =
      let one : bit_at m b ≡ 1 = same (bit_at m b) 1 is in
      let low = bit_at-lt word.number b in
      let bit : bit_at (bit_or word.number m) b ≡ 1 =
      bit_at_or word.number m b ∙ omega (arith, one, low) in
      put-number (places.Bit g b) (bit_or word.number m) gf e fits ∙ ap Some bit
  set-change g b m word gf e fits false is =
      let isnt : bit_at m b ≢ 1 = apart (bit_at m b) 1 is in
      let low = bit_at-lt m b in
      let none : bit_at m b ≡ 0 = omega (arith, isnt, low) in
      let bit : bit_at (bit_or word.number m) b ≡ bit_at word.number b =
      bit_at_or word.number m b ∙ omega (arith, none) in
      put-number (places.Bit g b) (bit_or word.number m) gf e fits ∙ ap Some bit
      ∙ sym (old-number (places.Bit g b) word gf)

  -- a bit of a word of which bits are kept
  keep-change : (g b m : ℕ) (word : IsWord w s f) → g ≡ f → x ≡ unsigned w (bit_and word.number m)
      → bit_and word.number m < 2 ^ bits w → (c : Bool) → nat_eq (bit_at m b) 0 ≡ c
      → IsChange s v (places.Bit g b) (cond c (changes.Becomes 0) changes.Stays)
  keep-change g b m word gf e fits true is =
      let none : bit_at m b ≡ 0 = same (bit_at m b) 0 is in
      let bit : bit_at (bit_and word.number m) b ≡ 0 =
      bit_at_and word.number m b ∙ omega (arith, none) in
      put-number (places.Bit g b) (bit_and word.number m) gf e fits ∙ ap Some bit
  keep-change g b m word gf e fits false is =
      let isnt : bit_at m b ≢ 0 = apart (bit_at m b) 0 is in
      let low = bit_at-lt m b in
      let one : bit_at m b ≡ 1 = omega (arith, isnt, low) in
      let old = bit_at-lt word.number b in
      let bit : bit_at (bit_and word.number m) b ≡ bit_at word.number b =
      bit_at_and word.number m b ∙ omega (arith, one, old) in
      put-number (places.Bit g b) (bit_and word.number m) gf e fits ∙ ap Some bit
      ∙ sym (old-number (places.Bit g b) word gf)

  pub here-changes : (e : Written) (p : Place) → field_of p ≡ f → Puts w s f x e → IsChange s v p (change_of e p)
  here-changes writes.Other p pf puts = tt
  here-changes (writes.Number n) p pf puts = put-number p n pf puts.0 puts.1
  here-changes (writes.SetsBits m) (places.Field g) pf puts = tt
  here-changes (writes.SetsBits m) (places.Bit g b) pf puts =
      set-change g b m puts.0 pf puts.1.0 puts.1.1 (nat_eq (bit_at m b) 1) refl
  here-changes (writes.KeepsBits m) (places.Field g) pf puts = tt
  here-changes (writes.KeepsBits m) (places.Bit g b) pf puts =
      keep-change g b m puts.0 pf puts.1.0 puts.1.1 (nat_eq (bit_at m b) 0) refl

module _ (s : Store) (f : ℕ) (x : CValue) where
  pub far-number : (p : Place) → field_of p ≢ f → number_at (with_field s f x) p ≡ number_at s p
  far-number p far =
      ap (λ (o : Option Object). option_and_then (λ (o : Object). number_of p o.type o.value) o)
      (other-entry s.fields f (field_of p) (object_of x) far)

  -- a store leaves the types of fields
  pub types-stay : (o : Object) → slice_get s.fields f ≡ Some o → x.type ≡ o.type → (g : ℕ)
      → type_at (with_field s f x) g ≡ type_at s g
  types-stay o there typed g = at (nat_eq g f) refl
    where
      type-in : Option Object → Option CType
      type-in o = option_and_then (λ (o : Object). Some o.type) o

      at : (b : Bool) → nat_eq g f ≡ b → type_at (with_field s f x) g ≡ type_at s g
      at true e =
          let is : g ≡ f = same g f e in
          subst (λ (g : ℕ). type_at (with_field s f x) g ≡ type_at s g) (sym is)
          (ap type-in (this-entry s.fields f o (object_of x) there) ∙ ap Some typed ∙ sym (ap type-in there))
      at false e = ap type-in (other-entry s.fields f g (object_of x) (apart g f e))

-- what a store is known to put into the field, by what is known of it
abbrev pub PutsBy : Option Width → Store → ℕ → CValue → Written → Type 0
PutsBy None s f x e = Unit {0}
PutsBy (Some w) s f x e = Puts w s f x e

module _ (int : Width) (s : Store) (l : Locals) (f : ℕ) (e : CExpr) (x : CValue) (rs : List Row)
    (h : HoldRows s rs) where
  -- the store was made
  abbrev pub Made : Type 0
  Made = with_meaning (meaning int s l e) (λ y. brought_to (slice_get s.fields f) y.value) ≡ Gives x

  -- the object that was there, and its type
  pub record Was : Type 0 where
    pub o : Object
    pub there : slice_get s.fields f ≡ Some o
    pub typed : x.type ≡ o.type
    pub given : with_meaning (meaning int s l e) (λ y. converted o.type y.value) ≡ Gives x

  pub was : Made → Was
  was m = at (slice_get s.fields f) refl m
    where
      at : (o : Option Object) → slice_get s.fields f ≡ o
          → with_meaning (meaning int s l e) (λ y. brought_to o y.value) ≡ Gives x → Was
      at None oe g = absurd (nothing (meaning int s l e) g)
        where
          nothing : (m : Meaning) → with_meaning m (λ y. Wrong) ≡ Gives x → ⊥
          nothing (Gives y) g = absurd cc
          nothing Wrong g = absurd cc
      at (Some o) oe g = record { o = o; there = oe; typed = typed (meaning int s l e) g; given = g }
        where
          typed : (m : Meaning) → with_meaning m (λ y. converted o.type y.value) ≡ Gives x → x.type ≡ o.type
          typed (Gives y) g = type-of o.type y.value x g
          typed Wrong g = absurd cc

  pub written-puts : Was → (n : Option Width) → width_at f rs ≡ n
      → PutsBy n s f x (written_by (is_numbered f rs) n f e)
  written-puts m None ne = tt
  written-puts m (Some w) ne =
      expr-puts int w s l f x (is_numbered f rs) e
      (λ k. numbered-word s w f rs k there h)
      (subst (λ (t : CType). with_meaning (meaning int s l e) (λ y. converted t y.value) ≡ Gives x) type m.given)
    where
      there : IsThere w s f
      there = width-there s w f rs ne h

      same-type : (a b : Object) → Some a ≡ Some b → a.type ≡ b.type
      same-type a b e = cc

      type : m.o.type ≡ Unsigned w
      type = same-type m.o (object w there.value) (sym m.there ∙ there.there)

  pub changes-at : Was → (p : Place) → IsChange s (with_field s f x) p (change_at f (written f e rs) p)
  changes-at m p = at (nat_eq (field_of p) f) refl
    where
      now : slice_get (with_field s f x).fields f ≡ Some (object_of x)
      now = this-entry s.fields f m.o (object_of x) m.there

      inner : (n : Option Width) → field_of p ≡ f → PutsBy n s f x (written_by (is_numbered f rs) n f e)
          → IsChange s (with_field s f x) p (change_of (written_by (is_numbered f rs) n f e) p)
      inner None pf puts = tt
      inner (Some w) pf puts = here-changes w s f x now (written_by (is_numbered f rs) (Some w) f e) p pf puts

      at : (b : Bool) → nat_eq (field_of p) f ≡ b
          → IsChange s (with_field s f x) p (cond b (change_of (written f e rs) p) changes.Stays)
      at true is =
          inner (width_at f rs) (same (field_of p) f is) (written-puts m (width_at f rs) refl)
      at false is = far-number s f x p (apart (field_of p) f is)

-- what is known after a store holds
pub stored-holds : (int : Width) (s : Store) (l : Locals) (f : ℕ) (e : CExpr) (x : CValue) (k : Known)
    → with_meaning (meaning int s l e) (λ y. brought_to (slice_get s.fields f) y.value) ≡ Gives x → Hold s k
    → Hold (with_field s f x) (stored f e k)
stored-holds int s l f e x Never m h = h
stored-holds int s l f e x (Rows rs) m h =
    let w = was int s l f e x rs h m in
    settled-hold (with_field s f x) (homes_of_unknown f rs) (stored_rows f (written f e rs) rs)
    (rows-stored s (with_field s f x) (types-stay s f x w.o w.there w.typed) f (written f e rs)
    (changes-at int s l f e x rs h w) rs h)
