-- What holds after a test that came out so.
use Rattle.std.specs.Int.{bit_at}
use Rattle.std.proofs.Common.{◌≡◌, ◌<◌, ◌≤◌, ◌^◌, ◌*◌, nat_eq, not, bit_and, ℕ, zero, suc, ℤ, pos, Bool, true}
use Rattle.std.proofs.Common.{false, cond, Option, Some, None, ◌⊎◌, inl, inr, slice_get, refl, sym, ap}
use Rattle.std.proofs.Common.{◌∙◌, subst, arith, pow_pos}
use Rattle.std.proofs.lemmas.Bool.Decides.{nat_tests}
use Rattle.std.proofs.lemmas.Nat.Bits.{and_pow, bit_at-lt}
use Rattle.c_subset.specs.declared.trees.Width.{Width}
use Rattle.c_subset.specs.declared.trees.CType.{CType}
use Rattle.c_subset.specs.declared.trees.CType.TheVariants.{Signed, Unsigned, Truth}
use Rattle.c_subset.specs.declared.trees.Bitwise.TheVariants.{BitAnd, BitOr}
use Rattle.c_subset.specs.declared.trees.Comparison.{Comparison}
use Rattle.c_subset.specs.Trees.{CExpr, Const, Field, Element, Local, Cast, Minus, Bang, Calc, Divide, Bits, Compare}
use Rattle.c_subset.specs.Trees.{Both, Either, Choose}
use Rattle.c_subset.specs.Meaning.{bits, fits_signed, CValue, Meaning, Gives, Wrong, with_meaning, gives, converted}
use Rattle.c_subset.specs.Meaning.{combined, compared, passes, truth, one_if, is_true, Object, read, Store}
use Rattle.c_subset.specs.Meaning.{Locals, meaning}
use Rattle.c_facts.specs.Known.{Known, Never, Hold, IsThere, field_of, object}
use Rattle.c_facts.specs.declared.known.Place.TheVariants as places
use Rattle.c_facts.specs.declared.known.Constant.{Constant}
use Rattle.c_facts.specs.declared.known.Question.{Question}
use Rattle.c_facts.specs.Facts.{agrees, joined}
use Rattle.c_facts.specs.Asking.{constant_of, field_in, single_bit, bit_question, masked_question, field_question}
use Rattle.c_facts.specs.Asking.{question, equality, answered, settled, tested}
use Rattle.c_facts.proofs.NumberSets.{same}
use Rattle.c_facts.proofs.PlaceLemmas.{is-width, is-word, number-there}
use Rattle.c_facts.proofs.ValueLemmas.{unsigned, below, same-gives, own-stays, compared-unsigned}
use Rattle.c_facts.proofs.ValueLemmas.{bits-mean, compare-means, combined-unsigned, true-one, came-out}
use Rattle.c_facts.proofs.ValueLemmas.{equality-tells, field-is, constant-is, single-is}
use Rattle.c_facts.proofs.Holding.{Tells, narrowed-hold, joined-holds-first, joined-holds-second}

-- ---- a comparison of a field with a number

field-means : (int w : Width) (s : Store) (l : Locals) (op : Comparison) (f n c : ℕ)
    → slice_get s.fields f ≡ Some (object w (Some (pos n))) → n < 2 ^ bits w → c < 2 ^ bits w
    → meaning int s l (Compare op (Field f) (Const (Unsigned w) (pos c))) ≡ truth int (passes op (pos n) (pos c))
unfolding meaning
field-means int w s l op f n c there fn fc =
    ap (λ (o : Option Object). with_meaning (read o)
    (λ x. with_meaning (converted (Unsigned w) (pos c)) (compared int op x))) there
    ∙ ap (λ (m : Meaning). with_meaning m (compared int op (unsigned w n))) (own-stays w c fc)
    ∙ compared-unsigned int w op n c fn fc

some-number : (x y : ℕ) → Some x ≡ Some y → x ≡ y
some-number x y e = cc

-- ---- a comparison of masked bits with 0

-- the bit is 0 or 1, and so many of the mask are left
masked-cases : (n b : ℕ)
    → ((bit_at n b ≡ 0) × (bit_and n (2 ^ b) ≡ 0)) ⊎ ((bit_at n b ≡ 1) × (bit_and n (2 ^ b) ≡ 2 ^ b))
masked-cases n b = at (bit_at n b) (bit_at-lt n b) (and_pow n b)
  where
    at : (x : ℕ) → x < 2 → bit_and n (2 ^ b) ≡ x * 2 ^ b
        → ((x ≡ 0) × (bit_and n (2 ^ b) ≡ 0)) ⊎ ((x ≡ 1) × (bit_and n (2 ^ b) ≡ 2 ^ b))
    at zero lt m = inl (refl, m ∙ omega arith)
    at (suc zero) lt m = inr (refl, m ∙ omega arith)
    at (suc (suc x)) lt m = absurd (omega arith)

masked-number : (n b : ℕ) → nat_eq (bit_and n (2 ^ b)) 0 ≡ nat_eq (bit_at n b) 0
masked-number n b = at (masked-cases n b)
  where
    at : ((bit_at n b ≡ 0) × (bit_and n (2 ^ b) ≡ 0)) ⊎ ((bit_at n b ≡ 1) × (bit_and n (2 ^ b) ≡ 2 ^ b))
        → nat_eq (bit_and n (2 ^ b)) 0 ≡ nat_eq (bit_at n b) 0
    at (inl both) = ap (λ (x : ℕ). nat_eq x 0) (both.1 ∙ sym both.0)
    at (inr both) =
        let some = pow_pos b in
        let isnt : nat_eq (2 ^ b) 0 ≡ false = grind (arith, nat_tests) in
        ap (λ (x : ℕ). nat_eq x 0) both.1 ∙ isnt ∙ sym (ap (λ (x : ℕ). nat_eq x 0) both.0)

masked-small : (n b : ℕ) → bit_and n (2 ^ b) ≤ 2 ^ b
masked-small n b = at (masked-cases n b)
  where
    at : ((bit_at n b ≡ 0) × (bit_and n (2 ^ b) ≡ 0)) ⊎ ((bit_at n b ≡ 1) × (bit_and n (2 ^ b) ≡ 2 ^ b))
        → bit_and n (2 ^ b) ≤ 2 ^ b
    at (inl both) = let is = both.1 in omega (arith, is)
    at (inr both) = let is = both.1 in omega (arith, is)

masked-tells : (int w : Width) (s : Store) (l : Locals) (op : Comparison) (eq way : Bool) (f n b : ℕ) (x : CValue)
    → slice_get s.fields f ≡ Some (object w (Some (pos n))) → n < 2 ^ bits w → 2 ^ b < 2 ^ bits w
    → equality op ≡ Some eq
    → meaning int s l (Compare op (Bits BitAnd (Field f) (Const (Unsigned w) (pos (2 ^ b))))
    (Const (Unsigned w) (pos 0))) ≡ Gives x
    → is_true x.value ≡ way → agrees (agrees eq way) (nat_eq (bit_at n b) 0) ≡ true
masked-tells int w s l op eq way f n b x there fn fb kind m t =
    at (combined-unsigned int w BitAnd n (2 ^ b) fn fb)
  where
    zero-stays : converted (Unsigned w) (pos 0) ≡ gives (Unsigned w) (pos 0)
    zero-stays = own-stays w 0 (pow_pos (bits w))

    whole : Meaning → Meaning
    whole o = with_meaning o (λ x. with_meaning (converted (Unsigned w) (pos 0)) (compared int op x))

    is : whole (combined int BitAnd (unsigned w n) (unsigned w (2 ^ b))) ≡ Gives x
    is =
        sym (ap whole (bits-mean int w s l BitAnd f n (2 ^ b) there fb))
        ∙ sym (compare-means int w s l op (Bits BitAnd (Field f) (Const (Unsigned w) (pos (2 ^ b)))) 0) ∙ m

    at : (combined int BitAnd (unsigned w n) (unsigned w (2 ^ b)) ≡ Wrong)
        ⊎ (combined int BitAnd (unsigned w n) (unsigned w (2 ^ b)) ≡ gives (Unsigned w) (pos (bit_and n (2 ^ b))))
        → agrees (agrees eq way) (nat_eq (bit_at n b) 0) ≡ true
    at (inl e) = absurd (wrong (sym (ap whole e) ∙ is))
      where
        wrong : Wrong ≡ Gives x → ⊥
        wrong e = absurd cc
    at (inr e) =
        let left = masked-small n b in
        let small : bit_and n (2 ^ b) < 2 ^ bits w = omega (arith, left, fb) in
        let truth-is : compared int op (unsigned w (bit_and n (2 ^ b))) (unsigned w 0)
        ≡ truth int (passes op (pos (bit_and n (2 ^ b))) (pos 0)) =
        compared-unsigned int w op (bit_and n (2 ^ b)) 0 small (pow_pos (bits w)) in
        let value : whole (gives (Unsigned w) (pos (bit_and n (2 ^ b))))
        ≡ compared int op (unsigned w (bit_and n (2 ^ b))) (unsigned w 0) =
        ap (λ (m : Meaning). with_meaning m (compared int op (unsigned w (bit_and n (2 ^ b))))) zero-stays in
        let passed : passes op (pos (bit_and n (2 ^ b))) (pos 0) ≡ way =
        came-out int (passes op (pos (bit_and n (2 ^ b))) (pos 0)) way x
        (compared int op (unsigned w (bit_and n (2 ^ b))) (unsigned w 0)) truth-is
        (sym value ∙ sym (ap whole e) ∙ is) t in
        ap (λ (c : Bool). agrees (agrees eq way) c) (sym (masked-number n b))
        ∙ equality-tells op eq way (bit_and n (2 ^ b)) 0 kind passed

-- ---- tests

module _ (int : Width) (s : Store) (l : Locals) where
  -- what a comparison tells of a place whose field has the width that is asked for
  abbrev Told : Comparison → CExpr → CExpr → Question → Type 0
  Told op a b q = (eq way : Bool) (x : CValue) → equality op ≡ Some eq → meaning int s l (Compare op a b) ≡ Gives x
      → is_true x.value ≡ way → IsThere q.width s (field_of q.place) → Tells s q.place (agrees eq way) q.number

  some-question : (p q : Question) → Some p ≡ Some q → p ≡ q
  some-question p q e = cc

  field-told : (op : Comparison) (f : ℕ) (b : CExpr) (q : Question)
      → field_question (Some f) (constant_of b) ≡ Some q → Told op (Field f) b q
  field-told op f b q e = at (constant_of b) refl e
    where
      at : (o : Option Constant) → constant_of b ≡ o → field_question (Some f) o ≡ Some q → Told op (Field f) b q
      at None is e = absurd cc
      at (Some c) is e =
          subst (Told op (Field f) b)
          (some-question (record { place = places.Field f; width = c.width; number = c.number }) q e) told
        where
          told : Told op (Field f) b (record { place = places.Field f; width = c.width; number = c.number })
          told eq way x kind m t there z at-z =
              let const = constant-is b c is in
              let word = is-word c.width s (places.Field f) z there at-z in
              let n = word.number in
              let number : n ≡ z =
              some-number n z (sym (number-there s c.width (places.Field f) n word.there word.small) ∙ at-z) in
              let fits = below n c.width word.small in
              let m' : meaning int s l (Compare op (Field f) (Const (Unsigned c.width) (pos c.number))) ≡ Gives x =
              ap (λ (b : CExpr). meaning int s l (Compare op (Field f) b)) (sym const.0) ∙ m in
              let passed : passes op (pos n) (pos c.number) ≡ way =
              came-out int (passes op (pos n) (pos c.number)) way x
              (meaning int s l (Compare op (Field f) (Const (Unsigned c.width) (pos c.number))))
              (field-means int c.width s l op f n c.number word.there fits const.1) m' t in
              subst (λ (z : ℕ). agrees (agrees eq way) (nat_eq z c.number) ≡ true) number
              (equality-tells op eq way n c.number kind passed)

  -- a bit of a field, and 0
  bit-told : (op : Comparison) (f b : ℕ) (w : Width) (q : Question)
      → record { place = places.Bit f b; width = w; number = 0 } ≡ q → 2 ^ b < 2 ^ bits w
      → Told op (Bits BitAnd (Field f) (Const (Unsigned w) (pos (2 ^ b)))) (Const (Unsigned w) (pos 0)) q
  bit-told op f b w q e fb =
      subst (Told op (Bits BitAnd (Field f) (Const (Unsigned w) (pos (2 ^ b)))) (Const (Unsigned w) (pos 0))) e told
    where
      told : Told op (Bits BitAnd (Field f) (Const (Unsigned w) (pos (2 ^ b)))) (Const (Unsigned w) (pos 0))
          (record { place = places.Bit f b; width = w; number = 0 })
      told eq way x kind m t there z at-z =
          let word = is-word w s (places.Bit f b) z there at-z in
          let n = word.number in
          let number : bit_at n b ≡ z =
          some-number (bit_at n b) z (sym (number-there s w (places.Bit f b) n word.there word.small) ∙ at-z) in
          subst (λ (z : ℕ). agrees (agrees eq way) (nat_eq z 0) ≡ true) number
          (masked-tells int w s l op eq way f n b x word.there (below n w word.small) fb kind m t)

  masked-told : (op : Comparison) (a b e : CExpr) (q : Question)
      → masked_question (field_in a) (constant_of b) (constant_of e) ≡ Some q → Told op (Bits BitAnd a b) e q
  masked-told op a b e q is = at (field_in a) (constant_of b) (constant_of e) refl refl refl is
    where
      at : (f : Option ℕ) (m c : Option Constant) → field_in a ≡ f → constant_of b ≡ m → constant_of e ≡ c
          → masked_question f m c ≡ Some q → Told op (Bits BitAnd a b) e q
      at None m c fe me ce is = absurd cc
      at (Some f) None c fe me ce is = absurd cc
      at (Some f) (Some m) None fe me ce is = absurd cc
      at (Some f) (Some m) (Some c) fe me ce is =
          inner (nat_eq (bits m.width) (bits c.width)) (nat_eq c.number 0) refl refl is
        where
          left : a ≡ Field f
          left = field-is a f fe

          mask : (b ≡ Const (Unsigned m.width) (pos m.number)) × (m.number < 2 ^ bits m.width)
          mask = constant-is b m me

          none : (e ≡ Const (Unsigned c.width) (pos c.number)) × (c.number < 2 ^ bits c.width)
          none = constant-is e c ce

          last : m.width ≡ c.width → c.number ≡ 0 → (o : Option ℕ) → single_bit 32 m.number ≡ o
              → bit_question f m o ≡ Some q → Told op (Bits BitAnd a b) e q
          last w z None be is = absurd cc
          last w z (Some k) be is =
              let power : m.number ≡ 2 ^ k = single-is 32 m.number k be in
              let fits : 2 ^ k < 2 ^ bits m.width =
              subst (λ (x : ℕ). x < 2 ^ bits m.width) power mask.1 in
              let b-is : b ≡ Const (Unsigned m.width) (pos (2 ^ k)) =
              mask.0 ∙ ap (λ (x : ℕ). Const (Unsigned m.width) (pos x)) power in
              let e-is : e ≡ Const (Unsigned m.width) (pos 0) =
              none.0 ∙ ap (λ (w : Width). Const (Unsigned w) (pos c.number)) (sym w)
              ∙ ap (λ (x : ℕ). Const (Unsigned m.width) (pos x)) z in
              let told = bit-told op f k m.width q
              (some-question (record { place = places.Bit f k; width = m.width; number = 0 }) q is) fits in
              subst (λ (a : CExpr). Told op (Bits BitAnd a b) e q) (sym left)
              (subst (λ (b : CExpr). Told op (Bits BitAnd (Field f) b) e q) (sym b-is)
              (subst (λ (e : CExpr). Told op (Bits BitAnd (Field f) (Const (Unsigned m.width) (pos (2 ^ k)))) e q)
              (sym e-is) told))

          inner : (u v : Bool) → nat_eq (bits m.width) (bits c.width) ≡ u → nat_eq c.number 0 ≡ v
              → cond u (cond v (bit_question f m (single_bit 32 m.number)) None) None ≡ Some q
              → Told op (Bits BitAnd a b) e q
          inner true true ue ve is =
              last (is-width m.width c.width ue) (same c.number 0 ve) (single_bit 32 m.number) refl is
          inner true false ue ve is = absurd cc
          inner false v ue ve is = absurd cc

  asked-told : (op : Comparison) (a b : CExpr) (q : Question) → question a b ≡ Some q → Told op a b q
  asked-told op (Const t z) b q e = absurd cc
  asked-told op (Field f) b q e = field-told op f b q e
  asked-told op (Element r i) b q e = absurd cc
  asked-told op (Local t k) b q e = absurd cc
  asked-told op (Cast t a) b q e = absurd cc
  asked-told op (Minus a) b q e = absurd cc
  asked-told op (Bang a) b q e = absurd cc
  asked-told op (Calc o a c) b q e = absurd cc
  asked-told op (Divide o a c) b q e = absurd cc
  asked-told op (Bits BitAnd a c) b q e = masked-told op a c b q e
  asked-told op (Bits BitOr a c) b q e = absurd cc
  asked-told op (Compare o a c) b q e = absurd cc
  asked-told op (Both a c) b q e = absurd cc
  asked-told op (Either a c) b q e = absurd cc
  asked-told op (Choose t d a c) b q e = absurd cc

  compared-hold : (way : Bool) (op : Comparison) (a b : CExpr) (k : Known) (x : CValue)
      → meaning int s l (Compare op a b) ≡ Gives x → is_true x.value ≡ way → Hold s k
      → Hold s (answered way (equality op) (question a b) k)
  compared-hold way op a b k x m t h = at (equality op) (question a b) refl refl
    where
      at : (o : Option Bool) (q : Option Question) → equality op ≡ o → question a b ≡ q → Hold s (answered way o q k)
      at None q oe qe = h
      at (Some eq) None oe qe = h
      at (Some eq) (Some q) oe qe =
          narrowed-hold s (agrees eq way) q.number q.place q.width k
          (λ there. asked-told op a b q qe eq way x oe m t there) h

  -- a constant
  truth-kept : (w : Width) (z : ℤ) (way : Bool) (x : CValue) → converted (Signed w) z ≡ Gives x
      → is_true x.value ≡ way → is_true z ≡ way
  truth-kept w z way x m t = at (fits_signed (bits w) z) m
    where
      at : (b : Bool) → cond b (gives (Signed w) z) Wrong ≡ Gives x → is_true z ≡ way
      at true e =
          ap (λ (x : CValue). is_true x.value) (same-gives (record { type = Signed w; value = z }) x e) ∙ t
      at false e = absurd cc

  truth-of : (z : ℤ) (way : Bool) (x : CValue) → converted Truth z ≡ Gives x → is_true x.value ≡ way
      → is_true z ≡ way
  truth-of z way x m t =
      sym (true-one (is_true z))
      ∙ ap (λ (x : CValue). is_true x.value) (same-gives (record { type = Truth; value = one_if (is_true z) }) x m) ∙ t

  came-so : (way b : Bool) (k : Known) → b ≡ way → Hold s k → Hold s (cond (agrees way b) k Never)
  came-so true true k e h = h
  came-so true false k e h = absurd cc
  came-so false true k e h = absurd cc
  came-so false false k e h = h

  settled-hold : (t : CType) (z : ℤ) (way : Bool) (k : Known) (x : CValue)
      → meaning int s l (Const t z) ≡ Gives x → is_true x.value ≡ way → Hold s k → Hold s (settled way t z k)
  unfolding meaning
  settled-hold (Signed w) z way k x m t h = came-so way (is_true z) k (truth-kept w z way x m t) h
  settled-hold (Unsigned w) z way k x m t h = h
  settled-hold Truth z way k x m t h = came-so way (is_true z) k (truth-of z way x m t) h

  -- an expression whose test is kept
  abbrev pub Keeps : CExpr → Type 0
  Keeps e = (way : Bool) (k : Known) (x : CValue) → meaning int s l e ≡ Gives x → is_true x.value ≡ way
      → Hold s k → Hold s (tested way e k)

  bang-hold : (e : CExpr) → Keeps e → Keeps (Bang e)
  unfolding tested meaning
  bang-hold e ie way k x m t h = at (meaning int s l e) refl m
    where
      flip : (b : Bool) → not b ≡ way → b ≡ not way
      flip true e = ap not e
      flip false e = ap not e

      at : (o : Meaning) → meaning int s l e ≡ o → with_meaning o (λ x. truth int (not (is_true x.value))) ≡ Gives x
          → Hold s (tested (not way) e k)
      at (Gives y) is m =
          ie (not way) k y is
          (flip (is_true y.value)
          (came-out int (not (is_true y.value)) way x (truth int (not (is_true y.value))) refl m t))
          h
      at Wrong is m = absurd cc

  both-true : (a b : CExpr) → Keeps a → Keeps b → (k : Known) (x : CValue) → meaning int s l (Both a b) ≡ Gives x
      → is_true x.value ≡ true → Hold s k → Hold s (tested true (Both a b) k)
  unfolding tested meaning
  both-true a b ia ib k x m t h = at (meaning int s l a) refl m
    where
      Way : CValue → Meaning
      Way y =
          cond (is_true y.value) (with_meaning (meaning int s l b) (λ z. truth int (is_true z.value)))
          (truth int false)

      second : (o : Meaning) → meaning int s l b ≡ o → with_meaning o (λ z. truth int (is_true z.value)) ≡ Gives x
          → Hold s (tested true a k)
          → Hold s (tested true b (tested true a k))
      second (Gives z) is m j =
          ib true (tested true a k) z is
          (came-out int (is_true z.value) true x (truth int (is_true z.value)) refl m t) j
      second Wrong is m j = absurd cc

      on : (y : CValue) (c : Bool) → meaning int s l a ≡ Gives y → is_true y.value ≡ c
          → cond c (with_meaning (meaning int s l b) (λ z. truth int (is_true z.value))) (truth int false) ≡ Gives x
          → Hold s (tested true b (tested true a k))
      on y true is out m = second (meaning int s l b) refl m (ia true k y is out h)
      on y false is out m = absurd (isnt (came-out int false true x (truth int false) refl m t))
        where
          isnt : false ≡ true → ⊥
          isnt e = absurd cc

      at : (o : Meaning) → meaning int s l a ≡ o → with_meaning o Way ≡ Gives x
          → Hold s (tested true b (tested true a k))
      at (Gives y) is m = on y (is_true y.value) is refl m
      at Wrong is m = absurd cc

  both-false : (a b : CExpr) → Keeps a → Keeps b → (k : Known) (x : CValue) → meaning int s l (Both a b) ≡ Gives x
      → is_true x.value ≡ false → Hold s k → Hold s (tested false (Both a b) k)
  unfolding tested meaning
  both-false a b ia ib k x m t h = at (meaning int s l a) refl m
    where
      one : Known
      one = tested false a k

      two : Known
      two = tested false b (tested true a k)

      Way : CValue → Meaning
      Way y =
          cond (is_true y.value) (with_meaning (meaning int s l b) (λ z. truth int (is_true z.value)))
          (truth int false)

      second : (o : Meaning) → meaning int s l b ≡ o → with_meaning o (λ z. truth int (is_true z.value)) ≡ Gives x
          → Hold s (tested true a k) → Hold s two
      second (Gives z) is m j =
          ib false (tested true a k) z is
          (came-out int (is_true z.value) false x (truth int (is_true z.value)) refl m t) j
      second Wrong is m j = absurd cc

      on : (y : CValue) (c : Bool) → meaning int s l a ≡ Gives y → is_true y.value ≡ c
          → cond c (with_meaning (meaning int s l b) (λ z. truth int (is_true z.value))) (truth int false) ≡ Gives x
          → Hold s (joined one two)
      on y true is out m =
          joined-holds-second s one two
          (second (meaning int s l b) refl m (ia true k y is out h))
      on y false is out m = joined-holds-first s one two (ia false k y is out h)

      at : (o : Meaning) → meaning int s l a ≡ o → with_meaning o Way ≡ Gives x → Hold s (joined one two)
      at (Gives y) is m = on y (is_true y.value) is refl m
      at Wrong is m = absurd cc

  either-true : (a b : CExpr) → Keeps a → Keeps b → (k : Known) (x : CValue) → meaning int s l (Either a b) ≡ Gives x
      → is_true x.value ≡ true → Hold s k → Hold s (tested true (Either a b) k)
  unfolding tested meaning
  either-true a b ia ib k x m t h = at (meaning int s l a) refl m
    where
      one : Known
      one = tested true a k

      two : Known
      two = tested true b (tested false a k)

      Way : CValue → Meaning
      Way y =
          cond (is_true y.value) (truth int true)
          (with_meaning (meaning int s l b) (λ z. truth int (is_true z.value)))

      second : (o : Meaning) → meaning int s l b ≡ o → with_meaning o (λ z. truth int (is_true z.value)) ≡ Gives x
          → Hold s (tested false a k) → Hold s two
      second (Gives z) is m j =
          ib true (tested false a k) z is
          (came-out int (is_true z.value) true x (truth int (is_true z.value)) refl m t) j
      second Wrong is m j = absurd cc

      on : (y : CValue) (c : Bool) → meaning int s l a ≡ Gives y → is_true y.value ≡ c
          → cond c (truth int true) (with_meaning (meaning int s l b) (λ z. truth int (is_true z.value))) ≡ Gives x
          → Hold s (joined one two)
      on y true is out m = joined-holds-first s one two (ia true k y is out h)
      on y false is out m =
          joined-holds-second s one two
          (second (meaning int s l b) refl m (ia false k y is out h))

      at : (o : Meaning) → meaning int s l a ≡ o → with_meaning o Way ≡ Gives x → Hold s (joined one two)
      at (Gives y) is m = on y (is_true y.value) is refl m
      at Wrong is m = absurd cc

  either-false : (a b : CExpr) → Keeps a → Keeps b → (k : Known) (x : CValue) → meaning int s l (Either a b) ≡ Gives x
      → is_true x.value ≡ false → Hold s k → Hold s (tested false (Either a b) k)
  unfolding tested meaning
  either-false a b ia ib k x m t h = at (meaning int s l a) refl m
    where
      Way : CValue → Meaning
      Way y =
          cond (is_true y.value) (truth int true)
          (with_meaning (meaning int s l b) (λ z. truth int (is_true z.value)))

      second : (o : Meaning) → meaning int s l b ≡ o → with_meaning o (λ z. truth int (is_true z.value)) ≡ Gives x
          → Hold s (tested false a k)
          → Hold s (tested false b (tested false a k))
      second (Gives z) is m j =
          ib false (tested false a k) z is
          (came-out int (is_true z.value) false x (truth int (is_true z.value)) refl m t) j
      second Wrong is m j = absurd cc

      on : (y : CValue) (c : Bool) → meaning int s l a ≡ Gives y → is_true y.value ≡ c
          → cond c (truth int true) (with_meaning (meaning int s l b) (λ z. truth int (is_true z.value))) ≡ Gives x
          → Hold s (tested false b (tested false a k))
      on y true is out m = absurd (isnt (came-out int true false x (truth int true) refl m t))
        where
          isnt : true ≡ false → ⊥
          isnt e = absurd cc
      on y false is out m = second (meaning int s l b) refl m (ia false k y is out h)

      at : (o : Meaning) → meaning int s l a ≡ o → with_meaning o Way ≡ Gives x
          → Hold s (tested false b (tested false a k))
      at (Gives y) is m = on y (is_true y.value) is refl m
      at Wrong is m = absurd cc

  both-hold : (a b : CExpr) → Keeps a → Keeps b → Keeps (Both a b)
  both-hold a b ia ib true = both-true a b ia ib
  both-hold a b ia ib false = both-false a b ia ib

  either-hold : (a b : CExpr) → Keeps a → Keeps b → Keeps (Either a b)
  either-hold a b ia ib true = either-true a b ia ib
  either-hold a b ia ib false = either-false a b ia ib

  pub tested-hold : (e : CExpr) → Keeps e
  unfolding tested
  tested-hold (Const t z) way k x m t' h = settled-hold t z way k x m t' h
  tested-hold (Field f) way k x m t h = h
  tested-hold (Element a e) way k x m t h = h
  tested-hold (Local t i) way k x m t' h = h
  tested-hold (Cast t e) way k x m t' h = h
  tested-hold (Minus e) way k x m t h = h
  tested-hold (Bang e) way k x m t h = bang-hold e (tested-hold e) way k x m t h
  tested-hold (Calc op a b) way k x m t h = h
  tested-hold (Divide op a b) way k x m t h = h
  tested-hold (Bits op a b) way k x m t h = h
  tested-hold (Compare op a b) way k x m t h = compared-hold way op a b k x m t h
  tested-hold (Choose t c a b) way k x m t' h = h
  tested-hold (Both a b) way k x m t h = both-hold a b (tested-hold a) (tested-hold b) way k x m t h
  tested-hold (Either a b) way k x m t h = either-hold a b (tested-hold a) (tested-hold b) way k x m t h
