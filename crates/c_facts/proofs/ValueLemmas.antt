-- Values of one unsigned type, and the constants and fields that expressions are.
use Rattle.std.proofs.Common.{◌≡◌, ◌<◌, ◌^◌, nat_eq, nat_lt, ◌-◌, not, ℕ, zero, suc, ℤ, pos, negsuc, Bool, true}
use Rattle.std.proofs.Common.{false, cond, Option, Some, None, ◌⊎◌, inl, inr, slice_get, refl, sym, ap, ◌∙◌, subst}
use Rattle.std.proofs.Common.{arith, mod-eq_of_lt}
use Rattle.std.proofs.lemmas.Bool.Decides.{nat_tests}
use Rattle.std.proofs.lemmas.Int.{ints}
use Rattle.std.proofs.lemmas.Nat.{or_lt, and_le_l}
use Rattle.fixed_point.proofs.Powers.{power-le}
use Rattle.c_subset.specs.declared.trees.Width.{Width}
use Rattle.c_subset.specs.declared.trees.Width.TheVariants.{W8, W16, W32, W64, W128}
use Rattle.c_subset.specs.declared.trees.CType.{CType}
use Rattle.c_subset.specs.declared.trees.CType.TheVariants.{Signed, Unsigned, Truth}
use Rattle.c_subset.specs.declared.trees.Bitwise.{Bitwise}
use Rattle.c_subset.specs.declared.trees.Bitwise.TheVariants.{BitAnd, BitOr}
use Rattle.c_subset.specs.declared.trees.Comparison.{Comparison}
use Rattle.c_subset.specs.declared.trees.Comparison.TheVariants.{IsEqual, IsUnequal, IsBelow, IsAtMost, IsAbove}
use Rattle.c_subset.specs.declared.trees.Comparison.TheVariants.{IsAtLeast}
use Rattle.c_subset.specs.Trees.{CExpr, Const, Field, Element, Local, Cast, Minus, Bang, Calc, Divide, Bits, Compare}
use Rattle.c_subset.specs.Trees.{Both, Either, Choose}
use Rattle.c_subset.specs.Meaning.{bits, fits_signed, CValue, Meaning, Gives, Wrong, with_meaning, gives, converted}
use Rattle.c_subset.specs.Meaning.{common_of, common, bits_of, combined_in, combined, compared, passes, truth, one_if}
use Rattle.c_subset.specs.Meaning.{is_true, Object, read, Store, Locals, meaning}
use Rattle.c_facts.specs.Known.{object}
use Rattle.c_facts.specs.Facts.{agrees}
use Rattle.c_facts.specs.declared.known.Constant.{Constant}
use Rattle.c_facts.specs.Asking.{limit, small, unsigned_of, constant_of, field_in, single_bit, equality}
use Rattle.c_facts.proofs.NumberSets.{same}

-- a value of an unsigned type
abbrev pub unsigned : Width → ℕ → CValue
unsigned w a = record { type = Unsigned w; value = pos a }

pub below : (n : ℕ) (w : Width) → nat_lt n (2 ^ bits w) ≡ true → n < 2 ^ bits w
below n w e = grind (arith, nat_tests)

pub is-below : (n : ℕ) (w : Width) → n < 2 ^ bits w → nat_lt n (2 ^ bits w) ≡ true
is-below n w e = grind (arith, nat_tests)

pub same-gives : (x y : CValue) → Gives x ≡ Gives y → x ≡ y
same-gives x y e = cc

-- ---- operators

same_either : (c : Bool) (t : CType) → cond c t t ≡ t
same_either true t = refl
same_either false t = refl

-- a type in which values of an unsigned type are as they are: int, or that type
record IsShared (int w : Width) : Type 0 where
  type : CType
  is : common int (Unsigned w) (Unsigned w) ≡ type
  kind : (type ≡ Signed int) ⊎ (type ≡ Unsigned w)
  stays : (a : ℕ) → a < 2 ^ bits w → converted type (pos a) ≡ gives type (pos a)

pub own-stays : (w : Width) (a : ℕ) → a < 2 ^ bits w → converted (Unsigned w) (pos a) ≡ gives (Unsigned w) (pos a)
own-stays w a small = ap (λ (x : ℕ). gives (Unsigned w) (pos x)) (mod-eq_of_lt small)

shared : (int w : Width) → IsShared int w
shared int w = at (nat_lt (bits w) (bits int)) refl
  where
    at : (b : Bool) → nat_lt (bits w) (bits int) ≡ b → IsShared int w
    at true e = record {
      type = Signed int;
      is = ap (λ (b : Bool). common_of (cond b (Signed int) (Unsigned w)) (cond b (Signed int) (Unsigned w))) e
          ∙ same_either (nat_lt (bits int) (bits int)) (Signed int);
      kind = inl refl;
      stays = λ a small.
          let less : bits w < bits int = grind (arith, nat_tests) in
          let wider = power-le (bits w) (bits int - 1) (omega (arith, less)) in
          let fits : fits_signed (bits int) (pos a) ≡ true = grind (arith, ints) in
          ap (λ (b : Bool). cond b (gives (Signed int) (pos a)) Wrong) fits;
    }
    at false e = record {
      type = Unsigned w;
      is = ap (λ (b : Bool). common_of (cond b (Signed int) (Unsigned w)) (cond b (Signed int) (Unsigned w))) e
          ∙ same_either (nat_lt (bits w) (bits w)) (Unsigned w);
      kind = inr refl;
      stays = own-stays w;
    }

pub compared-unsigned : (int w : Width) (op : Comparison) (a b : ℕ) → a < 2 ^ bits w → b < 2 ^ bits w
    → compared int op (unsigned w a) (unsigned w b) ≡ truth int (passes op (pos a) (pos b))
compared-unsigned int w op a b fa fb =
    let c = shared int w in
    ap (λ (t : CType). with_meaning (converted t (pos a))
    (λ x. with_meaning (converted t (pos b)) (λ y. truth int (passes op x.value y.value)))) c.is
    ∙ ap (λ (m : Meaning). with_meaning m
    (λ x. with_meaning (converted c.type (pos b)) (λ y. truth int (passes op x.value y.value)))) (c.stays a fa)
    ∙ ap (λ (m : Meaning). with_meaning m (λ y. truth int (passes op (pos a) y.value))) (c.stays b fb)

-- & and | have a meaning only where the type isn't promoted
pub combined-unsigned : (int w : Width) (op : Bitwise) (a b : ℕ) → a < 2 ^ bits w → b < 2 ^ bits w
    → (combined int op (unsigned w a) (unsigned w b) ≡ Wrong)
    ⊎ (combined int op (unsigned w a) (unsigned w b) ≡ gives (Unsigned w) (pos (bits_of op a b)))
combined-unsigned int w op a b fa fb = at c.kind
  where
    c : IsShared int w
    c = shared int w

    in-type : combined int op (unsigned w a) (unsigned w b) ≡ combined_in c.type op (pos a) (pos b)
    in-type =
        ap (λ (t : CType). with_meaning (converted t (pos a))
        (λ x. with_meaning (converted t (pos b)) (λ y. combined_in t op x.value y.value))) c.is
        ∙ ap (λ (m : Meaning). with_meaning m
        (λ x. with_meaning (converted c.type (pos b)) (λ y. combined_in c.type op x.value y.value))) (c.stays a fa)
        ∙ ap (λ (m : Meaning). with_meaning m (λ y. combined_in c.type op (pos a) y.value)) (c.stays b fb)

    at : (c.type ≡ Signed int) ⊎ (c.type ≡ Unsigned w)
        → (combined int op (unsigned w a) (unsigned w b) ≡ Wrong)
        ⊎ (combined int op (unsigned w a) (unsigned w b) ≡ gives (Unsigned w) (pos (bits_of op a b)))
    at (inl e) = inl (in-type ∙ ap (λ (t : CType). combined_in t op (pos a) (pos b)) e)
    at (inr e) = inr (in-type ∙ ap (λ (t : CType). combined_in t op (pos a) (pos b)) e)

-- & and | of a field and a constant
pub bits-mean : (int w : Width) (s : Store) (l : Locals) (op : Bitwise) (f n m : ℕ)
    → slice_get s.fields f ≡ Some (object w (Some (pos n))) → m < 2 ^ bits w
    → meaning int s l (Bits op (Field f) (Const (Unsigned w) (pos m)))
    ≡ combined int op (unsigned w n) (unsigned w m)
unfolding meaning
bits-mean int w s l op f n m there fm =
    ap (λ (o : Option Object). with_meaning (read o)
    (λ x. with_meaning (converted (Unsigned w) (pos m)) (combined int op x))) there
    ∙ ap (λ (m : Meaning). with_meaning m (combined int op (unsigned w n))) (own-stays w m fm)

-- a constant
pub const-means : (int w : Width) (s : Store) (l : Locals) (c : ℕ) → c < 2 ^ bits w
    → meaning int s l (Const (Unsigned w) (pos c)) ≡ gives (Unsigned w) (pos c)
unfolding meaning
const-means int w s l c small = own-stays w c small

-- a comparison with a constant
pub compare-means : (int w : Width) (s : Store) (l : Locals) (op : Comparison) (a : CExpr) (c : ℕ)
    → meaning int s l (Compare op a (Const (Unsigned w) (pos c)))
    ≡ with_meaning (meaning int s l a) (λ x. with_meaning (converted (Unsigned w) (pos c)) (compared int op x))
unfolding meaning
compare-means int w s l op a c = refl

-- & and | give a number of the type
pub bits-small : (w : Width) (op : Bitwise) (a b : ℕ) → a < 2 ^ bits w → b < 2 ^ bits w
    → bits_of op a b < 2 ^ bits w
bits-small w BitAnd a b fa fb = let less = and_le_l a b in omega (arith, less, fa)
bits-small w BitOr a b fa fb = or_lt (bits w) a b fa fb

-- ---- comparisons

equal-numbers : (a b : ℕ) → passes IsEqual (pos a) (pos b) ≡ nat_eq a b
equal-numbers a b = grind (arith, ints, nat_tests)

pub true-one : (b : Bool) → is_true (one_if b) ≡ b
true-one true = refl
true-one false = refl

-- how a test came out tells whether it passes
pub came-out : (int : Width) (b way : Bool) (x : CValue) (m : Meaning) → m ≡ truth int b → m ≡ Gives x
    → is_true x.value ≡ way → b ≡ way
came-out int b way x m e g t =
    let is : record { type = Signed int; value = one_if b } ≡ x =
    same-gives (record { type = Signed int; value = one_if b }) x (sym e ∙ g) in
    sym (true-one b) ∙ ap (λ (x : CValue). is_true x.value) is ∙ t

pub equality-tells : (op : Comparison) (eq way : Bool) (z c : ℕ) → equality op ≡ Some eq
    → passes op (pos z) (pos c) ≡ way → agrees (agrees eq way) (nat_eq z c) ≡ true
equality-tells IsEqual true true z c e p = sym (equal-numbers z c) ∙ p
equality-tells IsEqual true false z c e p = ap not (sym (equal-numbers z c) ∙ p)
equality-tells IsEqual false way z c e p = absurd cc
equality-tells IsUnequal false true z c e p = ap not (sym (equal-numbers z c)) ∙ p
equality-tells IsUnequal false false z c e p = sym (equal-numbers z c) ∙ unless (passes IsEqual (pos z) (pos c)) p
  where
    unless : (b : Bool) → not b ≡ false → b ≡ true
    unless true p = refl
    unless false p = absurd cc
equality-tells IsUnequal true way z c e p = absurd cc
equality-tells IsBelow eq way z c e p = absurd cc
equality-tells IsAtMost eq way z c e p = absurd cc
equality-tells IsAbove eq way z c e p = absurd cc
equality-tells IsAtLeast eq way z c e p = absurd cc

-- ---- expressions

pub field-is : (e : CExpr) (f : ℕ) → field_in e ≡ Some f → e ≡ Field f
field-is (Const t z) f e = absurd cc
field-is (Field g) f e = ap Field (some e)
  where
    some : Some g ≡ Some f → g ≡ f
    some e = cc
field-is (Element a i) f e = absurd cc
field-is (Local t k) f e = absurd cc
field-is (Cast t a) f e = absurd cc
field-is (Minus a) f e = absurd cc
field-is (Bang a) f e = absurd cc
field-is (Calc op a b) f e = absurd cc
field-is (Divide op a b) f e = absurd cc
field-is (Bits op a b) f e = absurd cc
field-is (Compare op a b) f e = absurd cc
field-is (Both a b) f e = absurd cc
field-is (Either a b) f e = absurd cc
field-is (Choose t c a b) f e = absurd cc

within : (w : Width) (n : ℕ) → nat_lt n (limit w) ≡ true → n < 2 ^ bits w
within W8 n e = grind (arith, nat_tests)
within W16 n e = grind (arith, nat_tests)
within W32 n e = grind (arith, nat_tests)
within W64 n e = grind (arith, nat_tests)
within W128 n e = grind (arith, nat_tests)

-- a constant of the type and its value
pub unsigned-is : (t : CType) (z : ℤ) (c : Constant) → unsigned_of t z ≡ Some c
    → (Const t z ≡ Const (Unsigned c.width) (pos c.number)) × (c.number < 2 ^ bits c.width)
unsigned-is (Signed w) z c e = absurd cc
unsigned-is (Unsigned w) (pos n) c e = at (nat_lt n (limit w)) refl e
  where
    this : Constant
    this = record { width = w; number = n }

    at : (b : Bool) → nat_lt n (limit w) ≡ b → cond b (Some this) None ≡ Some c
        → (Const (Unsigned w) (pos n) ≡ Const (Unsigned c.width) (pos c.number)) × (c.number < 2 ^ bits c.width)
    at true s e =
        subst (λ (c : Constant). (Const (Unsigned w) (pos n) ≡ Const (Unsigned c.width) (pos c.number))
        × (c.number < 2 ^ bits c.width)) (some e) (refl, within w n s)
      where
        some : Some this ≡ Some c → this ≡ c
        some e = cc
    at false s e = absurd cc
unsigned-is (Unsigned w) (negsuc n) c e = absurd cc
unsigned-is Truth z c e = absurd cc

pub constant-is : (e : CExpr) (c : Constant) → constant_of e ≡ Some c
    → (e ≡ Const (Unsigned c.width) (pos c.number)) × (c.number < 2 ^ bits c.width)
constant-is (Const t z) c e = unsigned-is t z c e
constant-is (Field g) c e = absurd cc
constant-is (Element a i) c e = absurd cc
constant-is (Local t k) c e = absurd cc
constant-is (Cast t a) c e = absurd cc
constant-is (Minus a) c e = absurd cc
constant-is (Bang a) c e = absurd cc
constant-is (Calc op a b) c e = absurd cc
constant-is (Divide op a b) c e = absurd cc
constant-is (Bits op a b) c e = absurd cc
constant-is (Compare op a b) c e = absurd cc
constant-is (Both a b) c e = absurd cc
constant-is (Either a b) c e = absurd cc
constant-is (Choose t d a b) c e = absurd cc

-- a mask of a single bit
pub single-is : (n mask b : ℕ) → single_bit n mask ≡ Some b → mask ≡ 2 ^ b
single-is zero mask b e = absurd cc
single-is (suc n) mask b e = at (nat_eq mask (2 ^ n)) refl e (λ e. single-is n mask b e)
  where
    at : (c : Bool) → nat_eq mask (2 ^ n) ≡ c → cond c (Some n) (single_bit n mask) ≡ Some b
        → (single_bit n mask ≡ Some b → mask ≡ 2 ^ b) → mask ≡ 2 ^ b
    at true is e rest = same mask (2 ^ n) is ∙ ap (λ (k : ℕ). 2 ^ k) (some e)
      where
        some : Some n ≡ Some b → n ≡ b
        some e = cc
    at false is e rest = rest e
