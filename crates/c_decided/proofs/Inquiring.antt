-- What a test of a local tells of its number.
use Rattle.std.proofs.Common.{◌≡◌, ◌<◌, ◌^◌, nat_eq, not, ℕ, pos, Bool, true, false, cond, Option, Some}
use Rattle.std.proofs.Common.{None, refl, sym, ap, ◌∙◌, subst, arith}
use Rattle.std.proofs.lemmas.Bool.Decides.{nat_tests}
use Rattle.c_subset.specs.declared.trees.Width.{Width}
use Rattle.c_subset.specs.declared.trees.Width.TheVariants.{W8, W16, W32, W64, W128}
use Rattle.c_subset.specs.declared.trees.CType.{CType}
use Rattle.c_subset.specs.declared.trees.CType.TheVariants.{Signed, Unsigned, Truth}
use Rattle.c_subset.specs.declared.trees.Comparison.{Comparison}
use Rattle.c_subset.specs.Trees.{CExpr, Const, Field, Element, Local, Cast, Minus, Bang, Calc, Divide, Bits, Compare}
use Rattle.c_subset.specs.Trees.{Both, Either, Choose}
use Rattle.c_subset.specs.Meaning.{bits, CValue, Meaning, Gives, Wrong, with_meaning, gives, compared, passes}
use Rattle.c_subset.specs.Meaning.{truth, is_true, read_as, Store, Locals, meaning}
use Rattle.c_facts.specs.Facts.{agrees}
use Rattle.c_facts.specs.Asking.{constant_of, equality}
use Rattle.c_facts.specs.declared.known.Constant.{Constant}
use Rattle.c_facts.proofs.PlaceLemmas.{is-width}
use Rattle.c_facts.proofs.ValueLemmas.{unsigned, same-gives, own-stays, compared-unsigned, came-out, equality-tells}
use Rattle.c_facts.proofs.ValueLemmas.{constant-is}
use Rattle.c_decided.specs.Numbered.{fits, Inquiry, Word, word_of, with_constant, compares, opposite, asks}

module _ (int : Width) (s : Store) (l : Locals) where
  -- where the test came out, the number of the local is the one that is asked for, or isn't it
  abbrev pub Tells : CExpr → Option Inquiry → Type 0
  Tells e None = Unit {0}
  Tells e (Some q) = (way : Bool) (c : ℕ) (x : CValue) → l q.of q.local ≡ Some (pos c) → fits q.of c ≡ true
      → meaning int s l e ≡ Gives x → is_true x.value ≡ way → agrees (agrees q.is way) (nat_eq c q.number) ≡ true

  -- x
  local-tells : (t : CType) (i : ℕ) → Tells (Local t i) (asks (Local t i))
  unfolding asks meaning
  local-tells t i way c x is f m out = zero-tells (nat_eq c 0) way (ap (λ (x : CValue). is_true x.value) same ∙ out)
    where
      same : record { type = t; value = pos c } ≡ x
      same = same-gives (record { type = t; value = pos c }) x (sym (ap (read_as t) is) ∙ m)

      zero-tells : (b way : Bool) → not b ≡ way → agrees (agrees false way) b ≡ true
      zero-tells true true e = absurd cc
      zero-tells true false e = refl
      zero-tells false true e = refl
      zero-tells false false e = absurd cc

  -- !e
  turn : (i w b : Bool) → agrees (agrees i (not w)) b ≡ true → agrees (agrees (not i) w) b ≡ true
  turn true true b e = e
  turn true false b e = e
  turn false true b e = e
  turn false false b e = e

  flip : (b w : Bool) → not b ≡ w → b ≡ not w
  flip true w e = ap not e
  flip false w e = ap not e

  inner-tells : (e : CExpr) (q : Inquiry) → Tells e (Some q) → (way : Bool) (c : ℕ) (x : CValue)
      → l q.of q.local ≡ Some (pos c) → fits q.of c ≡ true → is_true x.value ≡ way → (z : Meaning)
      → meaning int s l e ≡ z → with_meaning z (λ (x : CValue). truth int (not (is_true x.value))) ≡ Gives x
      → agrees (agrees (not q.is) way) (nat_eq c q.number) ≡ true
  inner-tells e q h way c x is f out (Gives z) em m =
      let b : not (is_true z.value) ≡ way =
      came-out int (not (is_true z.value)) way x (truth int (not (is_true z.value))) refl m out in
      turn q.is way (nat_eq c q.number) (h (not way) c z is f em (flip (is_true z.value) way b))
  inner-tells e q h way c x is f out Wrong em m = absurd cc

  bang-tells : (e : CExpr) (o : Option Inquiry) → Tells e o → Tells (Bang e) (opposite o)
  unfolding meaning
  bang-tells e None h = tt
  bang-tells e (Some q) h = λ way c x is f m out. inner-tells e q h way c x is f out (meaning int s l e) refl m

  word-is : (e : CExpr) (w : Word) → word_of e ≡ Some w → e ≡ Local (Unsigned w.width) w.local
  word-is (Const t z) w e = absurd cc
  word-is (Field f) w e = absurd cc
  word-is (Element a i) w e = absurd cc
  word-is (Local (Signed v) i) w e = absurd cc
  word-is (Local (Unsigned v) i) w e = ap (λ (w : Word). Local (Unsigned w.width) w.local) (some e)
    where
      some : Some (record { width = v; local = i }) ≡ Some w → record { width = v; local = i } ≡ w
      some e = cc
  word-is (Local Truth i) w e = absurd cc
  word-is (Cast t a) w e = absurd cc
  word-is (Minus a) w e = absurd cc
  word-is (Bang a) w e = absurd cc
  word-is (Calc op a b) w e = absurd cc
  word-is (Divide op a b) w e = absurd cc
  word-is (Bits op a b) w e = absurd cc
  word-is (Compare op a b) w e = absurd cc
  word-is (Both a b) w e = absurd cc
  word-is (Either a b) w e = absurd cc
  word-is (Choose t c a b) w e = absurd cc

  small : (w : Width) (c : ℕ) → fits (Unsigned w) c ≡ true → c < 2 ^ bits w
  small W8 c e = grind (arith, nat_tests)
  small W16 c e = grind (arith, nat_tests)
  small W32 c e = grind (arith, nat_tests)
  small W64 c e = grind (arith, nat_tests)
  small W128 c e = grind (arith, nat_tests)

  -- x == C
  constant-tells : (op : Comparison) (eq : Bool) (w : Word) (a b : CExpr) (o : Option Constant) → equality op ≡ Some eq
      → a ≡ Local (Unsigned w.width) w.local → constant_of b ≡ o → Tells (Compare op a b) (with_constant eq w o)
  unfolding meaning
  constant-tells op eq w a b None e ea eb = tt
  constant-tells op eq w a b (Some k) e ea eb = split (nat_eq (bits k.width) (bits w.width)) refl
    where
      split : (i : Bool) → nat_eq (bits k.width) (bits w.width) ≡ i
          → Tells (Compare op a b) (cond i (Some (record {
            of = Unsigned w.width;
            local = w.local;
            is = eq;
            number = k.number;
          })) None)
      split true i = λ way c x is f m out.
          let const = constant-is b k eb in
          let same : k.width ≡ w.width = is-width k.width w.width i in
          let less : k.number < 2 ^ bits w.width = subst (λ (v : Width). k.number < 2 ^ bits v) same const.1 in
          let second : meaning int s l b ≡ gives (Unsigned w.width) (pos k.number) =
          ap (meaning int s l) (const.0 ∙ ap (λ (v : Width). Const (Unsigned v) (pos k.number)) same)
          ∙ own-stays w.width k.number less in
          let first : meaning int s l a ≡ gives (Unsigned w.width) (pos c) =
          ap (meaning int s l) ea ∙ ap (read_as (Unsigned w.width)) is in
          let both : meaning int s l (Compare op a b) ≡ truth int (passes op (pos c) (pos k.number)) =
          ap (λ (z : Meaning). with_meaning z (λ x. with_meaning (meaning int s l b) (compared int op x))) first
          ∙ ap (λ (z : Meaning). with_meaning z (compared int op (unsigned w.width c))) second
          ∙ compared-unsigned int w.width op c k.number (small w.width c f) less in
          equality-tells op eq way c k.number e
          (came-out int (passes op (pos c) (pos k.number)) way x (meaning int s l (Compare op a b)) both m out)
      split false i = tt

  compare-tells : (op : Comparison) (a b : CExpr) → Tells (Compare op a b) (compares (equality op) (word_of a) b)
  compare-tells op a b = split (equality op) refl (word_of a) refl
    where
      split : (q : Option Bool) → equality op ≡ q → (w : Option Word) → word_of a ≡ w
          → Tells (Compare op a b) (compares q w b)
      split None e w ew = tt
      split (Some eq) e None ew = tt
      split (Some eq) e (Some w) ew = constant-tells op eq w a b (constant_of b) e (word-is a w ew) refl

  pub asks-tells : (e : CExpr) → Tells e (asks e)
  unfolding asks
  asks-tells (Const t z) = tt
  asks-tells (Field f) = tt
  asks-tells (Element a e) = tt
  asks-tells (Local t i) = local-tells t i
  asks-tells (Cast t e) = tt
  asks-tells (Minus e) = tt
  asks-tells (Bang e) = bang-tells e (asks e) (asks-tells e)
  asks-tells (Calc op a b) = tt
  asks-tells (Divide op a b) = tt
  asks-tells (Bits op a b) = tt
  asks-tells (Compare op a b) = compare-tells op a b
  asks-tells (Both a b) = tt
  asks-tells (Either a b) = tt
  asks-tells (Choose t c a b) = tt
