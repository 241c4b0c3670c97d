-- Expressions that read only locals below a number mean the same where those agree.
use Rattle.std.proofs.Common.{◌≡◌, ℕ, ◌<◌, ◌&&◌, not, Bool, true, false, cond, List, [], ◌∷◌, slice_get, refl, ap, ◌∙◌}
use Rattle.std.proofs.Common.{arith}
use Rattle.std.proofs.lemmas.Bool.Decides.{nat_tests}
use Rattle.c_subset.specs.declared.trees.Width.{Width}
use Rattle.c_subset.specs.declared.trees.CType.{CType}
use Rattle.c_subset.specs.Trees.{CExpr, Const, Field, Element, Local, Cast, Minus, Bang, Calc, Divide, Bits, Compare}
use Rattle.c_subset.specs.Trees.{Both, Either, Choose}
use Rattle.c_subset.specs.Meaning.{CValue, Meaning, Gives, Wrong, with_meaning, converted, promoted, is_true, Store}
use Rattle.c_subset.specs.Meaning.{element, Locals, meaning, read, read_as, negated, truth, calculated, divided}
use Rattle.c_subset.specs.Meaning.{combined, compared}
use Rattle.c_placing.specs.Placing.{AgreeBelow}
use Rattle.c_inlined.specs.Inlined.{reads_below}
use Rattle.c_inlined.proofs.GoingOn.{both}

with-same : (m m' : Meaning) (f g : CValue → Meaning) → m ≡ m' → ((x : CValue) → f x ≡ g x)
    → with_meaning m f ≡ with_meaning m' g
with-same m m' f g e h = ap (λ (q : Meaning). with_meaning q f) e ∙ at m'
  where
    at : (q : Meaning) → with_meaning q f ≡ with_meaning q g
    at (Gives x) = h x
    at Wrong = refl

cond-same : (b : Bool) (m n m' n' : Meaning) → m ≡ m' → n ≡ n' → cond b m n ≡ cond b m' n'
cond-same true m n m' n' e g = e
cond-same false m n m' n' e g = g

module _ (n : ℕ) (int : Width) (s : Store) (l m : Locals) (agree : AgreeBelow n l m) where
  two : (a b : CExpr) (f : CValue → CValue → Meaning) → meaning int s l a ≡ meaning int s m a
      → meaning int s l b ≡ meaning int s m b
      → with_meaning (meaning int s l a) (λ x. with_meaning (meaning int s l b) (f x))
      ≡ with_meaning (meaning int s m a) (λ x. with_meaning (meaning int s m b) (f x))
  two a b f ha hb =
      with-same (meaning int s l a) (meaning int s m a) (λ x. with_meaning (meaning int s l b) (f x))
      (λ x. with_meaning (meaning int s m b) (f x)) ha (λ x. ap (λ (q : Meaning). with_meaning q (f x)) hb)

  truth-of : (b : CExpr) → meaning int s l b ≡ meaning int s m b
      → with_meaning (meaning int s l b) (λ y. truth int (is_true y.value))
      ≡ with_meaning (meaning int s m b) (λ y. truth int (is_true y.value))
  truth-of b h = ap (λ (q : Meaning). with_meaning q (λ y. truth int (is_true y.value))) h

  pub means-same : (e : CExpr) → reads_below n e ≡ true → meaning int s l e ≡ meaning int s m e
  unfolding meaning reads_below
  means-same (Const t z) h = refl
  means-same (Field f) h = refl
  means-same (Element a e) h =
      ap (λ (q : Meaning). with_meaning q (λ i. read (element (slice_get s.rows a) i.value))) (means-same e h)
  means-same (Local t k) h =
      let below : k < n = grind (arith, nat_tests, h) in ap (read_as t) (agree t k below)
  means-same (Cast t e) h = ap (λ (q : Meaning). with_meaning q (λ x. converted t x.value)) (means-same e h)
  means-same (Minus e) h = ap (λ (q : Meaning). with_meaning q (negated int)) (means-same e h)
  means-same (Bang e) h =
      ap (λ (q : Meaning). with_meaning q (λ x. truth int (not (is_true x.value)))) (means-same e h)
  means-same (Calc op a b) h =
      let p = both (reads_below n a) (reads_below n b) h in
      two a b (calculated int op) (means-same a p.0) (means-same b p.1)
  means-same (Divide op a b) h =
      let p = both (reads_below n a) (reads_below n b) h in
      two a b (divided int op) (means-same a p.0) (means-same b p.1)
  means-same (Bits op a b) h =
      let p = both (reads_below n a) (reads_below n b) h in
      two a b (combined int op) (means-same a p.0) (means-same b p.1)
  means-same (Compare op a b) h =
      let p = both (reads_below n a) (reads_below n b) h in
      two a b (compared int op) (means-same a p.0) (means-same b p.1)
  means-same (Both a b) h =
      let p = both (reads_below n a) (reads_below n b) h in
      with-same (meaning int s l a) (meaning int s m a)
      (λ x. cond (is_true x.value) (with_meaning (meaning int s l b) (λ y. truth int (is_true y.value)))
      (truth int false))
      (λ x. cond (is_true x.value) (with_meaning (meaning int s m b) (λ y. truth int (is_true y.value)))
      (truth int false)) (means-same a p.0)
      (λ x. cond-same (is_true x.value) (with_meaning (meaning int s l b) (λ y. truth int (is_true y.value)))
      (truth int false) (with_meaning (meaning int s m b) (λ y. truth int (is_true y.value))) (truth int false)
      (truth-of b (means-same b p.1)) refl)
  means-same (Either a b) h =
      let p = both (reads_below n a) (reads_below n b) h in
      with-same (meaning int s l a) (meaning int s m a)
      (λ x. cond (is_true x.value) (truth int true)
      (with_meaning (meaning int s l b) (λ y. truth int (is_true y.value))))
      (λ x. cond (is_true x.value) (truth int true)
      (with_meaning (meaning int s m b) (λ y. truth int (is_true y.value)))) (means-same a p.0)
      (λ x. cond-same (is_true x.value) (truth int true)
      (with_meaning (meaning int s l b) (λ y. truth int (is_true y.value))) (truth int true)
      (with_meaning (meaning int s m b) (λ y. truth int (is_true y.value))) refl (truth-of b (means-same b p.1)))
  means-same (Choose t c a b) h =
      let p = both (reads_below n c) (reads_below n a && reads_below n b) h in
      let q = both (reads_below n a) (reads_below n b) p.1 in
      with-same (meaning int s l c) (meaning int s m c)
      (λ x. with_meaning (cond (is_true x.value) (meaning int s l a) (meaning int s l b)) chosen)
      (λ x. with_meaning (cond (is_true x.value) (meaning int s m a) (meaning int s m b)) chosen) (means-same c p.0)
      (λ x. ap (λ (q : Meaning). with_meaning q chosen)
      (cond-same (is_true x.value) (meaning int s l a) (meaning int s l b) (meaning int s m a) (meaning int s m b)
      (means-same a q.0) (means-same b q.1)))
    where
      chosen : CValue → Meaning
      chosen y = with_meaning (converted t y.value) (λ z. converted (promoted int t) z.value)
