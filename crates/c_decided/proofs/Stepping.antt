-- After each statement the facts hold that the walk has there.
use Rattle.std.proofs.Common.{◌≡◌, nat_eq, ◌&&◌, ℕ, ℤ, pos, negsuc, Bool, true, false, cond, [], ◌∷◌}
use Rattle.std.proofs.Common.{Option, Some, None, slice_get, refl, sym, ap, ◌∙◌, subst, arith}
use Rattle.std.proofs.lemmas.Bool.Decides.{nat_tests}
use Rattle.c_subset.specs.declared.trees.Width.{Width}
use Rattle.c_subset.specs.declared.trees.CType.{CType}
use Rattle.c_subset.specs.declared.trees.CType.TheVariants.{Signed}
use Rattle.c_subset.specs.declared.trees.Comparison.{Comparison}
use Rattle.c_subset.specs.Trees.{CExpr, Const, Field, Element, Local, Cast, Minus, Bang, Calc, Divide, Bits, Compare}
use Rattle.c_subset.specs.Trees.{Both, Either, Choose}
use Rattle.c_subset.specs.Meaning.{CValue, Meaning, Gives, Wrong, with_meaning, converted, common, compared, passes, truth}
use Rattle.c_subset.specs.Meaning.{one_if, is_true, read_as, Store, Locals, meaning}
use Rattle.c_subset.specs.Running.{same_type, with_local, brought_to, with_field}
use Rattle.c_subset.proofs.TypeLemmas.{same_type-itself}
use Rattle.c_facts.specs.Known.{Known, Never, Hold}
use Rattle.c_facts.specs.Facts.{agrees, is_touched, framed}
use Rattle.c_facts.specs.Asking.{tested, stored}
use Rattle.c_facts.proofs.ValueLemmas.{same-gives}
use Rattle.c_facts.proofs.Testing.{tested-hold}
use Rattle.c_facts.proofs.Storing.{stored-holds}
use Rattle.c_facts.proofs.Changing.{framed-holds}
use Rattle.c_decided.specs.Facts.{ByNumber, at, Facts, Holds, whatever, is_local}
use Rattle.c_decided.specs.Numbered.{each, all_of, brought, fits, Inquiry, asks}
use Rattle.c_decided.specs.Decided.{Plan, Same}
use Rattle.c_decided.specs.Walk.{each_fact, narrowed_facts, inquired, test, constant, by_value, after_set, after_call}
use Rattle.c_decided.specs.Walk.{nothing}
use Rattle.c_decided.proofs.Numbering.{all-holds, each-holds, fits-stays, brought-holds, local-is}
use Rattle.c_decided.proofs.Numbering.{narrowed-holds}
use Rattle.c_decided.proofs.Inquiring.{Tells, asks-tells}

pub all-of-holds : (s : Store) (l : Locals) (F : Facts) → Holds s l F → Hold s (all_of F.by)
all-of-holds s l F h = all-holds s F.by.cases F.by.others (l F.type F.local) h

-- nothing is known anywhere
pub nothing-holds : (s : Store) (l : Locals) → Holds s l nothing
nothing-holds s l = tt

-- ---- locals

local-own : (l : Locals) (t : CType) (i : ℕ) (z : ℤ) → with_local l t i z t i ≡ Some z
local-own l t i z =
    let one : nat_eq i i ≡ true = grind (arith, nat_tests) in
    ap (λ (b : Bool). cond (b && same_type t t) (Some z) (l t i)) one
    ∙ ap (λ (b : Bool). cond b (Some z) (l t i)) (same_type-itself t)

-- by the local that was set
set-holds : (s : Store) (l : Locals) (t : CType) (i : ℕ) (z : ℤ) (b : ByNumber) → Hold s (at b (Some z))
    → Holds s (with_local l t i z) (record { type = t; local = i; by = b })
set-holds s l t i z b h = subst (λ (v : Option ℤ). Hold s (at b v)) (sym (local-own l t i z)) h

-- ---- a test

pub test-holds : (int : Width) (s : Store) (l : Locals) (way : Bool) (e : CExpr) (x : CValue) (F : Facts)
    → Holds s l F → meaning int s l e ≡ Gives x → is_true x.value ≡ way → Holds s l (test way e F)
test-holds int s l way e x F h m out = split (asks e) (asks-tells int s l e)
  where
    plain : Holds s l (each_fact (tested way e) F)
    plain =
        each-holds s s (tested way e) (λ k hk. tested-hold int s l e way k x m out hk) F.by.cases F.by.others
        (l F.type F.local) h

    split : (o : Option Inquiry) → Tells int s l e o → Holds s l (inquired way e o F)
    split None tells = plain
    split (Some q) tells = own (is_local q.of q.local F) refl
      where
        own : (b : Bool) → is_local q.of q.local F ≡ b
            → Holds s l (cond b (narrowed_facts way q F) (each_fact (tested way e) F))
        own true is =
            narrowed-holds s q.of (agrees q.is way) q.number F.by.cases F.by.others (l F.type F.local)
            (λ c v f. tells way c x (sym (local-is l q.of q.local F is) ∙ v) f m out) h
        own false is = plain

-- ---- the value of an expression

module _ (int : Width) (s : Store) (l : Locals) (F : Facts) (h : Holds s l F) where
  constant-holds : (t : CType) (z : ℤ) (x : CValue) → converted t z ≡ Gives x
      → Hold s (at (constant t z (all_of F.by)) (Some x.value))
  constant-holds t (negsuc n) x m = all-of-holds s l F h
  constant-holds t (pos n) x m = split (fits t n) refl
    where
      split : (b : Bool) → fits t n ≡ b
          → Hold s (at (cond b (record { cases = record { number = n; known = all_of F.by } ∷ []; others = Never })
          (whatever (all_of F.by))) (Some x.value))
      split false e = all-of-holds s l F h
      split true e =
          let is : record { type = t; value = pos n } ≡ x =
          same-gives (record { type = t; value = pos n }) x (sym (fits-stays t n e) ∙ m) in
          let one : nat_eq n n ≡ true = grind (arith, nat_tests) in
          subst (λ (x : CValue). Hold s (at (record {
            cases = record { number = n; known = all_of F.by } ∷ [];
            others = Never;
          }) (Some x.value))) is
          (subst (λ (b : Bool). Hold s (cond b (all_of F.by) Never)) (sym one) (all-of-holds s l F h))

  value-of-local : (t : CType) (i : ℕ) (x : CValue) (v : Option ℤ) → l t i ≡ v → read_as t v ≡ Gives x
      → l t i ≡ Some x.value
  value-of-local t i x (Some z) e m =
      e ∙ ap (λ (x : CValue). Some x.value) (same-gives (record { type = t; value = z }) x m)
  value-of-local t i x None e m = absurd cc

  local-holds : (t : CType) (i : ℕ) (x : CValue) → read_as t (l t i) ≡ Gives x → (b : Bool) → is_local t i F ≡ b
      → Hold s (at (cond b F.by (whatever (all_of F.by))) (Some x.value))
  local-holds t i x m true is =
      subst (λ (v : Option ℤ). Hold s (at F.by v)) (local-is l t i F is ∙ value-of-local t i x (l t i) refl m) h
  local-holds t i x m false is = all-of-holds s l F h

  -- what a comparison gives
  compared-is : (op : Comparison) (a b : Meaning) (x : CValue)
      → with_meaning a (λ x. with_meaning b (compared int op x)) ≡ Gives x → (c : Bool) × (x.value ≡ one_if c)
  compared-is op Wrong b x m = absurd cc
  compared-is op (Gives y) Wrong x m = absurd cc
  compared-is op (Gives y) (Gives z) x m = first (converted t y.value) m
    where
      t : CType
      t = common int y.type z.type

      last : (c : Bool) → truth int c ≡ Gives x → (c : Bool) × (x.value ≡ one_if c)
      last c m =
          (c, sym (ap (λ (x : CValue). x.value) (same-gives (record { type = Signed int; value = one_if c }) x m)))

      second : (p : CValue) (q : Meaning) → with_meaning q (λ b. truth int (passes op p.value b.value)) ≡ Gives x
          → (c : Bool) × (x.value ≡ one_if c)
      second p (Gives q) m = last (passes op p.value q.value) m
      second p Wrong m = absurd cc

      first : (p : Meaning)
          → with_meaning p (λ a. with_meaning (converted t z.value) (λ b. truth int (passes op a.value b.value)))
          ≡ Gives x → (c : Bool) × (x.value ≡ one_if c)
      first (Gives p) m = second p (converted t z.value) m
      first Wrong m = absurd cc

  compare-holds : (op : Comparison) (a b : CExpr) (x : CValue) → meaning int s l (Compare op a b) ≡ Gives x
      → Hold s (at (by_value (Compare op a b) F) (Some x.value))
  unfolding meaning
  compare-holds op a b x m =
      let is = compared-is op (meaning int s l a) (meaning int s l b) x m in split is.0 is.1
    where
      split : (c : Bool) → x.value ≡ one_if c → Hold s (at (by_value (Compare op a b) F) (Some x.value))
      split true is =
          subst (λ (z : ℤ). Hold s (at (by_value (Compare op a b) F) (Some z))) (sym is)
          (all-of-holds s l (test true (Compare op a b) F)
          (test-holds int s l true (Compare op a b) x F h m (ap is_true is)))
      split false is =
          subst (λ (z : ℤ). Hold s (at (by_value (Compare op a b) F) (Some z))) (sym is)
          (all-of-holds s l (test false (Compare op a b) F)
          (test-holds int s l false (Compare op a b) x F h m (ap is_true is)))

  pub by-value-holds : (e : CExpr) (x : CValue) → meaning int s l e ≡ Gives x
      → Hold s (at (by_value e F) (Some x.value))
  unfolding meaning
  by-value-holds (Const t z) x m = constant-holds t z x m
  by-value-holds (Field f) x m = all-of-holds s l F h
  by-value-holds (Element a e) x m = all-of-holds s l F h
  by-value-holds (Local t i) x m = local-holds t i x m (is_local t i F) refl
  by-value-holds (Cast t e) x m = all-of-holds s l F h
  by-value-holds (Minus e) x m = all-of-holds s l F h
  by-value-holds (Bang e) x m = all-of-holds s l F h
  by-value-holds (Calc op a b) x m = all-of-holds s l F h
  by-value-holds (Divide op a b) x m = all-of-holds s l F h
  by-value-holds (Bits op a b) x m = all-of-holds s l F h
  by-value-holds (Compare op a b) x m = compare-holds op a b x m
  by-value-holds (Both a b) x m = all-of-holds s l F h
  by-value-holds (Either a b) x m = all-of-holds s l F h
  by-value-holds (Choose t c a b) x m = all-of-holds s l F h

  -- ---- x = e;

  pub after-set-holds : (t : CType) (i : ℕ) (e : CExpr) (y : CValue)
      → with_meaning (meaning int s l e) (λ x. converted t x.value) ≡ Gives y
      → Holds s (with_local l t i y.value) (after_set t i e F)
  after-set-holds t i e y m = split (is_local t i F) refl (meaning int s l e) refl m
    where
      split : (b : Bool) → is_local t i F ≡ b → (z : Meaning) → meaning int s l e ≡ z
          → with_meaning z (λ x. converted t x.value) ≡ Gives y
          → Holds s (with_local l t i y.value)
          (cond b (record { type = t; local = i; by = brought t (by_value e F) }) F)
      split true is (Gives x) ex m =
          set-holds s l t i y.value (brought t (by_value e F))
          (brought-holds s t (by_value e F) x.value y (by-value-holds e x ex) m)
      split false is (Gives x) ex m =
          subst (λ (b : Bool). Hold s (at F.by (cond b (Some y.value) (l F.type F.local)))) (sym is) h
      split b is Wrong ex m = absurd cc

-- ---- m->f = e;

pub after-store-holds : (int : Width) (s : Store) (l : Locals) (f : ℕ) (e : CExpr) (y : CValue) (F : Facts)
    → Holds s l F → with_meaning (meaning int s l e) (λ x. brought_to (slice_get s.fields f) x.value) ≡ Gives y
    → Holds (with_field s f y) l (each_fact (stored f e) F)
after-store-holds int s l f e y F h m =
    each-holds s (with_field s f y) (stored f e) (λ k hk. stored-holds int s l f e y k m hk) F.by.cases F.by.others
    (l F.type F.local) h

-- ---- x = f(..);

pub after-call-holds : (P : Plan) (s after : Store) (l : Locals) (t : CType) (i f : ℕ) (x y : CValue) (F : Facts)
    → Holds s l F → Hold after (at (P.leaves f) (Some x.value)) → Same (P.touched f) s after
    → converted t x.value ≡ Gives y → Holds after (with_local l t i y.value) (after_call P t i f F)
after-call-holds P s after l t i f x y F h left same to =
    let frame : Known → Known = framed (is_touched (P.touched f)) (all_of F.by) in
    set-holds after l t i y.value (brought t (each frame (P.leaves f)))
    (brought-holds after t (each frame (P.leaves f)) x.value y
    (each-holds after after frame
    (λ k hk. framed-holds s after (is_touched (P.touched f)) same (all_of F.by) k (all-of-holds s l F h) hk)
    (P.leaves f).cases (P.leaves f).others (Some x.value) left) to)
