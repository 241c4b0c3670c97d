-- The whole C of an assignment of a number.
use Rattle.std.proofs.Common.{◌≡◌, ℕ, ◌+◌, ◌%◌, ◌^◌, ◌<◌, ◌≤◌, ℤ, pos, unsigned_abs, Bool, true, false, cond, Some}
use Rattle.std.proofs.Common.{None, Result, Ok, Err, is_err, nat_lt, List, refl, sym, ap, ◌∙◌, subst, arith, mod-lt}
use Rattle.std.proofs.Common.{mod-eq_of_lt}
use Rattle.std.proofs.lemmas.Int.{int_rem_euclid_is}
use Rattle.std.proofs.lemmas.Nat.{pow_pos}
use Rattle.std.specs.Int.{int_rem_euclid}
use Rattle.fixed_point.proofs.Powers.{power-le}
use Rattle.fixed_point.specs.Numbers.{floored}
use Rattle.fixed_point.specs.Scales.{is_in_range, by_mode, fitted}
use Rattle.fixed_point.specs.declared.num.Num.{Num}
use Rattle.fixed_point.specs.declared.scale.Scale.{Scale}
use Rattle.fixed_point.specs.declared.fitting.Mode.{Mode}
use Rattle.fixed_point.specs.declared.fitting.Mode.TheVariants.{Saturate, Wrap, Error}
use Rattle.actions.specs.declared.expr.Value.TheVariants as values
use Rattle.std.proofs.lemmas.Bool.Decides.{nat_tests}
use Rattle.std.proofs.lemmas.Result.{IfOk-at_ok}
use Rattle.active_config.specs.Marks.{Configuration}
use Rattle.actions.specs.declared.names.Sort.TheVariants as sorts
use Rattle.actions.specs.declared.sort.ExprSort.TheVariants as kinds
use Rattle.actions.specs.declared.sort.ExprFault.TheVariants as faults
use Rattle.actions.specs.Data.{Datum, HaveTheirSorts}
use Rattle.actions.specs.Exprs.{Expr}
use Rattle.actions.specs.Sorts.{size_at, sort_of, assignment_fault, IsNarrow}
use Rattle.actions.specs.Values.{Valued, HasSort, value_of, scope_at}
use Rattle.actions.proofs.NarrowLemmas.{sort_of-narrow}
use Rattle.c_functions.specs.Translation.{flat}
use Rattle.c_functions.specs.Claims.{ShowsData, ShowsActive}
use Rattle.c_functions.proofs.TranslationEnds.{ends_as_value, value_has_sort, locals_up}
use Rattle.flow_base.specs.declared.fault.Fault.TheVariants.{Overflow as Overflows}
use Rattle.fixed_point.specs.declared.fitting.Overflow.{Overflow}
use Rattle.c_subset.specs.Trees.{CExpr, Local}
use Rattle.c_subset.specs.declared.trees.Width.{Width}
use Rattle.c_subset.specs.declared.trees.Width.TheVariants.{W64}
use Rattle.c_subset.specs.declared.trees.CType.{CType}
use Rattle.c_subset.specs.declared.trees.CType.TheVariants.{Signed, Unsigned}
use Rattle.c_subset.specs.Meaning.{bits, gives, converted, read_as, Store, Locals, meaning}
use Rattle.c_subset.specs.Running.{with_local}
use Rattle.c_functions.specs.Code.{Nothing, Set, Goes, Faults, ending}
use Rattle.c_functions.specs.Translation.{Flat}
use Rattle.c_functions.specs.Storing.{floored_width, out_c, low_bits_c, rest_c, signed_c, brought_code}
use Rattle.c_functions.specs.Storing.{brought_local, low_local, rest_local, stored_c, StoresAs}
use Rattle.c_functions.specs.Claims.{Has, AgreeBelow, EndsAs}
use Rattle.c_functions.proofs.CodePieces.{agree-itself, agree-through, agree-set, set-there, then-goes, then-ends}
use Rattle.c_functions.proofs.TranslationQuotients.{set-goes, local-has, fault_if-ends}
use Rattle.c_functions.proofs.StoringScales.{floored-goes}
use Rattle.c_functions.proofs.StoringFields.{saturates, overflows, IsBrought}
use Rattle.c_functions.proofs.StoringWraps.{lifted, low_bits-is, wrapped-unsigned}
use Rattle.c_functions.proofs.TranslationDecisions.{nothing-goes}
use Rattle.c_functions.proofs.StoringSignedWraps.{rest_of, unsigned-at, rest-fits, rest-means, has-low}
use Rattle.c_functions.proofs.StoringKept.{kept-wrapped, wraps-signed}

-- low bits are as they are in uint64_t
low-stays : (z : ℤ) (k : ℕ) → k ≤ 64 → converted (Unsigned W64) (int_rem_euclid z (pos (2 ^ k))) ≡ gives (Unsigned W64)
    (int_rem_euclid z (pos (2 ^ k)))
low-stays z k few =
    let some = pow_pos k in
    let up = lifted z (2 ^ k) some in
    let is = int_rem_euclid_is z (pos (2 ^ k)) (2 ^ k) (unsigned_abs z) up.0 some refl up.1 in
    let low : up.0 % 2 ^ k < 2 ^ k = mod-lt up.0 some in
    let below : up.0 % 2 ^ k < 2 ^ 64 = omega (arith, low, power-le k 64 few) in
    ap (gives (Unsigned W64))
    (ap (λ (y : ℤ). int_rem_euclid y (pos (2 ^ 64))) is ∙ ap pos (mod-eq_of_lt below) ∙ sym is)

-- a local has its own type
local-means : (int : Width) (s : Store) (l : Locals) (t : CType) (k : ℕ) (z : ℤ) → l t k ≡ Some z → meaning int s l
    (Local t k) ≡ gives t z
unfolding meaning
local-means int s l t k z there = ap (read_as t) there

-- nothing overflows where the nearest end or the wrapped number is kept
no_overflow : (n : Num) (scale : Scale) (mode : Mode) (m : ℤ) → by_mode mode scale (floored n scale.frac) ≡ Ok m
    → is_err (fitted n scale mode) ≡ false
unfolding fitted
no_overflow n scale mode m is = at (is_in_range scale (floored n scale.frac))
  where
    at : (b : Bool) → is_err (cond b (Ok (floored n scale.frac)) (by_mode mode scale (floored n scale.frac))) ≡ false
    at true = refl
    at false = cc

-- what doesn't overflow is kept as it is
kept-own : (n : Num) (scale : Scale) (m : ℤ) → fitted n scale Error ≡ Ok m → floored n scale.frac ≡ m
unfolding fitted
kept-own n scale m is = at (is_in_range scale (floored n scale.frac)) is
  where
    at : (b : Bool) → cond b (Ok (floored n scale.frac)) (by_mode Error scale (floored n scale.frac)) ≡ Ok m
        → floored n scale.frac ≡ m
    at true e = cc
    at false e = cc

-- the number is brought to the datum's fraction
record Brought (int : Width) (s : Store) (l : Locals) (n : ℕ) (size : ℕ) (scale : Scale) (x : Flat)
    (v : Num) : Type 0 where
  after : Locals
  goes : ending int s l (brought_code v.frac size scale x) ≡ Goes after
  keeps : AgreeBelow n l after
  there : IsBrought after x.next v size scale

brings : (int : Width) (s : Store) (l : Locals) (n : ℕ) (size : ℕ) (scale : Scale) (x : Flat) (v : Num) → v.frac ≤ 64
    → unsigned_abs v.mantissa ≤ 2 ^ size → size_at scale.frac v.frac size ≤ 100
    → n ≤ x.next → EndsAs int s n x l (Ok (values.Number v)) → Brought int s l n size scale x v
brings int s l n size scale x v few small most up ends =
    let t = Signed (floored_width v.frac size scale.frac) in
    let z = floored v scale.frac in
    record {
      after = with_local ends.0 t x.next z;
      goes = then-goes int s l ends.0 (with_local ends.0 t x.next z) x.code _ ends.1
          (floored-goes int s ends.0 v x.next size scale.frac x.expr few small most
          (ends.3 ends.0 (agree-itself x.next ends.0)));
      keeps = agree-through n n l ends.0 (with_local ends.0 t x.next z) (omega arith) ends.2
          (agree-set n x.next ends.0 t z up);
      there = set-there ends.0 t x.next z;
    }

-- where nothing overflows there is no fault
no_fault : (n : Num) (scale : Scale) (mode : Mode) (m : ℤ) (e : Overflow) → by_mode mode scale (floored n scale.frac)
    ≡ Ok m
    → fitted n scale mode ≡ Err e → ⊥
no_fault n scale mode m e is err = absurd (cc (no_overflow n scale mode m is, ap is_err err))

module _ (int : Width) (s : Store) (l : Locals) (n d size : ℕ) (scale : Scale) (x : Flat) (v : Num)
    (most_int : bits int ≤ 64)
    (few : v.frac ≤ 64) (small : unsigned_abs v.mantissa ≤ 2 ^ size) (most : size_at scale.frac v.frac size ≤ 100)
    (up : n ≤ x.next) (ends : EndsAs int s n x l (Ok (values.Number v))) where
  abbrev w : Width
  w = floored_width v.frac size scale.frac

  b : Brought int s l n size scale x v
  b = brings int s l n size scale x v few small most up ends

  stores-saturated : (r : Result ℤ Overflow) → fitted v scale Saturate ≡ r
      → StoresAs int s n l d (stored_c d v.frac size scale Saturate x) r
  stores-saturated (Ok m) is =
      (b.after, b.goes, b.keeps, saturates int s b.after x.next v size scale m few small most b.there is)
  stores-saturated (Err e) is = absurd (no_fault v scale Saturate _ e refl is)

  -- the test before a store
  tests : ending int s l (stored_c d v.frac size scale Error x).code
      ≡ cond (is_err (fitted v scale Error)) (Faults (Overflows d)) (Goes b.after)
  tests = then-ends int s l b.after (brought_code v.frac size scale x) _ _ b.goes
      (fault_if-ends int s b.after (Overflows d)
      (out_c scale (size_at scale.frac v.frac size) w (brought_local v.frac size scale x))
      (is_err (fitted v scale Error)) (overflows int s b.after x.next v size scale few small most b.there))

  stores-tested : (r : Result ℤ Overflow) → fitted v scale Error ≡ r
      → StoresAs int s n l d (stored_c d v.frac size scale Error x) r
  stores-tested (Ok m) is = (
    b.after,
    tests ∙ ap (λ (r : Result ℤ Overflow). cond (is_err r) (Faults (Overflows d)) (Goes b.after)) is,
    b.keeps,
    subst (λ (z : ℤ). Has int s b.after (Local (Signed w) x.next) z) (kept-own v scale m is)
        (local-has int s b.after (Signed w) x.next (floored v scale.frac) b.there),
  )
  stores-tested (Err e) is = tests ∙ ap
      (λ (r : Result ℤ Overflow). cond (is_err r) (Faults (Overflows d)) (Goes b.after)) is

  stores-wrapped : (r : Result ℤ Overflow) → fitted v scale Wrap ≡ r
      → StoresAs int s n l d (stored_c d v.frac size scale Wrap x) r
  stores-wrapped (Err e) is = absurd (no_fault v scale Wrap _ e refl is)
  stores-wrapped (Ok m) is =
      let z = floored v scale.frac in
      let u = int_rem_euclid z (pos (2 ^ scale.width)) in
      let k = x.next + 1 in
      let after = with_local b.after (Unsigned W64) k u in
      let has : Has int s b.after (Local (Signed w) x.next) z = local-has int s b.after (Signed w) x.next z b.there in
      let sets = set-goes int s b.after k (Unsigned W64) (low_bits_c scale (Local (Signed w) x.next)) u u
      (Unsigned W64, low_bits-is int s b.after scale (Local (Signed w) x.next) z most_int has)
      (low-stays z scale.width scale.bits_within) in
      let keeps = agree-through n n l b.after after (omega arith) b.keeps
      (agree-set n k b.after (Unsigned W64) u (omega (arith, up))) in
      let r = at after keeps (set-there b.after (Unsigned W64) k u) scale.signed refl in
      (r.0, then-goes int s l b.after r.0 _ _ b.goes (then-goes int s b.after after r.0 _ _ sets r.1), r.2, r.3)
    where
      low : CExpr
      low = low_local x

      -- after the low bits are set
      at : (after : Locals) → AgreeBelow n l after
          → after (Unsigned W64) (x.next + 1) ≡ Some (int_rem_euclid (floored v scale.frac) (pos (2 ^ scale.width)))
          → (c : Bool) → scale.signed ≡ c
          → (last : Locals) × (ending int s after
          (cond c (Set (Unsigned W64) (x.next + 2) (rest_c scale low)) Nothing) ≡ Goes last)
          × AgreeBelow n l last × Has int s last (cond c (signed_c scale low (rest_local x)) low) m
      at after keeps there true sign =
          let h = has-low scale (floored v scale.frac) in
          let k = x.next + 1 in
          let j = x.next + 2 in
          let rest = pos (rest_of scale h.low) in
          let u = there ∙ ap Some h.is in
          let last = with_local after (Unsigned W64) j rest in
          let sets = set-goes int s after j (Unsigned W64) (rest_c scale low) rest rest (
            Unsigned W64,
            rest-means int s after scale low h.low most_int h.below
                (local-means int s after (Unsigned W64) k (pos h.low) u),
          )
          (unsigned-at (rest_of scale h.low) (rest-fits scale h.low)) in
          let agrees = agree-set j j after (Unsigned W64) rest (omega arith) in (
            last,
            sets,
            agree-through n n l after last (omega arith) keeps
                (agree-set n j after (Unsigned W64) rest (omega (arith, up))),
            wraps-signed int s last v scale low (rest_local x) m h most_int sign
                (local-means int s last (Unsigned W64) k (pos h.low)
                (agrees (Unsigned W64) k (omega arith) ∙ u))
                (local-means int s last (Unsigned W64) j rest (set-there after (Unsigned W64) j rest)) is,
          )
      at after keeps there false sign = (
        after,
        nothing-goes int s after Nothing refl,
        keeps,
        subst (λ (y : ℤ). Has int s after low y)
            (sym (wrapped-unsigned scale (floored v scale.frac) sign) ∙ kept-wrapped v scale m is)
            (local-has int s after (Unsigned W64) (x.next + 1) _ there),
      )

  -- the C of each mode
  stores : (mode : Mode) → StoresAs int s n l d (stored_c d v.frac size scale mode x) (fitted v scale mode)
  stores Saturate = stores-saturated (fitted v scale Saturate) refl
  stores Wrap = stores-wrapped (fitted v scale Wrap) refl
  stores Error = stores-tested (fitted v scale Error) refl

-- an assignment that has no fault is narrow
narrow-there : (size : ℕ) → cond (nat_lt 100 size) (Some faults.Wide) None ≡ None → size ≤ 100
narrow-there size e = at (nat_lt 100 size) refl e
  where
    at : (b : Bool) → nat_lt 100 size ≡ b → cond b (Some faults.Wide) None ≡ None → size ≤ 100
    at true is e = cc
    at false is e = grind (arith, nat_tests)

-- the C of an assignment of an expression
pub assigns : (int : Width) (tests : ℕ → CExpr) (s : Store) (vals : List Datum) (marks : Configuration) (e : Expr)
    (n d : ℕ) (l : Locals) (frac size : ℕ) (scale : Scale) (mode : Mode) (v : Num) → HaveTheirSorts vals
    → ShowsData vals s → ShowsActive int tests marks s → bits int ≤ 64
    → sort_of (scope_at vals marks) e ≡ Ok (kinds.Number frac size)
    → assignment_fault (sorts.Number scale) (kinds.Number frac size) ≡ None
    → value_of vals marks e ≡ Ok (values.Number v)
    → StoresAs int s n l d (stored_c d frac size scale mode (flat (scope_at vals marks) tests n e)) (fitted v scale mode)
assigns int tests s vals marks e n d l frac size scale mode v fit show active most_int sort none value =
    let c = scope_at vals marks in
    let x = flat c tests n e in
    let narrow = IfOk-at_ok IsNarrow sort (sort_of-narrow c e) in
    let has = IfOk-at_ok (HasSort (kinds.Number frac size)) value
    (value_has_sort int tests s vals marks e n l (kinds.Number frac size) fit show active sort) in
    let ends = subst (λ (w : Valued). EndsAs int s n x l w) value
    (ends_as_value int tests s vals marks e n l (kinds.Number frac size) fit show active sort) in
    let most : size_at scale.frac frac size ≤ 100 = narrow-there (size_at scale.frac frac size) none in
    let few : v.frac ≤ 64 = omega (arith, has.0, narrow.0) in
    subst (λ (f : ℕ). StoresAs int s n l d (stored_c d f size scale mode x) (fitted v scale mode)) has.0
    (stores int s l n d size scale x v most_int few has.1 (omega (arith, has.0, most))
    (locals_up int tests s vals marks e n l (kinds.Number frac size) fit show active sort) ends mode)
