-- C's operators on operands that have room.
use Rattle.std.proofs.Common.{◌≡◌, ℕ, suc, ◌+◌, ◌*◌, ◌^◌, ◌<◌, ◌≤◌, nat_eq, ℤ, pos, negsuc, ◌*ℤ◌, neg_ℤ, unsigned_abs}
use Rattle.std.proofs.Common.{Bool, true, false, cond, not, Some, refl, sym, ap, ◌∙◌, subst, arith}
use Rattle.fixed_point.proofs.Powers.{power-le}
use Rattle.fixed_point.specs.Numbers.{floor_div}
use Rattle.actions.proofs.MagnitudeLemmas.{size-weaker, shifted-within, unsigned_abs-neg, floor_div-within}
use Rattle.c_subset.specs.Trees.{CExpr, Const, Local, Cast, Minus}
use Rattle.c_subset.specs.declared.trees.Width.{Width}
use Rattle.c_subset.specs.declared.trees.CType.{CType}
use Rattle.c_subset.specs.declared.trees.CType.TheVariants.{Signed}
use Rattle.c_subset.specs.declared.trees.Arithmetic.{Arithmetic}
use Rattle.c_subset.specs.declared.trees.Arithmetic.TheVariants.{Times}
use Rattle.c_subset.specs.declared.trees.Comparison.{Comparison}
use Rattle.c_subset.specs.Trees.{Bang, Calc, Compare}
use Rattle.c_subset.specs.Meaning.{bits, CValue, Meaning, Wrong, with_meaning, gives, converted, as_signed, exact}
use Rattle.c_subset.specs.Meaning.{calculated, compared, passes, negated, truth, one_if, is_true, read_as, Store}
use Rattle.c_subset.specs.Meaning.{Locals, meaning}
use Rattle.c_functions.specs.Translation.{brought}
use Rattle.c_functions.specs.Claims.{Has}
use Rattle.c_subset.proofs.TypeLemmas.{promoted-signed, common-signed, truth-stays}
use Rattle.c_subset.specs.Running.{with_local}
use Rattle.c_functions.specs.Code.{Divide, Ending, Goes, floored_by, with_result, ending}
use Rattle.c_functions.proofs.TranslationRoom.{signed-stays}

-- a value of a signed type
abbrev signed : Width → ℤ → CValue
signed w z = record { type = Signed w; value = z }

-- two values of signed types with room for them and for the result
calculated-is : (int a b : Width) (op : Arithmetic) (size : ℕ) (x y : ℤ) → size + 1 < bits a → size + 1 < bits b
    → unsigned_abs x ≤ 2 ^ size → unsigned_abs y ≤ 2 ^ size → unsigned_abs (exact op x y) ≤ 2 ^ size
    → (v : Width) × (size + 1 < bits v) ×
    (calculated int op (signed a x) (signed b y) ≡ gives (Signed v) (exact op x y))
calculated-is int a b op size x y room room' left right result =
    let c = common-signed int a b in
    let wide : size + 1 < bits c.to = omega (arith, c.left) in
    let in_type : CType → Meaning = λ t. with_meaning (converted t x)
    (λ a. with_meaning (converted t y) (λ b. converted t (exact op a.value b.value))) in (
      c.to,
      wide,
      ap in_type c.is
          ∙ ap (λ (m : Meaning). with_meaning m
          (λ a. with_meaning (as_signed c.to y) (λ b. as_signed c.to (exact op a.value b.value))))
          (signed-stays c.to size x wide left)
          ∙ ap (λ (m : Meaning). with_meaning m (λ b. as_signed c.to (exact op x b.value)))
          (signed-stays c.to size y wide right)
          ∙ signed-stays c.to size (exact op x y) wide result,
    )

compared-is : (int a b : Width) (op : Comparison) (size : ℕ) (x y : ℤ) → size + 1 < bits a → size + 1 < bits b
    → unsigned_abs x ≤ 2 ^ size → unsigned_abs y ≤ 2 ^ size
    → compared int op (signed a x) (signed b y) ≡ truth int (passes op x y)
compared-is int a b op size x y room room' left right =
    let c = common-signed int a b in
    let wide : size + 1 < bits c.to = omega (arith, c.left) in
    let in_type : CType → Meaning = λ t. with_meaning (converted t x)
    (λ a. with_meaning (converted t y) (λ b. truth int (passes op a.value b.value))) in
    ap in_type c.is
    ∙ ap (λ (m : Meaning). with_meaning m
    (λ a. with_meaning (as_signed c.to y) (λ b. truth int (passes op a.value b.value))))
    (signed-stays c.to size x wide left)
    ∙ ap (λ (m : Meaning). with_meaning m (λ b. truth int (passes op x b.value))) (signed-stays c.to size y wide right)

negated-is : (int a : Width) (size : ℕ) (x : ℤ) → size + 1 < bits a → unsigned_abs x ≤ 2 ^ size
    → (v : Width) × (negated int (signed a x) ≡ gives (Signed v) (neg_ℤ x))
negated-is int a size x room small =
    let p = promoted-signed int a in
    let wide : size + 1 < bits p.to = omega (arith, p.wider) in (
      p.to,
      ap (λ (t : CType). with_meaning (converted t x) (λ a. converted t (neg_ℤ a.value))) p.is
          ∙ ap (λ (m : Meaning). with_meaning m (λ a. as_signed p.to (neg_ℤ a.value)))
          (signed-stays p.to size x wide small)
          ∙ signed-stays p.to size (neg_ℤ x) wide (omega (arith, unsigned_abs-neg x)),
    )

divided-is : (w : Width) (size : ℕ) (x y : ℤ) → size + 1 < bits w → unsigned_abs x ≤ 2 ^ size
    → unsigned_abs y ≤ 2 ^ size → is_true y ≡ true → floored_by w x y ≡ gives (Signed w) (floor_div x y)
divided-is w size x y room left right some =
    ap (λ (m : Meaning). with_meaning m
    (λ a. with_meaning (as_signed w y)
    (λ b. cond (is_true b.value) (as_signed w (floor_div a.value b.value)) Wrong)))
    (signed-stays w size x room left)
    ∙ ap (λ (m : Meaning). with_meaning m (λ b. cond (is_true b.value) (as_signed w (floor_div x b.value)) Wrong))
    (signed-stays w size y room right)
    ∙ ap (λ (b : Bool). cond b (as_signed w (floor_div x y)) Wrong) some
    ∙ signed-stays w size (floor_div x y) room (omega (arith, floor_div-within x y))

-- ---- expressions

-- the expression gives the whole number in a signed type with room for numbers of that size
pub record Roomy (int : Width) (s : Store) (l : Locals) (size : ℕ) (e : CExpr) (z : ℤ) : Type 0 where
  pub in_type : Width
  pub room : size + 1 < bits in_type
  pub is : meaning int s l e ≡ gives (Signed in_type) z

pub has_roomy : (int : Width) (s : Store) (l : Locals) (size : ℕ) (e : CExpr) (z : ℤ) → Roomy int s l size e z
    → Has int s l e z
has_roomy int s l size e z r = (Signed r.in_type, r.is)

pub cast-roomy : (int : Width) (s : Store) (l : Locals) (w : Width) (size : ℕ) (e : CExpr) (z : ℤ) → size + 1 < bits w
    → unsigned_abs z ≤ 2 ^ size → Has int s l e z → Roomy int s l size (Cast (Signed w) e) z
unfolding meaning
cast-roomy int s l w size e z room small has = record {
  in_type = w;
  room = room;
  is = ap (λ (m : Meaning). with_meaning m (λ x. as_signed w x.value)) has.1 ∙ signed-stays w size z room small;
}

pub const-roomy : (int : Width) (s : Store) (l : Locals) (w : Width) (size : ℕ) (z : ℤ) → size + 1 < bits w
    → unsigned_abs z ≤ 2 ^ size → Roomy int s l size (Const (Signed w) z) z
unfolding meaning
const-roomy int s l w size z room small = record { in_type = w; room = room; is = signed-stays w size z room small }

pub calc-roomy : (int : Width) (s : Store) (l : Locals) (op : Arithmetic) (size : ℕ) (a b : CExpr) (x y : ℤ)
    → Roomy int s l size a x → Roomy int s l size b y → unsigned_abs x ≤ 2 ^ size → unsigned_abs y ≤ 2 ^ size
    → unsigned_abs (exact op x y) ≤ 2 ^ size → Roomy int s l size (Calc op a b) (exact op x y)
unfolding meaning
calc-roomy int s l op size a b x y ra rb left right result =
    let c = calculated-is int ra.in_type rb.in_type op size x y ra.room rb.room left right result in
    record {
      in_type = c.0;
      room = c.1;
      is = ap (λ (m : Meaning). with_meaning m (λ x. with_meaning (meaning int s l b) (calculated int op x))) ra.is
          ∙ ap (λ (m : Meaning). with_meaning m (calculated int op (signed ra.in_type x))) rb.is ∙ c.2;
    }

pub compare-has : (int : Width) (s : Store) (l : Locals) (op : Comparison) (size : ℕ) (a b : CExpr) (x y : ℤ)
    → Roomy int s l size a x → Roomy int s l size b y → unsigned_abs x ≤ 2 ^ size → unsigned_abs y ≤ 2 ^ size
    → Has int s l (Compare op a b) (one_if (passes op x y))
unfolding meaning
compare-has int s l op size a b x y ra rb left right = (
  Signed int,
  ap (λ (m : Meaning). with_meaning m (λ x. with_meaning (meaning int s l b) (compared int op x))) ra.is
      ∙ ap (λ (m : Meaning). with_meaning m (compared int op (signed ra.in_type x))) rb.is
      ∙ compared-is int ra.in_type rb.in_type op size x y ra.room rb.room left right,
)

pub minus-has : (int : Width) (s : Store) (l : Locals) (size : ℕ) (a : CExpr) (x : ℤ)
    → Roomy int s l size a x → unsigned_abs x ≤ 2 ^ size → Has int s l (Minus a) (neg_ℤ x)
unfolding meaning
minus-has int s l size a x r small =
    let n = negated-is int r.in_type size x r.room small in
    (Signed n.0, ap (λ (m : Meaning). with_meaning m (negated int)) r.is ∙ n.1)

pub bang-has : (int : Width) (s : Store) (l : Locals) (a : CExpr) (b : Bool) → Has int s l a (one_if b)
    → Has int s l (Bang a) (one_if (not b))
unfolding meaning
bang-has int s l a b has = (
  Signed int,
  ap (λ (m : Meaning). with_meaning m (λ x. truth int (not (is_true x.value)))) has.1
      ∙ ap (λ (c : Bool). truth int (not c)) (truth-stays b),
)

-- a local of a signed type with room
pub local-roomy : (int : Width) (s : Store) (l : Locals) (w : Width) (k size : ℕ) (z : ℤ) → size + 1 < bits w
    → l (Signed w) k ≡ Some z → Roomy int s l size (Local (Signed w) k) z
unfolding meaning
local-roomy int s l w k size z room there = record { in_type = w; room = room; is = ap (read_as (Signed w)) there }

-- a quotient of numbers of that size
pub divide-goes : (int : Width) (s : Store) (l : Locals) (w : Width) (k size : ℕ) (a b : CExpr) (x y : ℤ)
    → size + 1 < bits w → Has int s l a x → Has int s l b y → unsigned_abs x ≤ 2 ^ size → unsigned_abs y ≤ 2 ^ size
    → is_true y ≡ true → ending int s l (Divide w k a b) ≡ Goes (with_local l (Signed w) k (floor_div x y))
unfolding ending
divide-goes int s l w k size a b x y room ha hb left right some =
    ap (λ (m : Meaning). with_result m
    (λ x. with_result (meaning int s l b) (λ y. with_result (floored_by w x.value y.value) set))) ha.1
    ∙ ap (λ (m : Meaning). with_result m (λ y. with_result (floored_by w x y.value) set)) hb.1
    ∙ ap (λ (m : Meaning). with_result m set) (divided-is w size x y room left right some)
  where
    set : CValue → Ending
    set z = Goes (with_local l (Signed w) k z.value)

-- ---- more bits after the point

-- a power has its exponent as size
power-small : (d size : ℕ) → d ≤ size → unsigned_abs (pos (2 ^ d)) ≤ 2 ^ size
power-small d size within = power-le d size within

pub brought-roomy : (int : Width) (s : Store) (l : Locals) (w : Width) (own size d : ℕ) (e : CExpr) (z : ℤ)
    → size + 1 < bits w → own + d ≤ size → unsigned_abs z ≤ 2 ^ own → Has int s l e z
    → Roomy int s l size (brought w d e) (z *ℤ pos (2 ^ d))
brought-roomy int s l w own size d e z room within small has = at (nat_eq d 0) refl
  where
    cast : Roomy int s l size (Cast (Signed w) e) z
    cast = cast-roomy int s l w size e z room (size-weaker _ own size small (omega arith)) has

    times : Roomy int s l size (Calc Times (Cast (Signed w) e) (Const (Signed w) (pos (2 ^ d)))) (z *ℤ pos (2 ^ d))
    times = calc-roomy int s l Times size _ _ z (pos (2 ^ d)) cast
        (const-roomy int s l w size (pos (2 ^ d)) room (power-small d size (omega arith)))
        (size-weaker _ own size small (omega arith)) (power-small d size (omega arith))
        (size-weaker _ (own + d) size (shifted-within z d own small) within)

    times_one : (x : ℤ) → x ≡ x *ℤ pos 1
    times_one (pos a) = let e : a ≡ a * 1 = omega arith in ap pos e
    times_one (negsuc a) = let e : suc a ≡ suc a * 1 = omega arith in ap (λ (x : ℕ). neg_ℤ (pos x)) e

    at : (b : Bool) → nat_eq d 0 ≡ b → Roomy int s l size
        (cond b (Cast (Signed w) e) (Calc Times (Cast (Signed w) e) (Const (Signed w) (pos (2 ^ d)))))
        (z *ℤ pos (2 ^ d))
    at false is = times
    at true is =
        let none : d ≡ 0 = grind arith in
        subst (λ (x : ℤ). Roomy int s l size (Cast (Signed w) e) x)
        (times_one z ∙ ap (λ (k : ℕ). z *ℤ pos (2 ^ k)) (sym none)) cast
