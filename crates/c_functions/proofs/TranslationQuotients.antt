-- A quotient: the divisor as a local, the fault where it is 0, and the quotient as a local.
use Rattle.std.proofs.Common.{◌≡◌, ℕ, ◌+◌, ◌<◌, ◌≤◌, max, nat_eq, ℤ, pos, ◌^◌, unsigned_abs, Bool, true, false, cond}
use Rattle.std.proofs.Common.{not, Some, Ok, Err, refl, ap, ◌∙◌, arith}
use Rattle.std.proofs.lemmas.Int.{ints}
use Rattle.std.proofs.lemmas.Bool.Decides.{nat_tests}
use Rattle.flow_base.specs.declared.fault.Fault.{Fault}
use Rattle.flow_base.specs.declared.fault.Fault.TheVariants.{Zero as ZeroDivisor}
use Rattle.fixed_point.specs.declared.num.Num.{Num}
use Rattle.fixed_point.specs.Numbers.{common_frac, floor_div, dividend_of, quotient_of}
use Rattle.actions.specs.declared.expr.Value.TheVariants as values
use Rattle.actions.specs.declared.sort.ExprSort.{ExprSort}
use Rattle.actions.specs.declared.sort.ExprSort.TheVariants as kinds
use Rattle.actions.specs.Sorts.{size_at, quotient_sort}
use Rattle.actions.specs.Values.{quotient_value}
use Rattle.actions.proofs.MagnitudeLemmas.{size-weaker, dividend-within}
use Rattle.actions.proofs.OperatorLemmas.{AreSized, number_within-is}
use Rattle.c_subset.specs.Trees.{CExpr, Const, Local}
use Rattle.c_subset.specs.declared.trees.Width.{Width}
use Rattle.c_subset.specs.declared.trees.CType.{CType}
use Rattle.c_subset.specs.declared.trees.CType.TheVariants.{Signed}
use Rattle.c_subset.specs.declared.trees.Comparison.TheVariants.{IsEqual}
use Rattle.c_subset.specs.Meaning.{bits, Meaning, with_meaning, gives, converted, passes, one_if, is_true, read_as}
use Rattle.c_subset.specs.Meaning.{Store, Locals, meaning}
use Rattle.c_subset.specs.Running.{with_local}
use Rattle.c_subset.proofs.TypeLemmas.{truth-stays}
use Rattle.c_functions.specs.Code.{CCode, Then, Set, Divide, FaultIf, Ending, Goes, Faults, with_result, ending}
use Rattle.c_functions.specs.Translation.{Flat, quotient_flat, quotient_width, dividend_c, is_zero_c}
use Rattle.c_functions.specs.Claims.{Has, AgreeBelow, EndsAs}
use Rattle.c_functions.proofs.TranslationRoom.{width_for-room, signed-stays}
use Rattle.c_functions.proofs.TranslationOperators.{const-roomy, compare-has, local-roomy, divide-goes}
use Rattle.c_functions.proofs.TranslationNumbers.{dividend-has}
use Rattle.c_functions.proofs.CodePieces.{agree-through, agree-itself, agree-set, set-there, then-goes, then-ends}
use Rattle.c_functions.proofs.CodePieces.{then-faults}

-- a local is set to what the expression gives in its type
pub set-goes : (int : Width) (s : Store) (l : Locals) (k : ℕ) (t : CType) (e : CExpr) (z z' : ℤ) → Has int s l e z
    → converted t z ≡ gives t z' → ending int s l (Set t k e) ≡ Goes (with_local l t k z')
unfolding ending
set-goes int s l k t e z z' has to =
    ap (λ (m : Meaning). with_result (with_meaning m (λ x. converted t x.value))
    (λ x. Goes (with_local l t k x.value))) has.1
    ∙ ap (λ (m : Meaning). with_result m (λ x. Goes (with_local l t k x.value))) to

-- a local that is set is read
pub local-has : (int : Width) (s : Store) (l : Locals) (t : CType) (k : ℕ) (z : ℤ) → l t k ≡ Some z → Has int s l
    (Local t k) z
unfolding meaning
local-has int s l t k z there = (t, ap (read_as t) there)

-- a test that faults
pub fault_if-ends : (int : Width) (s : Store) (l : Locals) (x : Fault) (e : CExpr) (b : Bool) → Has int s l e (one_if b)
    → ending int s l (FaultIf x e) ≡ cond b (Faults x) (Goes l)
unfolding ending
fault_if-ends int s l x e b has =
    ap (λ (m : Meaning). with_result m (λ y. cond (is_true y.value) (Faults x) (Goes l))) has.1
    ∙ ap (λ (c : Bool). cond c (Faults x) (Goes l)) (truth-stays b)

-- the test of a divisor, which is a local
zero-ends : (int : Width) (s : Store) (l : Locals) (w : Width) (k size : ℕ) (z : ℤ) (b : Bool) → size + 1 < bits w
    → unsigned_abs z ≤ 2 ^ size → l (Signed w) k ≡ Some z → is_true z ≡ b
    → ending int s l (FaultIf ZeroDivisor (is_zero_c (Signed w) (Local (Signed w) k))) ≡ cond b (Goes l)
    (Faults ZeroDivisor)
zero-ends int s l w k size z b room small there is =
    let nothing : unsigned_abs (pos 0) ≤ 2 ^ size = omega arith in
    fault_if-ends int s l ZeroDivisor (is_zero_c (Signed w) (Local (Signed w) k)) (passes IsEqual z (pos 0))
    (compare-has int s l IsEqual size (Local (Signed w) k) (Const (Signed w) (pos 0)) z (pos 0)
    (local-roomy int s l w k size z room there) (const-roomy int s l w size (pos 0) room nothing) small nothing)
    ∙ at (passes IsEqual z (pos 0)) (is_true z) (none z) ∙ ap (λ (c : Bool). cond c (Goes l) (Faults ZeroDivisor)) is
  where
    none : (z : ℤ) → passes IsEqual z (pos 0) ≡ not (is_true z)
    none z = grind (arith, ints, nat_tests)

    at : (p q : Bool) → p ≡ not q → cond p (Faults ZeroDivisor) (Goes l) ≡ cond q (Goes l) (Faults ZeroDivisor)
    at p true e = ap (λ (c : Bool). cond c (Faults ZeroDivisor) (Goes l)) e
    at p false e = ap (λ (c : Bool). cond c (Faults ZeroDivisor) (Goes l)) e

-- a quotient of two numbers of these sizes
pub quotient-ends : (int : Width) (s : Store) (l : Locals) (n : ℕ) (a b : Flat) (p q : Num) (ma mb : ℕ)
    (sort : ExprSort)
    → n ≤ a.next → a.next ≤ b.next → AreSized p q ma mb → mb ≤ 100 → quotient_sort p.frac ma q.frac mb ≡ Ok sort
    → EndsAs int s n a l (Ok (values.Number p)) → ((m : Locals) → EndsAs int s a.next b m (Ok (values.Number q)))
    → EndsAs int s n (quotient_flat (kinds.Number p.frac ma) (kinds.Number q.frac mb) a b) l
    (quotient_value (quotient_of p q))
quotient-ends int s l n a b p q ma mb sort na nb sized most_right e ha hb = at (nat_eq (unsigned_abs q.mantissa) 0) refl
  where
    k : ℕ
    k = b.next

    w : Width
    w = quotient_width p.frac ma q.frac mb

    own : ℕ
    own = size_at (common_frac p q) p.frac ma + q.frac

    size : ℕ
    size = max own mb

    dividend : CExpr
    dividend = dividend_c (kinds.Number p.frac ma) (kinds.Number q.frac mb) a.expr

    result : ℤ
    result = floor_div (dividend_of p q) q.mantissa

    most : own ≤ 100
    most = (number_within-is (common_frac p q) own sort e).1

    room : size + 1 < bits w
    room = width_for-room size (omega (arith, most, most_right))

    left_after : Locals
    left_after = ha.0

    right_after : Locals
    right_after = (hb left_after).0

    with_divisor : Locals
    with_divisor = with_local right_after (Signed w) k q.mantissa

    with_quotient : Locals
    with_quotient = with_local with_divisor (Signed w) (k + 1) result

    sets_divisor : ending int s right_after (Set (Signed w) k b.expr) ≡ Goes with_divisor
    sets_divisor = set-goes int s right_after k (Signed w) b.expr q.mantissa q.mantissa
        ((hb left_after).3 right_after (agree-itself b.next right_after))
        (signed-stays w size q.mantissa room (size-weaker _ mb size sized.right (omega arith)))

    right_small : unsigned_abs q.mantissa ≤ 2 ^ size
    right_small = size-weaker _ mb size sized.right (omega arith)

    divisor_there : with_divisor (Signed w) k ≡ Some q.mantissa
    divisor_there = set-there right_after (Signed w) k q.mantissa

    divisor_has : Has int s with_divisor (Local (Signed w) k) q.mantissa
    divisor_has = local-has int s with_divisor (Signed w) k q.mantissa divisor_there

    agree : AgreeBelow a.next left_after with_divisor
    agree = agree-through a.next a.next left_after right_after with_divisor (omega arith) (hb left_after).2
        (agree-set a.next k right_after (Signed w) q.mantissa nb)

    test : CCode
    test = FaultIf ZeroDivisor (is_zero_c (Signed w) (Local (Signed w) k))

    tests : (c : Bool) → is_true q.mantissa ≡ c → ending int s with_divisor test ≡ cond c (Goes with_divisor)
        (Faults ZeroDivisor)
    tests c is = zero-ends int s with_divisor w k size q.mantissa c room right_small divisor_there is

    sets_quotient : is_true q.mantissa ≡ true
        → ending int s with_divisor (Divide w (k + 1) dividend (Local (Signed w) k)) ≡ Goes with_quotient
    sets_quotient some = divide-goes int s with_divisor w (k + 1) size dividend (Local (Signed w) k)
        (dividend_of p q) q.mantissa room
        (dividend-has int s with_divisor p q ma mb a.expr sort sized e most_right (ha.3 with_divisor agree)) divisor_has
        (size-weaker _ own size (dividend-within p q ma sized.left) (omega arith)) right_small some

    whole : Ending → CCode → Type 0
    whole end c = ending int s l (Then a.code (Then b.code (Then (Set (Signed w) k b.expr) c))) ≡ end

    so_far : (end : Ending) (c : CCode) → ending int s with_divisor c ≡ end → whole end c
    so_far end c is =
        then-ends int s l left_after a.code _ end ha.1
        (then-ends int s left_after right_after b.code _ end (hb left_after).1
        (then-ends int s right_after with_divisor (Set (Signed w) k b.expr) c end sets_divisor is))

    final : CCode
    final = Then test (Divide w (k + 1) dividend (Local (Signed w) k))

    kept : AgreeBelow n l with_quotient
    kept = agree-through n a.next l left_after with_quotient na ha.2
        (agree-through a.next (k + 1) left_after with_divisor with_quotient (omega arith) agree
        (agree-set (k + 1) (k + 1) with_divisor (Signed w) result (omega arith)))

    gives_quotient : (later : Locals) → AgreeBelow (k + 2) with_quotient later → Has int s later
        (Local (Signed w) (k + 1)) result
    gives_quotient later same = local-has int s later (Signed w) (k + 1) result
        (same (Signed w) (k + 1) (omega arith) ∙ set-there with_divisor (Signed w) (k + 1) result)

    at : (c : Bool) → nat_eq (unsigned_abs q.mantissa) 0 ≡ c
        → EndsAs int s n (quotient_flat (kinds.Number p.frac ma) (kinds.Number q.frac mb) a b) l
        (quotient_value (cond c (Err (record {})) (Ok (record { mantissa = result; frac = common_frac p q }))))
    at true zero_is = so_far (Faults ZeroDivisor) final
        (then-faults int s with_divisor _ _ ZeroDivisor (tests false (ap not zero_is)))
    at false some = (
      with_quotient,
      so_far (Goes with_quotient) final
          (then-goes int s with_divisor with_divisor with_quotient _ _ (tests true (ap not some))
          (sets_quotient (ap not some))),
      kept,
      gives_quotient,
    )
