-- The C of an expression that has a sort ends as its value does.
use Rattle.std.proofs.Common.{◌≡◌, ℕ, zero, suc, ◌^◌, ◌<◌, ◌≤◌, ℤ, pos, int_lt, neg_ℤ, unsigned_abs, Bool, true, false}
use Rattle.std.proofs.Common.{cond, not, IsTrue, List, [], ◌∷◌, length, Ok, Err, IfOk, if◌then◌else◌, refl, sym, ap}
use Rattle.std.proofs.Common.{◌∙◌, subst, arith}
use Rattle.std.proofs.lemmas.Int.{ints}
use Rattle.std.proofs.lemmas.Bool.Decides.{nat_tests}
use Rattle.std.proofs.lemmas.Result.{IfOk-at_ok}
use Rattle.fixed_point.specs.declared.num.Num.{Num}
use Rattle.fixed_point.specs.Numbers.{negation_of, quotient_of}
use Rattle.active_config.specs.Marks.{Configuration, is_on, mark_count}
use Rattle.actions.specs.declared.expr.Op.{Op}
use Rattle.actions.specs.declared.expr.Op.TheVariants as ops
use Rattle.actions.specs.declared.expr.Value.{Value}
use Rattle.actions.specs.declared.expr.Value.TheVariants as values
use Rattle.actions.specs.declared.names.Sort.{Sort}
use Rattle.actions.specs.declared.names.Sort.TheVariants as sorts
use Rattle.actions.specs.declared.sort.ExprSort.{ExprSort}
use Rattle.actions.specs.declared.sort.ExprSort.TheVariants as kinds
use Rattle.actions.specs.Data.{Datum, datum, value_at, is_mantissa_of, HaveTheirSorts, HasItsSort}
use Rattle.actions.specs.Exprs.{Expr, Lit, Flag, Read, Active, Neg, Not, Bin}
use Rattle.actions.specs.Sorts.{Scope, Sorted, IsNarrow, with_sort, negative_sort, not_sort, binary_sort, of_flags}
use Rattle.actions.specs.Sorts.{state_sort, literal_sort, least_size, sort_of, quotient_sort}
use Rattle.actions.specs.Values.{Valued, HasSort, with_value, applied, decides, number_of, flag_of, quotient_value}
use Rattle.actions.specs.Values.{value_of, scope_at}
use Rattle.actions.proofs.MagnitudeLemmas.{unsigned_abs-neg}
use Rattle.actions.proofs.OperatorLemmas.{number_within-is}
use Rattle.actions.proofs.OperandLemmas.{applied-has_sort, has_flag}
use Rattle.actions.proofs.NarrowLemmas.{sort_of-narrow}
use Rattle.actions.proofs.SortLemmas.{literal-has_sort, value-has_sort, datum-there}
use Rattle.c_subset.specs.Trees.{CExpr, Const, Field, Bang}
use Rattle.c_subset.specs.declared.trees.Width.{Width}
use Rattle.c_subset.specs.declared.trees.CType.TheVariants.{Signed, Truth}
use Rattle.c_subset.specs.Meaning.{gives, read, one_if, Store, Locals, meaning}
use Rattle.c_functions.specs.Code.{Nothing, Faults, ending}
use Rattle.c_functions.specs.Translation.{Flat, flat, operator_flat, operator_c, eager_flat, lazy_flat, quotient_flat}
use Rattle.c_functions.specs.Translation.{negation_c, sort_in, width_for, is_nothing}
use Rattle.c_functions.specs.Claims.{ShowsData, ShowsActive, field_type, Has, shown, EndsAs}
use Rattle.c_subset.proofs.TypeLemmas.{truth-stays}
use Rattle.c_functions.proofs.TranslationRoom.{width_for-room}
use Rattle.c_functions.proofs.TranslationOperators.{has_roomy, const-roomy, bang-has}
use Rattle.c_functions.proofs.TranslationNumbers.{negation-has}
use Rattle.c_functions.proofs.TranslationValues.{number_sort, flag_sort, flag-number, number-flag, computes, IsEager}
use Rattle.c_functions.proofs.CodePieces.{eager-ends, agree-itself, then-faults, then-ends}
use Rattle.c_functions.proofs.TranslationQuotients.{quotient-ends}
use Rattle.c_functions.proofs.TranslationDecisions.{and-ends, or-ends}

-- ---- sorts of parts

with_sort_there : (s : Sorted) (f : ExprSort → Sorted) (sort : ExprSort) → with_sort s f ≡ Ok sort
    → (part : ExprSort) × (s ≡ Ok part) × (f part ≡ Ok sort)
with_sort_there (Ok part) f sort e = (part, refl, e)
with_sort_there (Err fault) f sort e = cc

record AreSorts (c : Scope) (op : Op) (a b : Expr) (sort : ExprSort) : Type 0 where
  left : ExprSort
  right : ExprSort
  left_is : sort_of c a ≡ Ok left
  right_is : sort_of c b ≡ Ok right
  given : binary_sort op left right ≡ Ok sort

operator_sorts : (c : Scope) (op : Op) (a b : Expr) (sort : ExprSort) → sort_of c (Bin op a b) ≡ Ok sort
    → AreSorts c op a b sort
unfolding sort_of
operator_sorts c op a b sort e =
    let left = with_sort_there (sort_of c a) (λ l. with_sort (sort_of c b) (binary_sort op l)) sort e in
    let right = with_sort_there (sort_of c b) (binary_sort op left.0) sort left.2 in
    record { left = left.0; right = right.0; left_is = left.1; right_is = right.1; given = right.2 }

-- operands of && and || are flags
record AreFlags (left right sort : ExprSort) : Type 0 where
  left_is : left ≡ kinds.Flag
  right_is : right ≡ kinds.Flag
  sort_is : sort ≡ kinds.Flag

of_flags-are : (left right sort : ExprSort) → of_flags left right ≡ Ok sort → AreFlags left right sort
of_flags-are kinds.Flag kinds.Flag sort e = record { left_is = refl; right_is = refl; sort_is = cc }
of_flags-are kinds.Flag (kinds.Number f m) sort e = cc
of_flags-are (kinds.Number f m) kinds.Flag sort e = cc
of_flags-are (kinds.Number f m) (kinds.Number g n) sort e = cc

-- ---- leaves

-- an expression without code
leaf-ends : (int : Width) (s : Store) (l : Locals) (n : ℕ) (e : CExpr) (value : Value)
    → ((later : Locals) → Has int s later e (shown value))
    → EndsAs int s n (record { code = Nothing; expr = e; next = n }) l (Ok value)
unfolding ending
leaf-ends int s l n e value has = (l, refl, agree-itself n l, λ later agree. has later)

literal-has : (int : Width) (s : Store) (l : Locals) (x : Num) (sort : ExprSort) → literal_sort x ≡ Ok sort
    → Has int s l (Const (Signed (width_for (least_size (unsigned_abs x.mantissa)))) x.mantissa) x.mantissa
literal-has int s l x sort e =
    let size = least_size (unsigned_abs x.mantissa) in
    let within = number_within-is x.frac size sort e in
    let has = subst (λ (t : ExprSort). HasSort t (values.Number x)) within.2 (literal-has_sort x sort e) in
    has_roomy int s l size _ _
    (const-roomy int s l (width_for size) size x.mantissa (width_for-room size within.1) has.1)

flag-has : (int : Width) (s : Store) (l : Locals) (b : Bool) → Has int s l (Const Truth (one_if b)) (one_if b)
unfolding meaning
flag-has int s l b = (Truth, ap (λ (c : Bool). gives Truth (one_if c)) (truth-stays b))

-- a value that a mantissa of the sort stands for is shown by it
shown-mantissa : (sort : Sort) (m : ℤ) → IsTrue (is_mantissa_of sort m) → shown (value_at sort m) ≡ m
shown-mantissa sorts.Flag m is = at (int_lt (pos 0) m) refl
  where
    at : (b : Bool) → int_lt (pos 0) m ≡ b → one_if b ≡ m
    at true e = grind (arith, ints)
    at false e = grind (arith, ints)
shown-mantissa (sorts.Number scale) m is = refl

datum-sorted : (vals : List Datum) (v : ℕ) → v < length vals → HaveTheirSorts vals → HasItsSort (datum vals v)
unfolding datum
datum-sorted [] v lt all = absurd (omega arith)
datum-sorted (d ∷ vals) zero lt all = all.0
datum-sorted (d ∷ vals) (suc v) lt all = datum-sorted vals v (omega arith) all.1

field-has : (int : Width) (s : Store) (l : Locals) (vals : List Datum) (v : ℕ) → ShowsData vals s
    → v < length vals → HasItsSort (datum vals v)
    → Has int s l (Field v) (shown (value_at (datum vals v).sort (datum vals v).mantissa))
unfolding meaning
field-has int s l vals v show lt fits =
    let d = datum vals v in
    subst (λ (z : ℤ). Has int s l (Field v) z) (sym (shown-mantissa d.sort d.mantissa fits))
    (field_type d.sort, ap read (show v lt))

state-there : (states q : ℕ) (sort : ExprSort) → state_sort states q ≡ Ok sort → q < states
state-there states q sort e = grind (arith, nat_tests)

state-flag : (states q : ℕ) (sort : ExprSort) → state_sort states q ≡ Ok sort → sort ≡ kinds.Flag
state-flag states q sort e = grind (arith, nat_tests)

-- ---- one operand

-- another expression over the same code
same-code : (int : Width) (s : Store) (l : Locals) (n : ℕ) (f : Flat) (e : CExpr) (v : Valued) (g : Value → Value)
    → EndsAs int s n f l v
    → ((x : Value) → v ≡ Ok x → (later : Locals) → Has int s later f.expr (shown x) → Has int s later e (shown (g x)))
    → EndsAs int s n (record f { expr = e }) l (with_value v (λ x. Ok (g x)))
same-code int s l n f e (Err fault) g has to = has
same-code int s l n f e (Ok x) g has to = (has.0, has.1, has.2, λ later agree. to x refl later (has.3 later agree))

-- what has the sort of an operand of `-`
negative-has : (int : Width) (s : Store) (l : Locals) (part sort : ExprSort) (x : Value) (e : CExpr)
    → negative_sort part ≡ Ok sort → IsNarrow part → HasSort part x → Has int s l e (shown x)
    → Has int s l (negation_c part e) (shown (values.Number (negation_of (number_of x))))
negative-has int s l kinds.Flag sort x e is narrow sorted has = cc
negative-has int s l (kinds.Number frac size) sort (values.Flag b) e is narrow sorted has = absurd sorted
negative-has int s l (kinds.Number frac size) sort (values.Number n) e is narrow sorted has =
    negation-has int s l size e n.mantissa narrow.1 sorted.1 has

negative-sorted : (part sort : ExprSort) (x : Value) → negative_sort part ≡ Ok sort → HasSort part x
    → HasSort sort (values.Number (negation_of (number_of x)))
negative-sorted kinds.Flag sort x is sorted = cc
negative-sorted (kinds.Number frac size) sort (values.Flag b) is sorted = absurd sorted
negative-sorted (kinds.Number frac size) sort (values.Number n) is sorted =
    let same : kinds.Number frac size ≡ sort = cc in
    let small : unsigned_abs (neg_ℤ n.mantissa) ≤ 2 ^ size = omega (arith, sorted.1, unsigned_abs-neg n.mantissa) in
    let has : HasSort (kinds.Number frac size) (values.Number (negation_of n)) = (sorted.0, small) in
    subst (λ (t : ExprSort). HasSort t (values.Number (negation_of n))) same has

not-has : (int : Width) (s : Store) (l : Locals) (part sort : ExprSort) (x : Value) (e : CExpr)
    → not_sort part ≡ Ok sort → HasSort part x → Has int s l e (shown x)
    → Has int s l (Bang e) (shown (values.Flag (not (flag_of x))))
not-has int s l (kinds.Number frac size) sort x e is sorted has = cc
not-has int s l kinds.Flag sort (values.Number n) e is sorted has = absurd sorted
not-has int s l kinds.Flag sort (values.Flag b) e is sorted has = bang-has int s l e b has

not-flag : (part sort : ExprSort) → not_sort part ≡ Ok sort → sort ≡ kinds.Flag
not-flag kinds.Flag sort e = cc
not-flag (kinds.Number frac size) sort e = cc

-- ---- two operands

-- where a value is there, f gives one with the property
if_ok-with : (v : Valued) (P Q : Value → Type 0) (f : Value → Valued) → IfOk v P → ((x : Value) → P x → IfOk (f x) Q)
    → IfOk (with_value v f) Q
if_ok-with (Ok x) P Q f has to = to x has
if_ok-with (Err fault) P Q f has to = tt

-- a decided value, or that of the operator, has the sort
chosen-sorted : (op : Op) (left right sort : ExprSort) (x : Value) (vb : Valued) → IsNarrow left → IsNarrow right
    → HasSort left x → IfOk vb (HasSort right) → binary_sort op left right ≡ Ok sort
    → IfOk (cond (decides op x) (Ok x) (with_value vb (applied op x))) (HasSort sort)
chosen-sorted ops.And left right sort x vb nl nr hl hr e = at (not (flag_of x))
  where
    are : AreFlags left right sort
    are = of_flags-are left right sort e

    at : (b : Bool) → IfOk (cond b (Ok x) (with_value vb (applied ops.And x))) (HasSort sort)
    at true = subst (λ (t : ExprSort). HasSort t x) (are.left_is ∙ sym are.sort_is) hl
    at false = if_ok-with vb (HasSort right) (HasSort sort) (applied ops.And x) hr
        (λ y h. applied-has_sort ops.And x y left right sort nl nr hl h e)
chosen-sorted ops.Or left right sort x vb nl nr hl hr e = at (flag_of x)
  where
    are : AreFlags left right sort
    are = of_flags-are left right sort e

    at : (b : Bool) → IfOk (cond b (Ok x) (with_value vb (applied ops.Or x))) (HasSort sort)
    at true = subst (λ (t : ExprSort). HasSort t x) (are.left_is ∙ sym are.sort_is) hl
    at false = if_ok-with vb (HasSort right) (HasSort sort) (applied ops.Or x) hr
        (λ y h. applied-has_sort ops.Or x y left right sort nl nr hl h e)
chosen-sorted other left right sort x vb nl nr hl hr e =
    if_ok-with vb (HasSort right) (HasSort sort) (applied other x) hr
    (λ y h. applied-has_sort other x y left right sort nl nr hl h e)

-- a flag that is passed through
passed-and : (vb : Valued) (right : ExprSort) → right ≡ kinds.Flag → IfOk vb (HasSort right)
    → with_value vb (applied ops.And (values.Flag true)) ≡ vb
passed-and (Err f) right is has = refl
passed-and (Ok (values.Flag q)) right is has = refl
passed-and (Ok (values.Number n)) right is has = absurd (subst (λ (t : ExprSort). HasSort t (values.Number n)) is has)

passed-or : (vb : Valued) (right : ExprSort) → right ≡ kinds.Flag → IfOk vb (HasSort right)
    → with_value vb (applied ops.Or (values.Flag false)) ≡ vb
passed-or (Err f) right is has = refl
passed-or (Ok (values.Flag q)) right is has = refl
passed-or (Ok (values.Number n)) right is has = absurd (subst (λ (t : ExprSort). HasSort t (values.Number n)) is has)

-- the ending of both sides
record AreBoth (int : Width) (s : Store) (l : Locals) (n : ℕ) (left right : ExprSort) (a b : Flat)
    (va vb : Valued) : Type 0 where
  up : n ≤ a.next
  up_more : a.next ≤ b.next
  left_narrow : IsNarrow left
  right_narrow : IsNarrow right
  left_sorted : IfOk va (HasSort left)
  right_sorted : IfOk vb (HasSort right)
  left_ends : EndsAs int s n a l va
  right_ends : (m : Locals) → EndsAs int s a.next b m vb

-- the value of an operator
abbrev operator_value : Op → Valued → Valued → Valued
operator_value op va vb = with_value va (λ x. if decides op x then Ok x else with_value vb (applied op x))

-- one of which both sides are always evaluated
eager-operator : (int : Width) (s : Store) (l : Locals) (n : ℕ) (op : Op) (left right sort : ExprSort) (a b : Flat)
    (va vb : Valued) → IsEager op → binary_sort op left right ≡ Ok sort → AreBoth int s l n left right a b va vb
    → EndsAs int s n (eager_flat op left right a b) l (with_value va (λ x. with_value vb (applied op x)))
eager-operator int s l n op left right sort a b va vb eager given both =
    eager-ends int s l n a b (operator_c op left right a.expr b.expr) va vb
    (applied op) both.up both.up_more both.left_ends both.right_ends
    (λ x y va_is vb_is. let c = computes int s op left right sort x y eager both.left_narrow both.right_narrow
    (IfOk-at_ok (HasSort left) va_is both.left_sorted) (IfOk-at_ok (HasSort right) vb_is both.right_sorted) given in
    (c.value, c.applied_is, λ later ha hb. c.has later a.expr b.expr ha hb))

-- a quotient
quotient-operator : (int : Width) (s : Store) (l : Locals) (n : ℕ) (left right sort : ExprSort) (a b : Flat)
    (va vb : Valued) → binary_sort ops.Div left right ≡ Ok sort → AreBoth int s l n left right a b va vb
    → EndsAs int s n (quotient_flat left right a b) l (with_value va (λ x. with_value vb (applied ops.Div x)))
quotient-operator int s l n left right sort a b (Err f) vb given both =
    then-faults int s l a.code _ f both.left_ends
quotient-operator int s l n left right sort a b (Ok x) (Err f) given both =
    then-ends int s l both.left_ends.0 a.code _ (Faults f) both.left_ends.1
    (then-faults int s both.left_ends.0 b.code _ f (both.right_ends both.left_ends.0))
quotient-operator int s l n left right sort a b (Ok (values.Flag p)) (Ok (values.Flag q)) given both =
    absurd (cc (flag_sort left p both.left_sorted, flag_sort right q both.right_sorted, given))
quotient-operator int s l n left right sort a b (Ok (values.Flag p)) (Ok (values.Number q)) given both =
    let r = number_sort right q both.right_narrow both.right_sorted in
    absurd (flag-number ops.Div q.frac r.size sort (cc (flag_sort left p both.left_sorted, r.is, given)))
quotient-operator int s l n left right sort a b (Ok (values.Number p)) (Ok (values.Flag q)) given both =
    let r = number_sort left p both.left_narrow both.left_sorted in
    absurd (number-flag ops.Div p.frac r.size sort (cc (r.is, flag_sort right q both.right_sorted, given)))
quotient-operator int s l n left right sort a b (Ok (values.Number p)) (Ok (values.Number q)) given both =
    let x = number_sort left p both.left_narrow both.left_sorted in
    let y = number_sort right q both.right_narrow both.right_sorted in
    let is : quotient_sort p.frac x.size q.frac y.size ≡ Ok sort = cc (x.is, y.is, given) in
    subst (λ (t : ExprSort). EndsAs int s n (quotient_flat t right a b) l (quotient_value (quotient_of p q))) (sym x.is)
    (subst (λ (t : ExprSort). EndsAs int s n (quotient_flat (kinds.Number p.frac x.size) t a b) l
    (quotient_value (quotient_of p q))) (sym y.is)
    (quotient-ends int s l n a b p q x.size y.size sort both.up both.up_more
    (record { left = x.small; right = y.small }) y.few is both.left_ends both.right_ends))

-- &&
and-operator : (int : Width) (s : Store) (l : Locals) (n : ℕ) (left right sort : ExprSort) (a b : Flat)
    (va vb : Valued) → of_flags left right ≡ Ok sort → AreBoth int s l n left right a b va vb
    → EndsAs int s n (operator_flat ops.And left right a b) l (operator_value ops.And va vb)
and-operator int s l n left right sort a b (Err f) vb given both = at (is_nothing b.code)
  where
    at : (c : Bool) → EndsAs int s n (if c then eager_flat ops.And left right a b else lazy_flat (λ e. e) a b) l (Err f)
    at true = then-faults int s l a.code _ f both.left_ends
    at false = then-faults int s l a.code _ f both.left_ends
and-operator int s l n left right sort a b (Ok (values.Number x)) vb given both =
    absurd (subst (λ (t : ExprSort). HasSort t (values.Number x))
    (of_flags-are left right sort given).left_is both.left_sorted)
and-operator int s l n left right sort a b (Ok (values.Flag p)) vb given both =
    let are = of_flags-are left right sort given in
    subst (λ (t : ExprSort). EndsAs int s n (operator_flat ops.And t right a b) l
    (operator_value ops.And (Ok (values.Flag p)) vb)) (sym are.left_is)
    (value p (and-ends int s l n a b p vb (is_nothing b.code) both.up both.up_more refl
    (subst (λ (t : ExprSort). IfOk vb (HasSort t)) are.right_is both.right_sorted) both.left_ends both.right_ends))
  where
    value : (p : Bool) → EndsAs int s n (operator_flat ops.And kinds.Flag right a b) l (cond p vb (Ok (values.Flag p)))
        → EndsAs int s n (operator_flat ops.And kinds.Flag right a b) l (operator_value ops.And (Ok (values.Flag p)) vb)
    value false has = has
    value true has = subst (λ (v : Valued). EndsAs int s n (operator_flat ops.And kinds.Flag right a b) l v)
        (sym (passed-and vb right (of_flags-are left right sort given).right_is both.right_sorted)) has

-- ||
or-operator : (int : Width) (s : Store) (l : Locals) (n : ℕ) (left right sort : ExprSort) (a b : Flat)
    (va vb : Valued) → of_flags left right ≡ Ok sort → AreBoth int s l n left right a b va vb
    → EndsAs int s n (operator_flat ops.Or left right a b) l (operator_value ops.Or va vb)
or-operator int s l n left right sort a b (Err f) vb given both = at (is_nothing b.code)
  where
    at : (c : Bool) → EndsAs int s n (if c then eager_flat ops.Or left right a b else lazy_flat Bang a b) l (Err f)
    at true = then-faults int s l a.code _ f both.left_ends
    at false = then-faults int s l a.code _ f both.left_ends
or-operator int s l n left right sort a b (Ok (values.Number x)) vb given both =
    absurd (subst (λ (t : ExprSort). HasSort t (values.Number x))
    (of_flags-are left right sort given).left_is both.left_sorted)
or-operator int s l n left right sort a b (Ok (values.Flag p)) vb given both =
    let are = of_flags-are left right sort given in
    subst (λ (t : ExprSort). EndsAs int s n (operator_flat ops.Or t right a b) l
    (operator_value ops.Or (Ok (values.Flag p)) vb)) (sym are.left_is)
    (value p (or-ends int s l n a b p vb (is_nothing b.code) both.up both.up_more refl
    (subst (λ (t : ExprSort). IfOk vb (HasSort t)) are.right_is both.right_sorted) both.left_ends both.right_ends))
  where
    value : (p : Bool) → EndsAs int s n (operator_flat ops.Or kinds.Flag right a b) l (cond p (Ok (values.Flag p)) vb)
        → EndsAs int s n (operator_flat ops.Or kinds.Flag right a b) l (operator_value ops.Or (Ok (values.Flag p)) vb)
    value true has = has
    value false has = subst (λ (v : Valued). EndsAs int s n (operator_flat ops.Or kinds.Flag right a b) l v)
        (sym (passed-or vb right (of_flags-are left right sort given).right_is both.right_sorted)) has

-- an operator
operator-ends : (int : Width) (s : Store) (l : Locals) (n : ℕ) (op : Op) (left right sort : ExprSort) (a b : Flat)
    (va vb : Valued) → binary_sort op left right ≡ Ok sort → AreBoth int s l n left right a b va vb
    → EndsAs int s n (operator_flat op left right a b) l (operator_value op va vb)
operator-ends int s l n ops.Div left right sort a b va vb given both =
    quotient-operator int s l n left right sort a b va vb given both
operator-ends int s l n ops.And left right sort a b va vb given both =
    and-operator int s l n left right sort a b va vb given both
operator-ends int s l n ops.Or left right sort a b va vb given both =
    or-operator int s l n left right sort a b va vb given both
operator-ends int s l n other left right sort a b va vb given both =
    eager-operator int s l n other left right sort a b va vb tt given both

-- it uses no fewer locals than its right side
operator-up : (op : Op) (left right : ExprSort) (a b : Flat) → b.next ≤ (operator_flat op left right a b).next
operator-up ops.Div left right a b = omega arith
operator-up ops.And left right a b = at (is_nothing b.code)
  where
    at : (c : Bool) → b.next ≤ (if c then eager_flat ops.And left right a b else lazy_flat (λ e. e) a b).next
    at true = omega arith
    at false = omega arith
operator-up ops.Or left right a b = at (is_nothing b.code)
  where
    at : (c : Bool) → b.next ≤ (if c then eager_flat ops.Or left right a b else lazy_flat Bang a b).next
    at true = omega arith
    at false = omega arith
operator-up other left right a b = omega arith

-- ---- every expression

-- what holds of an expression, with locals from n on
record IsCorrect (int : Width) (tests : ℕ → CExpr) (s : Store) (vals : List Datum) (marks : Configuration) (e : Expr)
    (n : ℕ) (l : Locals)
    (sort : ExprSort) : Type 0 where
  ends : EndsAs int s n (flat (scope_at vals marks) tests n e) l (value_of vals marks e)
  sorted : IfOk (value_of vals marks e) (HasSort sort)
  up : n ≤ (flat (scope_at vals marks) tests n e).next

correct : (int : Width) (tests : ℕ → CExpr) (s : Store) (vals : List Datum) (marks : Configuration)
    → HaveTheirSorts vals
    → ShowsData vals s → ShowsActive int tests marks s → (e : Expr) (n : ℕ) (l : Locals) (sort : ExprSort) → sort_of
    (scope_at vals marks) e ≡ Ok sort
    → IsCorrect int tests s vals marks e n l sort
unfolding sort_of value_of flat
correct int tests s vals marks fit show active (Lit x) n l sort is = record {
  ends = leaf-ends int s l n _ (values.Number x) (λ later. literal-has int s later x sort is);
  sorted = literal-has_sort x sort is;
  up = omega arith;
}
correct int tests s vals marks fit show active (Flag b) n l sort is = record {
  ends = leaf-ends int s l n _ (values.Flag b) (λ later. flag-has int s later b);
  sorted = has_flag sort b (cc);
  up = omega arith;
}
correct int tests s vals marks fit show active (Read v) n l sort is =
    let there = datum-there vals v sort is in
    let fits = datum-sorted vals v there.0 fit in
    let d = datum vals v in
    record {
      ends = leaf-ends int s l n _ (value_at d.sort d.mantissa)
          (λ later. field-has int s later vals v show there.0 fits);
      sorted = value-has_sort d.sort (value_at d.sort d.mantissa) sort (d.mantissa, fits, refl) there.1;
      up = omega arith;
    }
correct int tests s vals marks fit show active (Active q) n l sort is = record {
  ends = leaf-ends int s l n _ (values.Flag (is_on q marks))
      (λ later. active q later (state-there (mark_count marks) q sort is));
  sorted = has_flag sort (is_on q marks) (state-flag (mark_count marks) q sort is);
  up = omega arith;
}
correct int tests s vals marks fit show active (Neg a) n l sort is =
    let c = scope_at vals marks in
    let part = with_sort_there (sort_of c a) negative_sort sort is in
    let inner = correct int tests s vals marks fit show active a n l part.0 part.1 in
    let narrow = IfOk-at_ok IsNarrow part.1 (sort_of-narrow c a) in
    let f = flat c tests n a in
    record {
      ends = subst (λ (t : Sorted). EndsAs int s n (record f { expr = negation_c (sort_in t) f.expr }) l
          (value_of vals marks (Neg a))) (sym part.1)
          (same-code int s l n f (negation_c part.0 f.expr) (value_of vals marks a)
          (λ x. values.Number (negation_of (number_of x))) inner.ends
          (λ x x_is later has. negative-has int s later part.0 sort x f.expr part.2 narrow
          (IfOk-at_ok (HasSort part.0) x_is inner.sorted) has));
      sorted = if_ok-with (value_of vals marks a) (HasSort part.0) (HasSort sort) _ inner.sorted
          (λ x h. negative-sorted part.0 sort x part.2 h);
      up = inner.up;
    }
correct int tests s vals marks fit show active (Not a) n l sort is =
    let c = scope_at vals marks in
    let part = with_sort_there (sort_of c a) not_sort sort is in
    let inner = correct int tests s vals marks fit show active a n l part.0 part.1 in
    let f = flat c tests n a in
    record {
      ends = same-code int s l n f (Bang f.expr) (value_of vals marks a) (λ x. values.Flag (not (flag_of x))) inner.ends
          (λ x x_is later has. not-has int s later part.0 sort x f.expr part.2
          (IfOk-at_ok (HasSort part.0) x_is inner.sorted) has);
      sorted = if_ok-with (value_of vals marks a) (HasSort part.0) (HasSort sort) _ inner.sorted
          (λ x h. has_flag sort _ (not-flag part.0 sort part.2));
      up = inner.up;
    }
correct int tests s vals marks fit show active (Bin op a b) n l sort is =
    let c = scope_at vals marks in
    let sides = operator_sorts c op a b sort is in
    let left = correct int tests s vals marks fit show active a n l sides.left sides.left_is in
    let f = flat c tests n a in
    let right : (m : Locals) → IsCorrect int tests s vals marks b f.next m sides.right =
    λ m. correct int tests s vals marks fit show active b f.next m sides.right sides.right_is in
    let g = flat c tests f.next b in
    let narrow = IfOk-at_ok IsNarrow sides.left_is (sort_of-narrow c a) in
    let narrow' = IfOk-at_ok IsNarrow sides.right_is (sort_of-narrow c b) in
    let both : AreBoth int s l n sides.left sides.right f g (value_of vals marks a) (value_of vals marks b) = record {
      up = left.up;
      up_more = (right l).up;
      left_narrow = narrow;
      right_narrow = narrow';
      left_sorted = left.sorted;
      right_sorted = (right l).sorted;
      left_ends = left.ends;
      right_ends = λ m. (right m).ends;
    } in
    record {
      ends = subst (λ (t : Sorted). EndsAs int s n (operator_flat op (sort_in t) (sort_in (sort_of c b)) f g) l
          (value_of vals marks (Bin op a b))) (sym sides.left_is)
          (subst (λ (t : Sorted). EndsAs int s n (operator_flat op sides.left (sort_in t) f g) l
          (value_of vals marks (Bin op a b))) (sym sides.right_is)
          (operator-ends int s l n op sides.left sides.right sort f g (value_of vals marks a)
          (value_of vals marks b) sides.given both));
      sorted = if_ok-with (value_of vals marks a) (HasSort sides.left) (HasSort sort) _ left.sorted
          (λ x h. chosen-sorted op sides.left sides.right sort x (value_of vals marks b) narrow narrow' h
          (right l).sorted sides.given);
      up = let more = operator-up op (sort_in (sort_of c a)) (sort_in (sort_of c b)) f g in omega
          (arith, left.up, (right l).up, more);
    }

-- the C ends as the value does
pub ends_as_value : (int : Width) (tests : ℕ → CExpr) (s : Store) (vals : List Datum) (marks : Configuration) (e : Expr)
    (n : ℕ) (l : Locals) (sort : ExprSort) → HaveTheirSorts vals → ShowsData vals s → ShowsActive int tests marks s
    → sort_of (scope_at vals marks) e ≡ Ok sort
    → EndsAs int s n (flat (scope_at vals marks) tests n e) l (value_of vals marks e)
ends_as_value int tests s vals marks e n l sort fit show active is =
    (correct int tests s vals marks fit show active e n l sort is).ends

-- and the value has the sort
pub value_has_sort : (int : Width) (tests : ℕ → CExpr) (s : Store) (vals : List Datum) (marks : Configuration)
    (e : Expr)
    (n : ℕ) (l : Locals) (sort : ExprSort) → HaveTheirSorts vals → ShowsData vals s → ShowsActive int tests marks s
    → sort_of (scope_at vals marks) e ≡ Ok sort → IfOk (value_of vals marks e) (HasSort sort)
value_has_sort int tests s vals marks e n l sort fit show active is =
    (correct int tests s vals marks fit show active e n l sort is).sorted

-- and it uses locals from n on
pub locals_up : (int : Width) (tests : ℕ → CExpr) (s : Store) (vals : List Datum) (marks : Configuration) (e : Expr)
    (n : ℕ) (l : Locals) (sort : ExprSort) → HaveTheirSorts vals → ShowsData vals s → ShowsActive int tests marks s
    → sort_of (scope_at vals marks) e ≡ Ok sort → n ≤ (flat (scope_at vals marks) tests n e).next
locals_up int tests s vals marks e n l sort fit show active is =
    (correct int tests s vals marks fit show active e n l sort is).up
