-- What a guard leaves of a box has the data at which the guard has its truth.
use Rattle.std.proofs.Common.{◌≡◌, ◌≢◌, ◌-◌, ◌^◌, ◌≤◌, ◌==◌, ◌⊎◌, inl, inr, ℕ, max, ℤ, pos}
use Rattle.std.proofs.Common.{◌*ℤ◌, Bool, true, false, not, ◌&&◌, ◌||◌, cond, int_lt, Ok, Err, List}
use Rattle.std.proofs.Common.{Option}
use Rattle.std.proofs.Common.{Some, None, refl, sym, ap, ◌∙◌, subst, arith, nat_le}
use Rattle.std.proofs.Common.{nat_eq}
use Rattle.std.proofs.lemmas.Int.{ints}
use Rattle.std.proofs.lemmas.Bool.Decides.{eqb_tells}
use Rattle.std.specs.Ordering.{is_eq, is_lt, is_le, is_gt, is_ge, int_cmp}
use Rattle.fixed_point.specs.declared.num.Num.{Num}
use Rattle.fixed_point.specs.declared.scale.Scale.{Scale}
use Rattle.fixed_point.specs.Numbers.{order_of}
use Rattle.fixed_point.proofs.Powers.{product_one}
use Rattle.active_config.specs.Marks.{Configuration}
use Rattle.actions.specs.declared.expr.Op.{Op}
use Rattle.actions.specs.declared.expr.Op.TheVariants as ops
use Rattle.actions.specs.declared.expr.Value.{Value}
use Rattle.actions.specs.declared.expr.Value.TheVariants as values
use Rattle.actions.specs.declared.names.Sort.{Sort}
use Rattle.actions.specs.declared.names.Sort.TheVariants as sorts
use Rattle.actions.specs.Data.{Datum, datum, value_of_datum, value_at}
use Rattle.actions.specs.Exprs.{Expr, Lit, Flag, Read, Active, Neg, Not, Bin}
use Rattle.actions.specs.Values.{Valued, with_value, value_of, flag_of, applied, decides}
use Rattle.range_spans.specs.Spans.{Span, IsIn, joined}
use Rattle.range_spans.specs.Narrow.{joined_box}
use Rattle.range_spans.specs.Narrow.{flag_narrow}
use Rattle.range_spans.specs.Narrow.{Box, put, cut, cut_at, datum_of, literal_of, compare_narrow, both_narrow, narrowed}
use Rattle.range_spans.specs.Narrow.{right_box}

-- ---- two numbers are the same or not

pub same_or_not : (P : Bool → Type 0) (u v : ℕ) → (u ≡ v → P true) → (u ≢ v → P false) → P (u == v)
same_or_not P u v h k = at (eqb_tells u v)
  where
    at : ((nat_eq u v ≡ true) × (u ≡ v)) ⊎ ((nat_eq u v ≡ false) × (u ≢ v)) → P (nat_eq u v)
    at (inl x) = subst P (sym x.0) (h x.1)
    at (inr x) = subst P (sym x.0) (k x.1)

-- ---- comparisons that hold, and that don't

cut_lt : (truth : Bool) (c m : ℤ) (s : Span) → IsIn s m → is_lt (int_cmp m c) ≡ truth → IsIn (cut ops.Lt truth c s) m
cut_lt true c m s h e =
    let p = h.above in let q = h.below in record { above = p; below = grind (arith, ints) }
cut_lt false c m s h e =
    let p = h.above in let q = h.below in record { above = grind (arith, ints); below = q }

cut_le : (truth : Bool) (c m : ℤ) (s : Span) → IsIn s m → is_le (int_cmp m c) ≡ truth → IsIn (cut ops.Le truth c s) m
cut_le true c m s h e =
    let p = h.above in let q = h.below in record { above = p; below = grind (arith, ints) }
cut_le false c m s h e =
    let p = h.above in let q = h.below in record { above = grind (arith, ints); below = q }

cut_gt : (truth : Bool) (c m : ℤ) (s : Span) → IsIn s m → is_gt (int_cmp m c) ≡ truth → IsIn (cut ops.Gt truth c s) m
cut_gt true c m s h e =
    let p = h.above in let q = h.below in record { above = grind (arith, ints); below = q }
cut_gt false c m s h e =
    let p = h.above in let q = h.below in record { above = p; below = grind (arith, ints) }

cut_ge : (truth : Bool) (c m : ℤ) (s : Span) → IsIn s m → is_ge (int_cmp m c) ≡ truth → IsIn (cut ops.Ge truth c s) m
cut_ge true c m s h e =
    let p = h.above in let q = h.below in record { above = grind (arith, ints); below = q }
cut_ge false c m s h e =
    let p = h.above in let q = h.below in record { above = p; below = grind (arith, ints) }

-- a number that equals another one, and one that doesn't
cut_eq : (truth : Bool) (c m : ℤ) (s : Span) → IsIn s m → is_eq (int_cmp m c) ≡ truth → IsIn (cut ops.Eq truth c s) m
cut_eq true c m s h e =
    let p = h.above in let q = h.below in record { above = grind (arith, ints); below = grind (arith, ints) }
cut_eq false c m s h e =
    let p = h.above in let q = h.below in record { above = grind (arith, ints); below = grind (arith, ints) }

cut_ne : (truth : Bool) (c m : ℤ) (s : Span) → IsIn s m → not (is_eq (int_cmp m c)) ≡ truth
    → IsIn (cut ops.Ne truth c s) m
cut_ne true c m s h e =
    let p = h.above in let q = h.below in record { above = grind (arith, ints); below = grind (arith, ints) }
cut_ne false c m s h e =
    let p = h.above in let q = h.below in record { above = grind (arith, ints); below = grind (arith, ints) }

-- a flag is above 0 where it is true
above_zero : (m : ℤ) → is_gt (int_cmp m (pos 0)) ≡ int_lt (pos 0) m
above_zero m = grind (arith, ints)

-- a number with a literal of no greater fraction
order_at : (scale : Scale) (m : ℤ) (n : Num) → n.frac ≤ scale.frac
    → order_of (record { mantissa = m; frac = scale.frac }) n
    ≡ int_cmp m (n.mantissa *ℤ pos (2 ^ (scale.frac - n.frac)))
order_at scale m n l =
    let same : max scale.frac n.frac ≡ scale.frac = omega arith in
    let none : max scale.frac n.frac - scale.frac ≡ 0 = omega arith in
    let left : m *ℤ pos (2 ^ (max scale.frac n.frac - scale.frac)) ≡ m =
    ap (λ k. m *ℤ pos (2 ^ k)) none ∙ product_one m in
    ap (λ z. int_cmp z (n.mantissa *ℤ pos (2 ^ (max scale.frac n.frac - n.frac)))) left
    ∙ ap (λ k. int_cmp m (n.mantissa *ℤ pos (2 ^ (k - n.frac)))) same

-- the flag of a comparison
flag_is : (b truth : Bool) (x : Value) (r : Valued) → r ≡ Ok (values.Flag b) → r ≡ Ok x → flag_of x ≡ truth → b ≡ truth
flag_is b truth x r e q f =
    let same : ok (values.Flag b) ≡ ok x = sym e ∙ q in let v : values.Flag b ≡ x = cc in ap flag_of v ∙ f
  where
    ok : Value → Valued
    ok a = Ok a

compare_in : (op : Op) (truth : Bool) (scale : Scale) (m : ℤ) (n : Num) (s : Span) (x : Value) → n.frac ≤ scale.frac
    → IsIn s m → applied op (values.Number (record { mantissa = m; frac = scale.frac })) (values.Number n) ≡ Ok x
    → flag_of x ≡ truth → IsIn (cut op truth (n.mantissa *ℤ pos (2 ^ (scale.frac - n.frac))) s) m
compare_in ops.Lt truth scale m n s x l h e f =
    cut_lt truth _ m s h (ap is_lt (sym (order_at scale m n l)) ∙ flag_is _ truth x _ refl e f)
compare_in ops.Le truth scale m n s x l h e f =
    cut_le truth _ m s h (ap is_le (sym (order_at scale m n l)) ∙ flag_is _ truth x _ refl e f)
compare_in ops.Gt truth scale m n s x l h e f =
    cut_gt truth _ m s h (ap is_gt (sym (order_at scale m n l)) ∙ flag_is _ truth x _ refl e f)
compare_in ops.Ge truth scale m n s x l h e f =
    cut_ge truth _ m s h (ap is_ge (sym (order_at scale m n l)) ∙ flag_is _ truth x _ refl e f)
compare_in ops.Eq truth scale m n s x l h e f =
    cut_eq truth _ m s h (ap is_eq (sym (order_at scale m n l)) ∙ flag_is _ truth x _ refl e f)
compare_in ops.Ne truth scale m n s x l h e f =
    cut_ne truth _ m s h (ap (λ o. not (is_eq o)) (sym (order_at scale m n l)) ∙ flag_is _ truth x _ refl e f)
compare_in ops.Or truth scale m n s x l h e f = h
compare_in ops.And truth scale m n s x l h e f = h
compare_in ops.Add truth scale m n s x l h e f = h
compare_in ops.Sub truth scale m n s x l h e f = h
compare_in ops.Mul truth scale m n s x l h e f = h
compare_in ops.Div truth scale m n s x l h e f = h

cut_at_in : (sort : Sort) (op : Op) (truth : Bool) (m : ℤ) (n : Num) (s : Span) (x : Value) → IsIn s m
    → applied op (value_at sort m) (values.Number n) ≡ Ok x → flag_of x ≡ truth → IsIn (cut_at sort op truth n s) m
cut_at_in sorts.Flag op truth m n s x h e f = h
cut_at_in (sorts.Number scale) op truth m n s x h e f = at (nat_le n.frac scale.frac) refl
  where
    at : (b : Bool) → nat_le n.frac scale.frac ≡ b
        → IsIn (cond b (cut op truth (n.mantissa *ℤ pos (2 ^ (scale.frac - n.frac))) s) s) m
    at true q = compare_in op truth scale m n s x (grind arith) h e f
    at false q = h

-- ---- values

-- a part of an expression that has a value has one
part_value : (r : Valued) (f : Value → Valued) (x : Value) → with_value r f ≡ Ok x
    → (y : Value) × (r ≡ Ok y) × (f y ≡ Ok x)
part_value (Ok y) f x e = (y, refl, e)
part_value (Err z) f x e = absurd cc

abbrev pub AllIn : Box → List Datum → Type 0
AllIn box vals = (v : ℕ) → IsIn (box v) (datum vals v).mantissa

module _ (sort : ℕ → Sort) (vals : List Datum) (marks : Configuration)
    (declared : (v : ℕ) → (datum vals v).sort ≡ sort v) where
  datum_value : (a : Expr) (v : ℕ) → datum_of a ≡ Some v → value_of vals marks a ≡ Ok (value_of_datum (datum vals v))
  unfolding value_of
  datum_value (Read u) v e = let same : u ≡ v = cc in ap (λ j. Ok (value_of_datum (datum vals j))) same
  datum_value (Lit n) v e = absurd cc
  datum_value (Flag b) v e = absurd cc
  datum_value (Active s) v e = absurd cc
  datum_value (Neg a) v e = absurd cc
  datum_value (Not a) v e = absurd cc
  datum_value (Bin op a b) v e = absurd cc

  literal_value : (a : Expr) (n : Num) → literal_of a ≡ Some n → value_of vals marks a ≡ Ok (values.Number n)
  unfolding value_of
  literal_value (Lit m) n e = let same : m ≡ n = cc in ap (λ k. Ok (values.Number k)) same
  literal_value (Read u) n e = absurd cc
  literal_value (Flag b) n e = absurd cc
  literal_value (Active s) n e = absurd cc
  literal_value (Neg a) n e = absurd cc
  literal_value (Not a) n e = absurd cc
  literal_value (Bin op a b) n e = absurd cc

  put_in : (v : ℕ) (s : Span) (box : Box) → AllIn box vals → IsIn s (datum vals v).mantissa → AllIn (put v s box) vals
  put_in v s box h i u =
      same_or_not (λ b. IsIn (cond b s (box u)) (datum vals u).mantissa) u v
      (λ e. subst (λ j. IsIn s (datum vals j).mantissa) (sym e) i) (λ e. h u)

  -- the value of an operator whose left side doesn't decide
  sides : (op : Op) (a b : Expr) (x : Value) → ((y : Value) → decides op y ≡ false)
      → value_of vals marks (Bin op a b) ≡ Ok x
      → (y : Value) × (z : Value) × (value_of vals marks a ≡ Ok y) × (value_of vals marks b ≡ Ok z)
      × (applied op y z ≡ Ok x)
  unfolding value_of
  sides op a b x never e =
      let left = part_value (value_of vals marks a) _ x e in
      let more : with_value (value_of vals marks b) (applied op left.0) ≡ Ok x =
      subst (λ t. cond t (Ok left.0) (with_value (value_of vals marks b) (applied op left.0)) ≡ Ok x) (never left.0)
      left.2 in
      let right = part_value (value_of vals marks b) (applied op left.0) x more in
      (left.0, right.0, left.1, right.1, right.2)

  one_value : (r : Valued) (y z : Value) → r ≡ Ok y → r ≡ Ok z → y ≡ z
  one_value r y z e q = let same : ok y ≡ ok z = sym e ∙ q in cc
    where
      ok : Value → Valued
      ok a = Ok a

  compare_holds : (op : Op) (truth : Bool) (a b : Expr) (x : Value) (box : Box) → ((y : Value) → decides op y ≡ false)
      → AllIn box vals → value_of vals marks (Bin op a b) ≡ Ok x → flag_of x ≡ truth
      → AllIn (compare_narrow sort op truth (datum_of a) (literal_of b) box) vals
  compare_holds op truth a b x box never h e f = at (datum_of a) (literal_of b) refl refl
    where
      at : (v : Option ℕ) (n : Option Num) → datum_of a ≡ v → literal_of b ≡ n
          → AllIn (compare_narrow sort op truth v n box) vals
      at None n p q = h
      at (Some v) None p q = h
      at (Some v) (Some n) p q =
          let s = sides op a b x never e in
          let left = one_value (value_of vals marks a) (value_of_datum (datum vals v)) s.0 (datum_value a v p) s.2 in
          let right = one_value (value_of vals marks b) (values.Number n) s.1 (literal_value b n q) s.3 in
          let all : applied op (value_of_datum (datum vals v)) (values.Number n) ≡ Ok x =
          ap (λ y. applied op y (values.Number n)) left ∙ ap (λ z. applied op s.0 z) right ∙ s.4 in
          put_in v (cut_at (sort v) op truth n (box v)) box h
          (subst (λ q. IsIn (cut_at q op truth n (box v)) (datum vals v).mantissa) (declared v)
          (cut_at_in (datum vals v).sort op truth (datum vals v).mantissa n (box v) x (h v) all f))

  -- both sides of `&&` are true where it is
  and_sides : (a b : Expr) (x : Value) → value_of vals marks (Bin ops.And a b) ≡ Ok x → flag_of x ≡ true
      → (y : Value) × (z : Value) × (value_of vals marks a ≡ Ok y) × (value_of vals marks b ≡ Ok z)
      × (flag_of y ≡ true) × (flag_of z ≡ true)
  unfolding value_of
  and_sides a b x e f =
      let left = part_value (value_of vals marks a) _ x e in at left.0 left.1 (flag_of left.0) refl left.2
    where
      at : (y : Value) → value_of vals marks a ≡ Ok y → (t : Bool) → flag_of y ≡ t
          → cond (not (flag_of y)) (Ok y) (with_value (value_of vals marks b) (applied ops.And y)) ≡ Ok x
          → (y : Value) × (z : Value) × (value_of vals marks a ≡ Ok y) × (value_of vals marks b ≡ Ok z)
          × (flag_of y ≡ true) × (flag_of z ≡ true)
      at y p true t q =
          let more : with_value (value_of vals marks b) (applied ops.And y) ≡ Ok x =
          subst (λ u. cond (not u) (Ok y) (with_value (value_of vals marks b) (applied ops.And y)) ≡ Ok x) t q in
          let right = part_value (value_of vals marks b) (applied ops.And y) x more in
          let both : (flag_of y && flag_of right.0) ≡ true = flag_is (flag_of y && flag_of right.0) true x _ refl
          right.2 f in
          (y, right.0, p, right.1, t, ap (λ u. u && flag_of right.0) (sym t) ∙ both)
      at y p false t q =
          let own : ok y ≡ ok x = subst (λ u. cond (not u) (Ok y) (with_value (value_of vals marks b)
          (applied ops.And y)) ≡ Ok x) t q in
          let same : y ≡ x = cc in
          let wrong : true ≡ false = sym f ∙ ap flag_of (sym same) ∙ t in absurd cc
        where
          ok : Value → Valued
          ok a = Ok a

  -- and those of `||` false
  or_sides : (a b : Expr) (x : Value) → value_of vals marks (Bin ops.Or a b) ≡ Ok x → flag_of x ≡ false
      → (y : Value) × (z : Value) × (value_of vals marks a ≡ Ok y) × (value_of vals marks b ≡ Ok z)
      × (flag_of y ≡ false) × (flag_of z ≡ false)
  unfolding value_of
  or_sides a b x e f =
      let left = part_value (value_of vals marks a) _ x e in at left.0 left.1 (flag_of left.0) refl left.2
    where
      at : (y : Value) → value_of vals marks a ≡ Ok y → (t : Bool) → flag_of y ≡ t
          → cond (flag_of y) (Ok y) (with_value (value_of vals marks b) (applied ops.Or y)) ≡ Ok x
          → (y : Value) × (z : Value) × (value_of vals marks a ≡ Ok y) × (value_of vals marks b ≡ Ok z)
          × (flag_of y ≡ false) × (flag_of z ≡ false)
      at y p false t q =
          let more : with_value (value_of vals marks b) (applied ops.Or y) ≡ Ok x =
          subst (λ u. cond u (Ok y) (with_value (value_of vals marks b) (applied ops.Or y)) ≡ Ok x) t q in
          let right = part_value (value_of vals marks b) (applied ops.Or y) x more in
          let both : (flag_of y || flag_of right.0) ≡ false = flag_is (flag_of y || flag_of right.0) false x _ refl
          right.2 f in
          (y, right.0, p, right.1, t, ap (λ u. u || flag_of right.0) (sym t) ∙ both)
      at y p true t q =
          let own : ok y ≡ ok x = subst (λ u. cond u (Ok y) (with_value (value_of vals marks b) (applied ops.Or y)) ≡
          Ok x) t q in
          let same : y ≡ x = cc in
          let wrong : true ≡ false = sym t ∙ ap flag_of same ∙ f in absurd cc
        where
          ok : Value → Valued
          ok a = Ok a

  not_value : (a : Expr) (x : Value) → value_of vals marks (Not a) ≡ Ok x
      → (y : Value) × (value_of vals marks a ≡ Ok y) × (not (flag_of y) ≡ flag_of x)
  unfolding value_of
  not_value a x e =
      let y = part_value (value_of vals marks a) _ x e in
      (y.0, y.1, flag_is (not (flag_of y.0)) (flag_of x) x _ refl y.2 refl)

  turned : (a b : Bool) → not a ≡ b → a ≡ not b
  turned true b e = ap not e
  turned false b e = ap not e

  -- one side of `||` is true where it is
  or_some : (a b : Expr) (x : Value) → value_of vals marks (Bin ops.Or a b) ≡ Ok x → flag_of x ≡ true
      → ((y : Value) × (value_of vals marks a ≡ Ok y) × (flag_of y ≡ true))
      ⊎ ((z : Value) × (value_of vals marks b ≡ Ok z) × (flag_of z ≡ true))
  unfolding value_of
  or_some a b x e f =
      let left = part_value (value_of vals marks a) _ x e in at left.0 left.1 (flag_of left.0) refl left.2
    where
      at : (y : Value) → value_of vals marks a ≡ Ok y → (t : Bool) → flag_of y ≡ t
          → cond (flag_of y) (Ok y) (with_value (value_of vals marks b) (applied ops.Or y)) ≡ Ok x
          → ((y : Value) × (value_of vals marks a ≡ Ok y) × (flag_of y ≡ true))
          ⊎ ((z : Value) × (value_of vals marks b ≡ Ok z) × (flag_of z ≡ true))
      at y p true t q = inl (y, p, t)
      at y p false t q =
          let more : with_value (value_of vals marks b) (applied ops.Or y) ≡ Ok x =
          subst (λ u. cond u (Ok y) (with_value (value_of vals marks b) (applied ops.Or y)) ≡ Ok x) t q in
          let right = part_value (value_of vals marks b) (applied ops.Or y) x more in
          let both : (flag_of y || flag_of right.0) ≡ true =
          flag_is (flag_of y || flag_of right.0) true x _ refl right.2 f in
          inr (right.0, right.1, ap (λ u. u || flag_of right.0) (sym t) ∙ both)

  -- and one side of `&&` false
  and_some : (a b : Expr) (x : Value) → value_of vals marks (Bin ops.And a b) ≡ Ok x → flag_of x ≡ false
      → ((y : Value) × (value_of vals marks a ≡ Ok y) × (flag_of y ≡ false))
      ⊎ ((z : Value) × (value_of vals marks b ≡ Ok z) × (flag_of z ≡ false))
  unfolding value_of
  and_some a b x e f =
      let left = part_value (value_of vals marks a) _ x e in at left.0 left.1 (flag_of left.0) refl left.2
    where
      at : (y : Value) → value_of vals marks a ≡ Ok y → (t : Bool) → flag_of y ≡ t
          → cond (not (flag_of y)) (Ok y) (with_value (value_of vals marks b) (applied ops.And y)) ≡ Ok x
          → ((y : Value) × (value_of vals marks a ≡ Ok y) × (flag_of y ≡ false))
          ⊎ ((z : Value) × (value_of vals marks b ≡ Ok z) × (flag_of z ≡ false))
      at y p false t q = inl (y, p, t)
      at y p true t q =
          let more : with_value (value_of vals marks b) (applied ops.And y) ≡ Ok x =
          subst (λ u. cond (not u) (Ok y) (with_value (value_of vals marks b) (applied ops.And y)) ≡ Ok x) t q in
          let right = part_value (value_of vals marks b) (applied ops.And y) x more in
          let both : (flag_of y && flag_of right.0) ≡ false =
          flag_is (flag_of y && flag_of right.0) false x _ refl right.2 f in
          inr (right.0, right.1, ap (λ u. u && flag_of right.0) (sym t) ∙ both)

  left_joined : (s t : Span) (m : ℤ) → IsIn s m → IsIn (joined s t) m
  left_joined s t m h =
      let p = h.above in let q = h.below in record { above = grind (arith, ints); below = grind (arith, ints) }

  right_joined : (s t : Span) (m : ℤ) → IsIn t m → IsIn (joined s t) m
  right_joined s t m h =
      let p = h.above in let q = h.below in record { above = grind (arith, ints); below = grind (arith, ints) }

  some_holds : (truth : Bool) (a b : Expr) (box : Box) → AllIn box vals
      → ((y : Value) × (value_of vals marks a ≡ Ok y) × (flag_of y ≡ truth))
      ⊎ ((z : Value) × (value_of vals marks b ≡ Ok z) × (flag_of z ≡ truth))
      → ((y : Value) (box : Box) → AllIn box vals → value_of vals marks a ≡ Ok y → flag_of y ≡ truth
      → AllIn (narrowed sort a truth box) vals)
      → ((y : Value) (box : Box) → AllIn box vals → value_of vals marks b ≡ Ok y → flag_of y ≡ truth
      → AllIn (narrowed sort b truth box) vals)
      → AllIn (joined_box (narrowed sort a truth box) (narrowed sort b truth box)) vals
  some_holds truth a b box h (inl s) l r v =
      left_joined (narrowed sort a truth box v) (narrowed sort b truth box v) (datum vals v).mantissa
      (l s.0 box h s.1 s.2 v)
  some_holds truth a b box h (inr s) l r v =
      right_joined (narrowed sort a truth box v) (narrowed sort b truth box v) (datum vals v).mantissa
      (r s.0 box h s.1 s.2 v)

  -- what is left by both sides
  abbrev Leaves : Expr → Bool → Type 0
  Leaves a truth =
      (y : Value) (box : Box) → AllIn box vals → value_of vals marks a ≡ Ok y → flag_of y ≡ truth
      → AllIn (narrowed sort a truth box) vals

  both_holds : (op : Op) (truth : Bool) (a b : Expr) (x : Value) (box : Box) → AllIn box vals
      → value_of vals marks (Bin op a b) ≡ Ok x → flag_of x ≡ truth → Leaves a truth → Leaves b truth
      → AllIn (both_narrow op truth (narrowed sort a truth) (narrowed sort b truth)
      (compare_narrow sort op truth (datum_of a) (literal_of b)) box) vals
  both_holds ops.And true a b x box h e f l r =
      let s = and_sides a b x e f in r s.1 (narrowed sort a true box) (l s.0 box h s.2 s.4) s.3 s.5
  both_holds ops.And false a b x box h e f l r = some_holds false a b box h (and_some a b x e f) l r
  both_holds ops.Or true a b x box h e f l r = some_holds true a b box h (or_some a b x e f) l r
  both_holds ops.Or false a b x box h e f l r =
      let s = or_sides a b x e f in r s.1 (narrowed sort a false box) (l s.0 box h s.2 s.4) s.3 s.5
  both_holds ops.Eq truth a b x box h e f l r = compare_holds ops.Eq truth a b x box (λ _. refl) h e f
  both_holds ops.Ne truth a b x box h e f l r = compare_holds ops.Ne truth a b x box (λ _. refl) h e f
  both_holds ops.Lt truth a b x box h e f l r = compare_holds ops.Lt truth a b x box (λ _. refl) h e f
  both_holds ops.Le truth a b x box h e f l r = compare_holds ops.Le truth a b x box (λ _. refl) h e f
  both_holds ops.Gt truth a b x box h e f l r = compare_holds ops.Gt truth a b x box (λ _. refl) h e f
  both_holds ops.Ge truth a b x box h e f l r = compare_holds ops.Ge truth a b x box (λ _. refl) h e f
  both_holds ops.Add truth a b x box h e f l r = compare_holds ops.Add truth a b x box (λ _. refl) h e f
  both_holds ops.Sub truth a b x box h e f l r = compare_holds ops.Sub truth a b x box (λ _. refl) h e f
  both_holds ops.Mul truth a b x box h e f l r = compare_holds ops.Mul truth a b x box (λ _. refl) h e f
  both_holds ops.Div truth a b x box h e f l r = compare_holds ops.Div truth a b x box (λ _. refl) h e f

  -- a flag that is read
  flag_holds : (v : ℕ) (truth : Bool) (x : Value) (box : Box) → AllIn box vals → value_of vals marks (Read v) ≡ Ok x
      → flag_of x ≡ truth → AllIn (flag_narrow (sort v) v truth box) vals
  unfolding value_of
  flag_holds v truth x box h e f = at (sort v) (declared v)
    where
      at : (q : Sort) → (datum vals v).sort ≡ q → AllIn (flag_narrow q v truth box) vals
      at (sorts.Number scale) d = h
      at sorts.Flag d =
          let m = (datum vals v).mantissa in
          let own : value_at sorts.Flag m ≡ x = one_value (Ok x) (value_at sorts.Flag m) x
          (sym e ∙ ap (λ q. Ok (value_at q m)) d) refl in
          put_in v (cut ops.Gt truth (pos 0) (box v)) box h
          (cut_gt truth (pos 0) m (box v) (h v) (above_zero m ∙ ap flag_of own ∙ f))

  -- what is left of a box where an expression has a truth has the data
  pub narrowed_holds : (e : Expr) (truth : Bool) (x : Value) (box : Box) → AllIn box vals
      → value_of vals marks e ≡ Ok x → flag_of x ≡ truth → AllIn (narrowed sort e truth box) vals
  narrowed_holds (Lit n) truth x box h e f = h
  narrowed_holds (Flag b) truth x box h e f = h
  narrowed_holds (Read v) truth x box h e f = flag_holds v truth x box h e f
  narrowed_holds (Active s) truth x box h e f = h
  narrowed_holds (Neg a) truth x box h e f = h
  narrowed_holds (Not a) truth x box h e f =
      let y = not_value a x e in narrowed_holds a (not truth) y.0 box h y.1 (turned (flag_of y.0) truth (y.2 ∙ f))
  narrowed_holds (Bin op a b) truth x box h e f =
      both_holds op truth a b x box h e f (λ y o i p q. narrowed_holds a truth y o i p q)
      (λ y o i p q. narrowed_holds b truth y o i p q)

  not_false : (b : Bool) → not b ≡ false → b ≡ true
  not_false true e = refl
  not_false false e = absurd cc

  -- where the left side doesn't decide, the data are in the box of the right one
  pub right_holds : (op : Op) (a : Expr) (x : Value) (box : Box) → AllIn box vals → value_of vals marks a ≡ Ok x
      → decides op x ≡ false → AllIn (right_box sort op a box) vals
  right_holds ops.And a x box h e f = narrowed_holds a true x box h e (not_false (flag_of x) f)
  right_holds ops.Or a x box h e f = narrowed_holds a false x box h e f
  right_holds ops.Eq a x box h e f = h
  right_holds ops.Ne a x box h e f = h
  right_holds ops.Lt a x box h e f = h
  right_holds ops.Le a x box h e f = h
  right_holds ops.Gt a x box h e f = h
  right_holds ops.Ge a x box h e f = h
  right_holds ops.Add a x box h e f = h
  right_holds ops.Sub a x box h e f = h
  right_holds ops.Mul a x box h e f = h
  right_holds ops.Div a x box h e f = h
