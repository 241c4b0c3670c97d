-- What is written of an operand and then of its operator is what is written of the expression.
use Rattle.std.proofs.Common.{◌≡◌, ◌+◌, ◌*◌, ◌<◌, ◌≤◌, ◌^◌, ℕ, Bool, true, false, List, []}
use Rattle.std.proofs.Common.{◌∷◌, ◌++◌, IsOk, refl, sym, ap, subst, ◌∙◌, arith, if◌then◌else◌}
use Rattle.actions.specs.declared.expr.Op.{Op}
use Rattle.actions.specs.declared.expr.Op.TheVariants as ops
use Rattle.actions.specs.declared.sort.ExprSort.{ExprSort}
use Rattle.actions.specs.declared.sort.ExprSort.TheVariants as kinds
use Rattle.actions.specs.Exprs as exprs
use Rattle.actions.specs.Exprs.{Expr}
use Rattle.fixed_point.specs.declared.num.Num.{Num}
use Rattle.actions.specs.Sorts as sorts
use Rattle.actions.specs.Sorts.{scope_of, sort_of, binary_sort, negative_sort}
use Rattle.checked_chart.specs.Expressions.{operator_count}
use Rattle.c_subset.specs.Lines.{expr_of, lines_in}
use Rattle.c_subset.specs.Lines as lines
use Rattle.c_subset.specs.Trees.{Bang, Local}
use Rattle.c_subset.specs.declared.trees.Line.{Line}
use Rattle.c_subset.specs.declared.trees.CType.TheVariants.{Truth}
use Rattle.c_functions.specs.Code.{written}
use Rattle.c_functions.specs.Translation.{Flat, flat, operator_flat, negation_c, sort_in}
use Rattle.c_functions.specs.Layout.{on_c}
use Rattle.c_functions.specs.Plans.{Shape, layout}
use Rattle.c_expression_writer.specs.declared.operand.Operand.{Operand}
use Rattle.actions.specs.Trees.{expr_of as seen_expr}
use Rattle.actions.specs.declared.expr.Expr.{Expr as Kept}
use Rattle.c_expression_writer.specs.Locals.{is_lazy, going_on, own_locals, locals_of}
use Rattle.c_expression_writer.specs.Written.{IsWritten, flat_at, sort_at, seen, negative_of, denial_of}
use Rattle.c_expression_writer.proofs.LocalLemmas.{flat_next, flat_nothing}
use Rattle.c_expression_writer.proofs.SortLemmas.{CanWrite, Operands, operands, negated_operand}
use Rattle.c_expression_writer.proofs.SortLemmas.{denied_operand, negated_sort, denied_sort}
use Rattle.c_expression_writer.proofs.LeafLemmas.{state_there}
use Rattle.c_expression_writer.proofs.Composed.{IsDecided, join_written, lazy_written}

-- the same of an equal expression
pub at_expr : (K : Shape) (o0 o1 : List Line) (n : ℕ) (e f : Expr) (x : Operand) → e ≡ f
    → IsWritten K o0 o1 (flat_at K n f) (sort_at K f) x → IsWritten K o0 o1 (flat_at K n e) (sort_at K e) x
at_expr K o0 o1 n e f x same is =
    subst (λ (z : Expr). IsWritten K o0 o1 (flat_at K n z) (sort_at K z) x) (sym same) is

-- an equal expression can be written too
pub can_at : (K : Shape) (n : ℕ) (e f : Expr) → e ≡ f → CanWrite K n e → CanWrite K n f
can_at K n e f same can = subst (λ (z : Expr). CanWrite K n z) same can

-- ---- one operand

-- - after the code of its operand
neg_written : (K : Shape) (o0 o1 : List Line) (n : ℕ) (a : Expr) (xa x : Operand) → CanWrite K n (exprs.Neg a)
    → IsWritten K o0 o1 (flat_at K n a) (sort_at K a) xa
    → IsWritten K o1 o1 (negative_of xa) (sort_in (negative_sort xa.sort)) x
    → IsWritten K o0 o1 (flat_at K n (exprs.Neg a)) (sort_at K (exprs.Neg a)) x
unfolding flat
neg_written K o0 o1 n a xa x can is own = record {
  lines = is.lines;
  expr = own.expr ∙ ap (λ s. negation_c s (expr_of xa.expr)) is.sort_is ∙ ap (λ e. negation_c (sort_at K a) e) is.expr;
  next = own.next ∙ is.next;
  sort_is = own.sort_is ∙ ap (λ s. sort_in (negative_sort s)) is.sort_is ∙ sym (negated_sort K n a can);
  narrow = own.narrow;
}

-- ! after the code of its operand
not_written : (K : Shape) (o0 o1 : List Line) (n : ℕ) (a : Expr) (xa x : Operand) → CanWrite K n (exprs.Not a)
    → IsWritten K o0 o1 (flat_at K n a) (sort_at K a) xa → IsWritten K o1 o1 (denial_of xa) kinds.Flag x
    → IsWritten K o0 o1 (flat_at K n (exprs.Not a)) (sort_at K (exprs.Not a)) x
unfolding flat
not_written K o0 o1 n a xa x can is own = record {
  lines = is.lines;
  expr = own.expr ∙ ap (λ e. Bang e) is.expr;
  next = own.next ∙ is.next;
  sort_is = own.sort_is ∙ sym (denied_sort K n a can);
  narrow = own.narrow;
}

-- the same of an expression that is -
pub negated_result : (K : Shape) (o0 o1 : List Line) (n : ℕ) (e a : Expr) (xa x : Operand) → e ≡ exprs.Neg a
    → CanWrite K n e → IsWritten K o0 o1 (flat_at K n a) (sort_at K a) xa
    → IsWritten K o1 o1 (negative_of xa) (sort_in (negative_sort xa.sort)) x
    → IsWritten K o0 o1 (flat_at K n e) (sort_at K e) x
negated_result K o0 o1 n e a xa x same can is own =
    at_expr K o0 o1 n e (exprs.Neg a) x same
    (neg_written K o0 o1 n a xa x (can_at K n e (exprs.Neg a) same can) is own)

-- the same of an expression that is !
pub denied_result : (K : Shape) (o0 o1 : List Line) (n : ℕ) (e a : Expr) (xa x : Operand) → e ≡ exprs.Not a
    → CanWrite K n e → IsWritten K o0 o1 (flat_at K n a) (sort_at K a) xa
    → IsWritten K o1 o1 (denial_of xa) kinds.Flag x → IsWritten K o0 o1 (flat_at K n e) (sort_at K e) x
denied_result K o0 o1 n e a xa x same can is own =
    at_expr K o0 o1 n e (exprs.Not a) x same
    (not_written K o0 o1 n a xa x (can_at K n e (exprs.Not a) same can) is own)

-- ---- two operands

-- one local at most
one_few : (b : Bool) → (if b then 1 else 0) ≤ 2
one_few true = omega arith
one_few false = omega arith

-- an operator sets two locals at most, and so does each operator below it
own_few : (op : Op) (n : ℕ) → own_locals op n ≤ 2
own_few ops.Or n = one_few (is_lazy ops.Or n)
own_few ops.And n = one_few (is_lazy ops.And n)
own_few ops.Eq n = omega arith
own_few ops.Ne n = omega arith
own_few ops.Lt n = omega arith
own_few ops.Le n = omega arith
own_few ops.Gt n = omega arith
own_few ops.Ge n = omega arith
own_few ops.Add n = omega arith
own_few ops.Sub n = omega arith
own_few ops.Mul n = omega arith
own_few ops.Div n = omega arith

-- no more than two locals for each operator
pub locals_few : (e : Expr) → locals_of e ≤ 2 * operator_count e
unfolding locals_of
locals_few (exprs.Lit x) = omega arith
locals_few (exprs.Flag b) = omega arith
locals_few (exprs.Read v) = omega arith
locals_few (exprs.Active q) = omega arith
locals_few (exprs.Neg a) = let h = locals_few a in omega (arith, h)
locals_few (exprs.Not a) = let h = locals_few a in omega (arith, h)
locals_few (exprs.Bin op a b) =
    let h = locals_few a in let k = locals_few b in let own = own_few op (locals_of b) in omega (arith, h, k, own)

-- numbers for the locals of the right side and of the operator
pub record RightRoom (K : Shape) (n : ℕ) (b : Expr) (xa : Operand) : Type 0 where
  pub right : xa.next + 2 * operator_count b < 2 ^ 32
  pub own : xa.next + locals_of b + 2 < 2 ^ 32

-- there are numbers for what is left of an operator
pub right_room : (K : Shape) (n : ℕ) (op : Op) (e a b : Expr) (xa : Operand) → e ≡ exprs.Bin op a b → CanWrite K n e
    → xa.next ≡ (flat_at K n a).next → RightRoom K n b xa
right_room K n op e a b xa same can next =
    let r = (can_at K n e (exprs.Bin op a b) same can).room in let left = locals_few a in let right = locals_few b in
    let at = next ∙ flat_next (scope_of K.names) (on_c K.tree (layout K) K.numbers) n a in
    record { right = omega (arith, r, left, at); own = omega (arith, r, left, right, at) }

-- the right side is written from where the left side's locals end
right_written : (K : Shape) (o1 o2 : List Line) (b : Expr) (m k : ℕ) (xb : Operand) → m ≡ k
    → IsWritten K o1 o2 (flat_at K m b) (sort_at K b) xb → IsWritten K o1 o2 (flat_at K k b) (sort_at K b) xb
right_written K o1 o2 b m k xb same is = subst (λ (i : ℕ). IsWritten K o1 o2 (flat_at K i b) (sort_at K b) xb) same is

-- the same with an equal sort
sorted_as : (K : Shape) (o0 o1 : List Line) (f : Flat) (s t : ExprSort) (x : Operand) → s ≡ t → IsWritten K o0 o1 f s x
    → IsWritten K o0 o1 f t x
sorted_as K o0 o1 f s t x same is = subst (λ (z : ExprSort). IsWritten K o0 o1 f z x) same is

-- an operator that is not lazy, after the code of both operands
bin_joined : (K : Shape) (o0 o1 o2 o3 : List Line) (n : ℕ) (op : Op) (a b : Expr) (xa xb x : Operand)
    → CanWrite K n (exprs.Bin op a b) → is_lazy op (locals_of b) ≡ false
    → IsWritten K o0 o1 (flat_at K n a) (sort_at K a) xa → IsWritten K o1 o2 (flat_at K xa.next b) (sort_at K b) xb
    → IsWritten K o2 o3 (operator_flat op xa.sort xb.sort (seen xa) (seen xb)) (sort_in
    (binary_sort op xa.sort xb.sort)) x
    → IsWritten K o0 o3 (flat_at K n (exprs.Bin op a b)) (sort_at K (exprs.Bin op a b)) x
unfolding flat
bin_joined K o0 o1 o2 o3 n op a b xa xb x can eager left right own =
    let c = scope_of K.names in let tests = on_c K.tree (layout K) K.numbers in
    let fa = flat_at K n a in let fb = flat_at K fa.next b in
    let sort : sort_in (binary_sort op xa.sort xb.sort) ≡ sort_at K (exprs.Bin op a b) =
    ap (λ s. sort_in (binary_sort op s xb.sort)) left.sort_is ∙ ap (λ s. sort_in (binary_sort op
    (sort_at K a) s)) right.sort_is
    ∙ sym (operands K n op a b can).sort in
    join_written K o0 o1 o2 o3 op (locals_of b) (sort_at K a) (sort_at K b) (sort_at K
    (exprs.Bin op a b)) fa fb xa xb x eager
    (flat_nothing c tests fa.next b) left (right_written K o1 o2 b xa.next fa.next xb left.next right)
    (sorted_as K o2 o3 _ _ _ x sort own)

-- the same of an expression that is such an operator
pub joined_result : (K : Shape) (o0 o1 o2 o3 : List Line) (n k : ℕ) (op : Op) (e a b : Expr) (xa xb x : Operand)
    → e ≡ exprs.Bin op a b → CanWrite K n e → is_lazy op k ≡ false → k ≡ locals_of b
    → IsWritten K o0 o1 (flat_at K n a) (sort_at K a) xa → IsWritten K o1 o2 (flat_at K xa.next b) (sort_at K b) xb
    → IsWritten K o2 o3 (operator_flat op xa.sort xb.sort (seen xa) (seen xb)) (sort_in
    (binary_sort op xa.sort xb.sort)) x
    → IsWritten K o0 o3 (flat_at K n e) (sort_at K e) x
joined_result K o0 o1 o2 o3 n k op e a b xa xb x same can eager count left right own =
    at_expr K o0 o3 n e (exprs.Bin op a b) x same
    (bin_joined K o0 o1 o2 o3 n op a b xa xb x (can_at K n e (exprs.Bin op a b) same can)
    (ap (λ i. is_lazy op i) (sym count) ∙ eager) left right own)

-- what a lazy operator gives is a flag
flags_flag : (l r : ExprSort) → sort_in (binary_sort ops.Or l r) ≡ kinds.Flag
flags_flag kinds.Flag kinds.Flag = refl
flags_flag kinds.Flag (kinds.Number f m) = refl
flags_flag (kinds.Number f m) kinds.Flag = refl
flags_flag (kinds.Number f m) (kinds.Number g k) = refl

-- a lazy operator gives a flag
lazy_sort : (op : Op) (n : ℕ) (l r : ExprSort) → is_lazy op n ≡ true → sort_in (binary_sort op l r) ≡ kinds.Flag
lazy_sort ops.Or n l r h = flags_flag l r
lazy_sort ops.And n l r h = flags_flag l r
lazy_sort ops.Eq n l r h = cc
lazy_sort ops.Ne n l r h = cc
lazy_sort ops.Lt n l r h = cc
lazy_sort ops.Le n l r h = cc
lazy_sort ops.Gt n l r h = cc
lazy_sort ops.Ge n l r h = cc
lazy_sort ops.Add n l r h = cc
lazy_sort ops.Sub n l r h = cc
lazy_sort ops.Mul n l r h = cc
lazy_sort ops.Div n l r h = cc

-- a lazy operator, after the lines round its right side
bin_decided : (K : Shape) (o0 o1 o2 o3 o4 : List Line) (n k : ℕ) (op : Op) (a b : Expr) (xa xb x : Operand)
    → CanWrite K n (exprs.Bin op a b) → is_lazy op (locals_of b) ≡ true → k ≡ xa.next + locals_of b
    → IsWritten K o0 o1 (flat_at K n a) (sort_at K a) xa
    → lines_in o2 ≡ lines_in o1 ++ lines.Set Truth k (expr_of xa.expr) ∷ lines.If (going_on op (Local Truth k)) ∷ []
    → IsWritten K o2 o3 (flat_at K xa.next b) (sort_at K b) xb
    → lines_in o4 ≡ lines_in o3 ++ lines.Set Truth k (expr_of xb.expr) ∷ lines.Close ∷ [] → IsDecided k x
    → IsWritten K o0 o4 (flat_at K n (exprs.Bin op a b)) (sort_at K (exprs.Bin op a b)) x
unfolding flat
bin_decided K o0 o1 o2 o3 o4 n k op a b xa xb x can is at left begin right end own =
    let c = scope_of K.names in let tests = on_c K.tree (layout K) K.numbers in
    let fa = flat_at K n a in let fb = flat_at K fa.next b in
    sorted_as K o0 o4 _ _ _ x
    (sym ((operands K n op a b can).sort ∙ lazy_sort op (locals_of b) (sort_at K a) (sort_at K b) is))
    (lazy_written K o0 o1 o2 o3 o4 op (locals_of b) (sort_at K a) (sort_at K b) (sort_at K a)
    (sort_at K b) fa fb xa xb x k is
    (flat_nothing c tests fa.next b)
    (at ∙ ap (λ i. i + locals_of b) left.next ∙ sym (flat_next c tests fa.next b)) left begin
    (right_written K o2 o3 b xa.next fa.next xb left.next right) end own)

-- the same of an expression that is such an operator
pub decided_result : (K : Shape) (o0 o1 o2 o3 o4 : List Line) (n m k : ℕ) (op : Op) (e a b : Expr) (xa xb x : Operand)
    → e ≡ exprs.Bin op a b → CanWrite K n e → is_lazy op m ≡ true → m ≡ locals_of b → k ≡ xa.next + m
    → IsWritten K o0 o1 (flat_at K n a) (sort_at K a) xa
    → lines_in o2 ≡ lines_in o1 ++ lines.Set Truth k (expr_of xa.expr) ∷ lines.If (going_on op (Local Truth k)) ∷ []
    → IsWritten K o2 o3 (flat_at K xa.next b) (sort_at K b) xb
    → lines_in o4 ≡ lines_in o3 ++ lines.Set Truth k (expr_of xb.expr) ∷ lines.Close ∷ [] → IsDecided k x
    → IsWritten K o0 o4 (flat_at K n e) (sort_at K e) x
decided_result K o0 o1 o2 o3 o4 n m k op e a b xa xb x same can is count at left begin right end own =
    at_expr K o0 o4 n e (exprs.Bin op a b) x same
    (bin_decided K o0 o1 o2 o3 o4 n k op a b xa xb x (can_at K n e (exprs.Bin op a b) same can)
    (ap (λ i. is_lazy op i) (sym count) ∙ is) (at ∙ ap (λ i. xa.next + i) count) left begin right end own)

-- ---- expressions without operands

-- a literal with a sort
pub literal_sorted : (c : sorts.Scope) (e : Expr) (x : Num) → e ≡ exprs.Lit x → IsOk (sort_of c e) → IsOk
    (sorts.literal_sort x)
unfolding sort_of
literal_sorted c e x same ok = subst (λ (z : Expr). IsOk (sort_of c z)) same ok

-- the state of a test with a sort
pub active_there : (c : sorts.Scope) (e : Expr) (q : ℕ) → e ≡ exprs.Active q → IsOk (sort_of c e) → q < c.states
active_there c e q same ok = state_there c q (subst (λ (z : Expr). IsOk (sort_of c z)) same ok)

-- the operands of an expression can be written where it can

-- of -
pub neg_can : (K : Shape) (n : ℕ) (e a : Expr) → e ≡ exprs.Neg a → CanWrite K n e → CanWrite K n a
neg_can K n e a same can = negated_operand K n a (can_at K n e (exprs.Neg a) same can)

-- of !
pub not_can : (K : Shape) (n : ℕ) (e a : Expr) → e ≡ exprs.Not a → CanWrite K n e → CanWrite K n a
not_can K n e a same can = denied_operand K n a (can_at K n e (exprs.Not a) same can)

-- of an operator
pub bin_can : (K : Shape) (n : ℕ) (op : Op) (e a b : Expr) → e ≡ exprs.Bin op a b → CanWrite K n e → Operands K n op a b
bin_can K n op e a b same can = operands K n op a b (can_at K n e (exprs.Bin op a b) same can)

-- the operator has a sort for the sorts of what was written
pub own_sorted : (K : Shape) (o0 o1 o2 : List Line) (n m : ℕ) (op : Op) (a b : Expr) (xa xb : Operand)
    → Operands K n op a b → IsWritten K o0 o1 (flat_at K n a) (sort_at K a) xa
    → IsWritten K o1 o2 (flat_at K m b) (sort_at K b) xb → IsOk (binary_sort op xa.sort xb.sort)
own_sorted K o0 o1 o2 n m op a b xa xb parts left right =
    subst (λ (s : ExprSort). IsOk (binary_sort op s xb.sort)) (sym left.sort_is)
    (subst (λ (s : ExprSort). IsOk (binary_sort op (sort_at K a) s)) (sym right.sort_is) parts.own)

-- two more numbers after the locals of the right side
pub join_room : (K : Shape) (o1 o2 : List Line) (n : ℕ) (b : Expr) (xa xb : Operand) → RightRoom K n b xa
    → IsWritten K o1 o2 (flat_at K xa.next b) (sort_at K b) xb → xb.next + 2 < 2 ^ 32
join_room K o1 o2 n b xa xb room is =
    let at = is.next ∙ flat_next (scope_of K.names) (on_c K.tree (layout K) K.numbers) xa.next b in
    let own = room.own in omega (arith, own, at)

-- ---- an operand has fewer operators

-- of -
pub neg_less : (e a : Expr) → e ≡ exprs.Neg a → operator_count a < operator_count e
neg_less e a same = subst (λ (z : Expr). operator_count a < operator_count z) (sym same) (omega arith)

-- of !
pub not_less : (e a : Expr) → e ≡ exprs.Not a → operator_count a < operator_count e
not_less e a same = subst (λ (z : Expr). operator_count a < operator_count z) (sym same) (omega arith)

-- the left one of an operator
pub left_less : (op : Op) (e a b : Expr) → e ≡ exprs.Bin op a b → operator_count a < operator_count e
left_less op e a b same = subst (λ (z : Expr). operator_count a < operator_count z) (sym same) (omega arith)

-- the right one
pub right_less : (op : Op) (e a b : Expr) → e ≡ exprs.Bin op a b → operator_count b < operator_count e
right_less op e a b same = subst (λ (z : Expr). operator_count b < operator_count z) (sym same) (omega arith)

-- ---- what was matched, by the operands that were read

-- of -
pub neg_read : (e : Expr) (a b : Kept) → e ≡ exprs.Neg (seen_expr b) → a ≡ b → e ≡ exprs.Neg (seen_expr a)
neg_read e a b is read = is ∙ ap (λ (z : Kept). exprs.Neg (seen_expr z)) (sym read)

-- of !
pub not_read : (e : Expr) (a b : Kept) → e ≡ exprs.Not (seen_expr b) → a ≡ b → e ≡ exprs.Not (seen_expr a)
not_read e a b is read = is ∙ ap (λ (z : Kept). exprs.Not (seen_expr z)) (sym read)

-- of an operator
pub bin_read : (op : Op) (e : Expr) (a b x y : Kept) → e ≡ exprs.Bin op (seen_expr x) (seen_expr y) → a ≡ x → b ≡ y
    → e ≡ exprs.Bin op (seen_expr a) (seen_expr b)
bin_read op e a b x y is left right =
    is ∙ ap (λ (z : Kept). exprs.Bin op (seen_expr z) (seen_expr y)) (sym left)
    ∙ ap (λ (z : Kept). exprs.Bin op (seen_expr a) (seen_expr z)) (sym right)

-- what is known once the left side of an operator is written
pub record IsSplit (K : Shape) (n : ℕ) (op : Op) (e a b : Expr) (xa : Operand) : Type 0 where
  pub whole : e ≡ exprs.Bin op a b
  pub can : CanWrite K n e
  pub parts : Operands K n op a b
  pub room : RightRoom K n b xa
  pub less : operator_count b < operator_count e

-- it is known, since the left side gives where its locals end
pub split : (K : Shape) (o0 o1 : List Line) (n : ℕ) (op : Op) (e : Expr) (a b x y : Kept) (xa : Operand)
    → e ≡ exprs.Bin op (seen_expr x) (seen_expr y) → a ≡ x → b ≡ y → CanWrite K n e
    → IsWritten K o0 o1 (flat_at K n (seen_expr a)) (sort_at K (seen_expr a)) xa
    → IsSplit K n op e (seen_expr a) (seen_expr b) xa
split K o0 o1 n op e a b x y xa is left right can written =
    let whole = bin_read op e a b x y is left right in
    record {
      whole = whole;
      can = can;
      parts = bin_can K n op e (seen_expr a) (seen_expr b) whole can;
      room = right_room K n op e (seen_expr a) (seen_expr b) xa whole can written.next;
      less = right_less op e (seen_expr a) (seen_expr b) whole;
    }
