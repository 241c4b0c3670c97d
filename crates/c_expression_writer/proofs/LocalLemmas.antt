-- How many locals the code of an expression sets, and that it is nothing exactly where it sets none.
use Rattle.std.proofs.Common.{◌≡◌, ℕ, zero, suc, ◌+◌, ◌==◌, Bool, true, false}
use Rattle.std.proofs.Common.{not, ◌&&◌, if◌then◌else◌, refl, ◌∙◌, arith}
use Rattle.std.proofs.lemmas.Bool.Decides.{nat_tests}
use Rattle.actions.specs.declared.expr.Op.{Op}
use Rattle.actions.specs.declared.expr.Op.TheVariants as ops
use Rattle.actions.specs.declared.sort.ExprSort.{ExprSort}
use Rattle.actions.specs.Exprs as exprs
use Rattle.actions.specs.Exprs.{Expr}
use Rattle.actions.specs.Sorts.{Scope, sort_of}
use Rattle.c_subset.specs.Trees.{CExpr}
use Rattle.c_functions.specs.Translation.{Flat, flat, operator_flat, is_nothing, sort_in}
use Rattle.c_expression_writer.specs.Locals.{own_locals, locals_of}

-- ---- an operator

-- the first local after && or ||, by whether its right side is nothing
or_next : (z : Bool) (l r : ExprSort) (a b : Flat) (n x y : ℕ) → a.next ≡ n + x → b.next ≡ a.next + y
    → is_nothing b.code ≡ z → (operator_flat ops.Or l r a b).next ≡ n + (x + y + (if not z then 1 else 0))
or_next true l r a b n x y p q e = rw e (omega (arith, p, q))
or_next false l r a b n x y p q e = rw e (omega (arith, p, q))

-- the same for &&
and_next : (z : Bool) (l r : ExprSort) (a b : Flat) (n x y : ℕ) → a.next ≡ n + x → b.next ≡ a.next + y
    → is_nothing b.code ≡ z → (operator_flat ops.And l r a b).next ≡ n + (x + y + (if not z then 1 else 0))
and_next true l r a b n x y p q e = rw e (omega (arith, p, q))
and_next false l r a b n x y p q e = rw e (omega (arith, p, q))

-- the first local after an operator
operator_next : (op : Op) (l r : ExprSort) (a b : Flat) (n x y : ℕ) → a.next ≡ n + x → b.next ≡ a.next + y
    → is_nothing b.code ≡ (y == 0) → (operator_flat op l r a b).next ≡ n + (x + y + own_locals op y)
operator_next ops.Or l r a b n x y p q e = or_next (y == 0) l r a b n x y p q e
operator_next ops.And l r a b n x y p q e = and_next (y == 0) l r a b n x y p q e
operator_next ops.Eq l r a b n x y p q e = omega (arith, p, q)
operator_next ops.Ne l r a b n x y p q e = omega (arith, p, q)
operator_next ops.Lt l r a b n x y p q e = omega (arith, p, q)
operator_next ops.Le l r a b n x y p q e = omega (arith, p, q)
operator_next ops.Gt l r a b n x y p q e = omega (arith, p, q)
operator_next ops.Ge l r a b n x y p q e = omega (arith, p, q)
operator_next ops.Add l r a b n x y p q e = omega (arith, p, q)
operator_next ops.Sub l r a b n x y p q e = omega (arith, p, q)
operator_next ops.Mul l r a b n x y p q e = omega (arith, p, q)
operator_next ops.Div l r a b n x y p q e = omega (arith, p, q)

-- both are nothing exactly where neither sets a local
both : (s t : Bool) (x y : ℕ) → s ≡ (x == 0) → t ≡ (y == 0) → (s && t) ≡ (x + y + 0 == 0)
both s t zero zero p q = rw (p, q) refl
both s t zero (suc y) p q = rw (p, q) (grind (arith, nat_tests))
both s t (suc x) y p q = rw p (grind (arith, nat_tests))

-- what is joined with code isn't nothing
neither : (s t : Bool) → (s && (t && false)) ≡ false
neither true true = refl
neither true false = refl
neither false t = refl

-- with one local more there are some
some_locals : (x y : ℕ) → false ≡ (x + suc y + 1 == 0)
some_locals x y = grind (arith, nat_tests)

-- with two locals more there are some
two_locals : (x : ℕ) → false ≡ (x + 2 == 0)
two_locals x = grind (arith, nat_tests)

-- the code of an operator is nothing exactly where it sets no local
operator_nothing : (op : Op) (l r : ExprSort) (a b : Flat) (x y : ℕ) → is_nothing a.code ≡ (x == 0)
    → is_nothing b.code ≡ (y == 0) → is_nothing (operator_flat op l r a b).code ≡ (x + y + own_locals op y == 0)
operator_nothing ops.Or l r a b x zero p q = rw q (both _ _ x zero p q)
operator_nothing ops.Or l r a b x (suc y) p q =
    let some : (suc y == 0) ≡ false = grind (arith, nat_tests) in
    rw (q ∙ some, some) (neither (is_nothing a.code) true ∙ some_locals x y)
operator_nothing ops.And l r a b x zero p q = rw q (both _ _ x zero p q)
operator_nothing ops.And l r a b x (suc y) p q =
    let some : (suc y == 0) ≡ false = grind (arith, nat_tests) in
    rw (q ∙ some, some) (neither (is_nothing a.code) true ∙ some_locals x y)
operator_nothing ops.Eq l r a b x y p q = both _ _ x y p q
operator_nothing ops.Ne l r a b x y p q = both _ _ x y p q
operator_nothing ops.Lt l r a b x y p q = both _ _ x y p q
operator_nothing ops.Le l r a b x y p q = both _ _ x y p q
operator_nothing ops.Gt l r a b x y p q = both _ _ x y p q
operator_nothing ops.Ge l r a b x y p q = both _ _ x y p q
operator_nothing ops.Add l r a b x y p q = both _ _ x y p q
operator_nothing ops.Sub l r a b x y p q = both _ _ x y p q
operator_nothing ops.Mul l r a b x y p q = both _ _ x y p q
operator_nothing ops.Div l r a b x y p q =
    neither (is_nothing a.code) (is_nothing b.code) ∙ two_locals (x + y)

-- ---- an expression

-- the code of an expression is nothing exactly where it sets no local
pub flat_nothing : (c : Scope) (tests : ℕ → CExpr) (n : ℕ) (e : Expr)
    → is_nothing (flat c tests n e).code ≡ (locals_of e == 0)
unfolding flat locals_of
flat_nothing c tests n (exprs.Lit x) = refl
flat_nothing c tests n (exprs.Flag b) = refl
flat_nothing c tests n (exprs.Read v) = refl
flat_nothing c tests n (exprs.Active q) = refl
flat_nothing c tests n (exprs.Neg a) = flat_nothing c tests n a
flat_nothing c tests n (exprs.Not a) = flat_nothing c tests n a
flat_nothing c tests n (exprs.Bin op a b) =
    operator_nothing op (sort_in (sort_of c a)) (sort_in (sort_of c b)) (flat c tests n a)
    (flat c tests (flat c tests n a).next b) (locals_of a) (locals_of b) (flat_nothing c tests n a)
    (flat_nothing c tests (flat c tests n a).next b)

-- the first local after an expression
pub flat_next : (c : Scope) (tests : ℕ → CExpr) (n : ℕ) (e : Expr) → (flat c tests n e).next ≡ n + locals_of e
unfolding flat locals_of
flat_next c tests n (exprs.Lit x) = omega arith
flat_next c tests n (exprs.Flag b) = omega arith
flat_next c tests n (exprs.Read v) = omega arith
flat_next c tests n (exprs.Active q) = omega arith
flat_next c tests n (exprs.Neg a) = flat_next c tests n a
flat_next c tests n (exprs.Not a) = flat_next c tests n a
flat_next c tests n (exprs.Bin op a b) =
    operator_next op (sort_in (sort_of c a)) (sort_in (sort_of c b)) (flat c tests n a)
    (flat c tests (flat c tests n a).next b) n (locals_of a) (locals_of b) (flat_next c tests n a)
    (flat_next c tests (flat c tests n a).next b) (flat_nothing c tests (flat c tests n a).next b)
