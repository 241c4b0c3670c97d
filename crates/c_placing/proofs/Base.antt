-- From base 0 on, statements are placed as they are.
use Rattle.std.proofs.Common.{◌≡◌, ℕ, ◌+◌, List, [], ◌∷◌, refl, ap, ◌∙◌, arith}
use Rattle.c_subset.specs.declared.trees.CType.{CType}
use Rattle.c_subset.specs.Trees.{CExpr, Const, Field, Element, Local, Cast, Minus, Bang, Calc, Divide, Bits, Compare}
use Rattle.c_subset.specs.Trees.{Both, Either, Choose}
use Rattle.c_subset.specs.Trees.{Block, End, Set, Store as PutField, StoreAt, Call, Select, If, While, Return}
use Rattle.c_placing.specs.Placing.{placed_expr, placed_exprs, placed}

own : (i : ℕ) → 0 + i ≡ i
own i = omega arith

-- of two operands
both : (f : CExpr → CExpr → CExpr) (a a' b b' : CExpr) → a ≡ a' → b ≡ b' → f a b ≡ f a' b'
both f a a' b b' e g = ap (λ (x : CExpr). f x b) e ∙ ap (λ (x : CExpr). f a' x) g

expr-stays : (e : CExpr) → placed_expr 0 e ≡ e
unfolding placed_expr
expr-stays (Const t z) = refl
expr-stays (Field f) = refl
expr-stays (Element a e) = ap (λ (x : CExpr). Element a x) (expr-stays e)
expr-stays (Local t i) = ap (λ (j : ℕ). Local t j) (own i)
expr-stays (Cast t e) = ap (λ (x : CExpr). Cast t x) (expr-stays e)
expr-stays (Minus e) = ap (λ (x : CExpr). Minus x) (expr-stays e)
expr-stays (Bang e) = ap (λ (x : CExpr). Bang x) (expr-stays e)
expr-stays (Calc op a b) = both (λ x y. Calc op x y) (placed_expr 0 a) a (placed_expr 0 b) b (expr-stays a) (expr-stays b)
expr-stays (Divide op a b) =
    both (λ x y. Divide op x y) (placed_expr 0 a) a (placed_expr 0 b) b (expr-stays a) (expr-stays b)
expr-stays (Bits op a b) = both (λ x y. Bits op x y) (placed_expr 0 a) a (placed_expr 0 b) b (expr-stays a) (expr-stays b)
expr-stays (Compare op a b) =
    both (λ x y. Compare op x y) (placed_expr 0 a) a (placed_expr 0 b) b (expr-stays a) (expr-stays b)
expr-stays (Both a b) = both (λ x y. Both x y) (placed_expr 0 a) a (placed_expr 0 b) b (expr-stays a) (expr-stays b)
expr-stays (Either a b) = both (λ x y. Either x y) (placed_expr 0 a) a (placed_expr 0 b) b (expr-stays a) (expr-stays b)
expr-stays (Choose t e a b) =
    ap (λ (x : CExpr). Choose t x (placed_expr 0 a) (placed_expr 0 b)) (expr-stays e)
    ∙ both (λ x y. Choose t e x y) (placed_expr 0 a) a (placed_expr 0 b) b (expr-stays a) (expr-stays b)

exprs-stay : (es : List CExpr) → placed_exprs 0 es ≡ es
exprs-stay [] = refl
exprs-stay (e ∷ es) =
    ap (λ (x : CExpr). x ∷ placed_exprs 0 es) (expr-stays e) ∙ ap (λ (xs : List CExpr). e ∷ xs) (exprs-stay es)

pub as-it-is : (a : Block) → placed 0 a ≡ a
unfolding placed
as-it-is End = refl
as-it-is (Set t i e a) =
    ap (λ (j : ℕ). Set t j (placed_expr 0 e) (placed 0 a)) (own i)
    ∙ ap (λ (x : CExpr). Set t i x (placed 0 a)) (expr-stays e) ∙ ap (λ (b : Block). Set t i e b) (as-it-is a)
as-it-is (PutField f e a) =
    ap (λ (x : CExpr). PutField f x (placed 0 a)) (expr-stays e) ∙ ap (λ (b : Block). PutField f e b) (as-it-is a)
as-it-is (StoreAt r i e a) =
    ap (λ (x : CExpr). StoreAt r x (placed_expr 0 e) (placed 0 a)) (expr-stays i)
    ∙ ap (λ (x : CExpr). StoreAt r i x (placed 0 a)) (expr-stays e)
    ∙ ap (λ (b : Block). StoreAt r i e b) (as-it-is a)
as-it-is (Call t i f args a) =
    ap (λ (j : ℕ). Call t j f (placed_exprs 0 args) (placed 0 a)) (own i)
    ∙ ap (λ (xs : List CExpr). Call t i f xs (placed 0 a)) (exprs-stay args)
    ∙ ap (λ (b : Block). Call t i f args b) (as-it-is a)
as-it-is (Select t i e cases args a) =
    ap (λ (j : ℕ). Select t j (placed_expr 0 e) cases (placed_exprs 0 args) (placed 0 a)) (own i)
    ∙ ap (λ (x : CExpr). Select t i x cases (placed_exprs 0 args) (placed 0 a)) (expr-stays e)
    ∙ ap (λ (xs : List CExpr). Select t i e cases xs (placed 0 a)) (exprs-stay args)
    ∙ ap (λ (b : Block). Select t i e cases args b) (as-it-is a)
as-it-is (If e a b rest) =
    ap (λ (x : CExpr). If x (placed 0 a) (placed 0 b) (placed 0 rest)) (expr-stays e)
    ∙ ap (λ (q : Block). If e q (placed 0 b) (placed 0 rest)) (as-it-is a)
    ∙ ap (λ (q : Block). If e a q (placed 0 rest)) (as-it-is b)
    ∙ ap (λ (q : Block). If e a b q) (as-it-is rest)
as-it-is (While e a rest) =
    ap (λ (x : CExpr). While x (placed 0 a) (placed 0 rest)) (expr-stays e)
    ∙ ap (λ (q : Block). While e q (placed 0 rest)) (as-it-is a) ∙ ap (λ (q : Block). While e a q) (as-it-is rest)
as-it-is (Return e) = ap (λ (x : CExpr). Return x) (expr-stays e)
