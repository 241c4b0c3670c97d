-- How large expressions and functions are, so that expanding them ends.
use Rattle.std.proofs.Common.{◌≡◌, ◌≤◌, ◌<◌, ℕ, zero, suc, ◌+◌, List, [], ◌∷◌, ◌++◌, length, map, get_or}
use Rattle.std.proofs.Common.{Bool, true, false, Some, refl, ap}
use Rattle.std.proofs.Common.{subst, arith, rules, length-append, if◌then◌else◌}
use Rattle.std.specs.Prelude.{bytes_eq}
use Rattle.statechart_tree.specs.Trees.{Expr, Lit, Flag, Name, Active, Count, Timed, Call, Unary, Binary, Exprs, NoExpr}
use Rattle.statechart_tree.specs.Trees.{MoreExprs, Body, Block, Value, Function}
use Rattle.statechart_tree.specs.Views.{expr_of, exprs_of, row_of}
use Rattle.statechart_tree.specs.declared.expr.SourceExpr.{SourceExpr, Row_of-SourceExpr}
use Rattle.statechart_tree.specs.declared.expr.SourceExpr.{end_of-SourceExpr, more_of-SourceExpr}
use Rattle.statechart_tree.specs.declared.expr.SourceExpr.{items-the_row-SourceExpr}
use Rattle.statechart_tree.specs.declared.expr.SourceExpr.TheVariants as exprs
use Rattle.statechart_tree.specs.declared.expr.SourceExpr.TheViews.{the_lemmas}
use Rattle.flow_base.specs.declared.list.List.{List as Seq}
use Rattle.flow_base.specs.Lists.{items_of}
use Rattle.chart_tree.specs.declared.name.NameText.{NameText}
use Rattle.statechart_expressions.specs.Called.{Called, called_behind, called}

abbrev mutual
  -- how large an expression is
  pub expr_size : Expr → ℕ
  expr_size (Lit lit at) = 1
  expr_size (Flag value at) = 1
  expr_size (Name path) = 1
  expr_size (Active path at) = 1
  expr_size (Count event at) = 1
  expr_size (Timed word n event at) = suc (suc (expr_size n))
  expr_size (Call name arguments) = suc (row_size arguments)
  expr_size (Unary word e at) = suc (expr_size e)
  expr_size (Binary word l r at) = suc (expr_size l + expr_size r)

  -- how large expressions are together
  pub row_size : Exprs → ℕ
  row_size NoExpr = 0
  row_size (MoreExprs e others) = suc (expr_size e + row_size others)

-- how large what a function stands for is, where it is a value
abbrev pub body_size : Body → ℕ
body_size (Block stmts) = 0
body_size (Value e) = expr_size e

-- how large functions are together
abbrev pub weight : List Function → ℕ
weight [] = 0
weight (f ∷ fs) = suc (body_size f.body + weight fs)

-- one function more
weight-more : (f : Function) (gs : List Function) → weight (gs ++ f ∷ []) ≡ weight gs + suc (body_size f.body)
weight-more f [] = omega arith
weight-more f (g ∷ gs) = omega (arith, weight-more f gs)

-- a function that is called is smaller than all of them
called-smaller : (above fs : List Function) (name : List ℕ) (c : Called) → called_behind above fs name ≡ Some c
    → suc (weight c.above + body_size c.function.body) ≤ weight above + weight fs
called-smaller above [] name c is = absurd cc
called-smaller above (f ∷ fs) name c is =
    by (bytes_eq f.name.text name) is (λ e. called-smaller (above ++ f ∷ []) fs name c e)
  where
    by : (b : Bool)
        → (if b then Some (record { function = f; above = above }) else called_behind (above ++ f ∷ []) fs name) ≡ Some c
        → (called_behind (above ++ f ∷ []) fs name ≡ Some c
        → suc (weight c.above + body_size c.function.body) ≤ weight (above ++ f ∷ []) + weight fs)
        → suc (weight c.above + body_size c.function.body) ≤ weight above + suc (body_size f.body + weight fs)
    by true is behind =
        let e : record { function = f; above = above } ≡ c = cc in
        subst (λ (x : Called). suc (weight x.above + body_size x.function.body) ≤ weight above + suc (body_size f.body + weight fs))
        e (omega arith)
    by false is behind =
        let more : weight (above ++ f ∷ []) ≡ weight above + suc (body_size f.body) = weight-more f above in
        let rest : suc (weight c.above + body_size c.function.body) ≤ weight (above ++ f ∷ []) + weight fs = behind is in
        omega (arith, more, rest)

pub called-is_smaller : (fs : List Function) (name : List ℕ) (c : Called) → called fs name ≡ Some c
    → suc (weight c.above + body_size c.function.body) ≤ weight fs
called-is_smaller fs name c is =
    let small : suc (weight c.above + body_size c.function.body) ≤ weight [] + weight fs = called-smaller [] fs name c is in
    omega (arith, small)

-- and sees fewer functions
called-shorter : (above fs : List Function) (name : List ℕ) (c : Called) → called_behind above fs name ≡ Some c
    → suc (length c.above) ≤ length above + length fs
called-shorter above [] name c is = absurd cc
called-shorter above (f ∷ fs) name c is =
    by (bytes_eq f.name.text name) is (λ e. called-shorter (above ++ f ∷ []) fs name c e)
  where
    by : (b : Bool)
        → (if b then Some (record { function = f; above = above }) else called_behind (above ++ f ∷ []) fs name) ≡ Some c
        → (called_behind (above ++ f ∷ []) fs name ≡ Some c
        → suc (length c.above) ≤ length (above ++ f ∷ []) + length fs)
        → suc (length c.above) ≤ length above + suc (length fs)
    by true is behind =
        let e : record { function = f; above = above } ≡ c = cc in
        subst (λ (x : Called). suc (length x.above) ≤ length above + suc (length fs)) e (omega arith)
    by false is behind =
        let rest : suc (length c.above) ≤ length (above ++ f ∷ []) + length fs = behind is in
        omega (arith, length-append above (f ∷ []), rest)

pub called-is_shorter : (fs : List Function) (name : List ℕ) (c : Called) → called fs name ≡ Some c
    → suc (length c.above) ≤ length fs
called-is_shorter fs name c is =
    let small : suc (length c.above) ≤ length {A = Function} [] + length fs = called-shorter [] fs name c is in
    omega (arith, small)

-- each of some expressions is smaller than all of them
pub row-at : (es : List SourceExpr) (i : ℕ) (d : SourceExpr) → i < length es
    → suc (expr_size (expr_of (get_or es i d))) ≤ row_size (row_of (map expr_of es))
row-at [] i d h = absurd (omega (arith, h))
row-at (e ∷ es) zero d h = omega arith
row-at (e ∷ es) (suc i) d h = omega (arith, row-at es i d (omega (arith, h)))

-- what is written in a function that is called is smaller than the functions that may be called
pub value-smaller : (fs : List Function) (name : List ℕ) (c : Called) (e : Expr) → called fs name ≡ Some c
    → c.function.body ≡ Value e → suc (weight c.above + expr_size e) ≤ weight fs
value-smaller fs name c e is body =
    let size : body_size c.function.body ≡ expr_size e = ap body_size body in
    omega (arith, size, called-is_smaller fs name c is)

-- the expressions of a row, one after the other
pub exprs-row : (n : _) (row : Row_of-SourceExpr n) → exprs_of row ≡ row_of (map expr_of (items-the_row-SourceExpr n row))
exprs-row n end_of-SourceExpr = refl
exprs-row _ (more_of-SourceExpr {n = n} e others) = ap (MoreExprs (expr_of e)) (exprs-row n others)

-- a call of the code, with its arguments one after the other
pub call-seen : (name : NameText) (arguments : Seq SourceExpr)
    → expr_of (exprs.Call name arguments) ≡ Call name (row_of (map expr_of (items_of arguments)))
call-seen name arguments = search (rules, the_lemmas, exprs-row)
