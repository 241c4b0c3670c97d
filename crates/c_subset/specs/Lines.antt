-- Statements as lines, and the trees of the code as contracts see them.
use Rattle.std.specs.Prelude.{◌≡◌, ℕ, List, [], ◌∷◌, ◌++◌, map}
use Rattle.flow_base.specs.Lists.{items_of}
use Rattle.c_subset.specs.Trees.{CType, CExpr, Case, Block}
use Rattle.c_subset.specs.Trees as c
use Rattle.c_subset.specs.declared.trees.CExpr as declared_expr
use Rattle.c_subset.specs.declared.trees.CExpr.TheVariants as exprs
use Rattle.c_subset.specs.declared.trees.Line as declared_line
use Rattle.c_subset.specs.declared.trees.Line.TheVariants as lines
use Rattle.c_subset.specs.declared.trees.Function as declared_function

-- a line of statements
pub data Line : Type 0 where
  -- x = e;
  Set : CType → ℕ → CExpr → Line
  -- m->f = e;
  Store : ℕ → CExpr → Line
  -- m->a[i] = e;
  StoreAt : ℕ → CExpr → CExpr → Line
  -- x = f(m, e, ..);
  Call : CType → ℕ → ℕ → List CExpr → Line
  -- switch (e) { case C: x = f(m, e, ..); break; .. default: break; }
  Select : CType → ℕ → CExpr → List Case → List CExpr → Line
  -- if (e) {
  If : CExpr → Line
  -- } else {
  Else : Line
  -- while (e) {
  While : CExpr → Line
  -- }
  Close : Line
  -- return e;
  Return : CExpr → Line

-- the lines of an `else`, which isn't written where it has none
abbrev pub else_lines : List Line → List Line
else_lines [] = []
else_lines (x ∷ xs) = Else ∷ x ∷ xs

-- The lines of statements
unfoldable pub lines_of : Block → List Line
lines_of c.End = []
lines_of (c.Set t k e rest) = Set t k e ∷ lines_of rest
lines_of (c.Store f e rest) = Store f e ∷ lines_of rest
lines_of (c.StoreAt a i e rest) = StoreAt a i e ∷ lines_of rest
lines_of (c.Call t k f args rest) = Call t k f args ∷ lines_of rest
lines_of (c.Select t k e cases args rest) = Select t k e cases args ∷ lines_of rest
lines_of (c.If e a b rest) = If e ∷ lines_of a ++ else_lines (lines_of b) ++ Close ∷ lines_of rest
lines_of (c.While e a rest) = While e ∷ lines_of a ++ Close ∷ lines_of rest
lines_of (c.Return e) = Return e ∷ []

-- ---- the trees of the code

-- an expression of the code
abbrev pub expr_of : declared_expr.CExpr → CExpr
expr_of (exprs.Const t z) = c.Const t z
expr_of (exprs.Field f) = c.Field f
expr_of (exprs.Element' a p e) = c.Element a (expr_of e)
expr_of (exprs.Local t k) = c.Local t k
expr_of (exprs.Cast' t p e) = c.Cast t (expr_of e)
expr_of (exprs.Minus' p e) = c.Minus (expr_of e)
expr_of (exprs.Bang' p e) = c.Bang (expr_of e)
expr_of (exprs.Calc' op p a q b) = c.Calc op (expr_of a) (expr_of b)
expr_of (exprs.Divide' op p a q b) = c.Divide op (expr_of a) (expr_of b)
expr_of (exprs.Bits' op p a q b) = c.Bits op (expr_of a) (expr_of b)
expr_of (exprs.Compare' op p a q b) = c.Compare op (expr_of a) (expr_of b)
expr_of (exprs.Both' p a q b) = c.Both (expr_of a) (expr_of b)
expr_of (exprs.Either' p a q b) = c.Either (expr_of a) (expr_of b)
expr_of (exprs.Choose' t p e q a r b) = c.Choose t (expr_of e) (expr_of a) (expr_of b)

-- expressions of the code
abbrev pub exprs_of : List declared_expr.CExpr → List CExpr
exprs_of es = map expr_of es

-- a line of the code
abbrev pub line_of : declared_line.Line → Line
line_of (lines.Set t k e) = Set t k (expr_of e)
line_of (lines.Store f e) = Store f (expr_of e)
line_of (lines.StoreAt a i e) = StoreAt a (expr_of i) (expr_of e)
line_of (lines.Call t k f args) = Call t k f (exprs_of (items_of args))
line_of (lines.Select t k e cases args) = Select t k (expr_of e) (items_of cases) (exprs_of (items_of args))
line_of (lines.If e) = If (expr_of e)
line_of lines.Else = Else
line_of (lines.While e) = While (expr_of e)
line_of lines.Close = Close
line_of (lines.Return e) = Return (expr_of e)

-- lines of the code
abbrev pub lines_in : List declared_line.Line → List Line
lines_in xs = map line_of xs

-- what was appended are the lines of the statements that are written before others
abbrev pub Appends : List declared_line.Line → List declared_line.Line → (Block → Block) → Type 0
Appends old new written = (rest : Block) → lines_in new ++ lines_of rest ≡ lines_in old ++ lines_of (written rest)

-- the function of the code has that result, these parameters, and the lines of that body
pub record IsFunction (f : declared_function.Function) (g : c.Function) : Type 0 where
  pub result : f.result ≡ g.result
  pub parameters : items_of f.parameters ≡ g.parameters
  pub lines : lines_in (items_of f.lines) ≡ lines_of g.body
