-- Which locals the lines of a function read.
use Rattle.std.specs.Prelude.{ℕ, ◌==◌, ◌&&◌, ◌||◌, Bool, true, false, List, [], ◌∷◌, Option, Some, None}
use Rattle.std.specs.Prelude.{if◌then◌else◌}
use Rattle.std.specs.List.{list_any}
use Rattle.c_subset.specs.Trees.{CExpr, Const, Field, Element, Local, Cast, Minus, Bang, Calc, Divide, Bits, Compare}
use Rattle.c_subset.specs.Trees.{Both, Either, Choose}
use Rattle.c_subset.specs.declared.trees.Case.{Case}
use Rattle.c_subset.specs.declared.trees.CType.{CType}
use Rattle.c_subset.specs.Running.{same_type}
use Rattle.c_subset.specs.Lines.{Line, Set, Store, StoreAt, Call, Select, If, Else, While, Close, Return}
use Rattle.c_text.specs.declared.locals.LocalName.{LocalName}

-- the same local
abbrev pub same_local : LocalName → LocalName → Bool
same_local x y = (x.number == y.number) && same_type x.of y.of

-- an expression reads a local
abbrev pub reads : LocalName → CExpr → Bool
reads x (Const t z) = false
reads x (Field f) = false
reads x (Element a e) = reads x e
reads x (Local t k) = same_local x (record { of = t; number = k })
reads x (Cast t e) = reads x e
reads x (Minus e) = reads x e
reads x (Bang e) = reads x e
reads x (Calc op a b) = reads x a || reads x b
reads x (Divide op a b) = reads x a || reads x b
reads x (Bits op a b) = reads x a || reads x b
reads x (Compare op a b) = reads x a || reads x b
reads x (Both a b) = reads x a || reads x b
reads x (Either a b) = reads x a || reads x b
reads x (Choose t e a b) = reads x e || (reads x a || reads x b)

-- there are cases; a `switch` without any does nothing, and isn't written
abbrev pub has_cases : List Case → Bool
has_cases [] = false
has_cases (c ∷ cases) = true

-- a line reads it; a `switch` without cases isn't written
abbrev pub line_reads : LocalName → Line → Bool
line_reads x (Set t k e) = reads x e
line_reads x (Store f e) = reads x e
line_reads x (StoreAt a i e) = reads x i || reads x e
line_reads x (Call t k f args) = list_any (reads x) args
line_reads x (Select t k e cases args) = has_cases cases && (reads x e || list_any (reads x) args)
line_reads x (If e) = reads x e
line_reads x Else = false
line_reads x (While e) = reads x e
line_reads x Close = false
line_reads x (Return e) = reads x e

-- the local of a type and a number, where one of the lines reads it
abbrev pub read_local : List Line → CType → ℕ → Option LocalName
read_local lines t k =
    if list_any (line_reads (record { of = t; number = k })) lines then Some (record { of = t; number = k }) else None
