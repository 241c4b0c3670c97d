-- Which functions of a file need a type of 128 bits.
use Rattle.std.specs.Prelude.{◌||◌, Bool, true, false}
use Rattle.std.specs.List.{list_any}
use Rattle.c_subset.specs.Trees.{CExpr, Const, Field, Element, Local, Cast, Minus, Bang, Calc, Divide, Bits, Compare}
use Rattle.c_subset.specs.Trees.{Both, Either, Choose, Function}
use Rattle.c_subset.specs.declared.trees.Width.{Width}
use Rattle.c_subset.specs.declared.trees.Width.TheVariants.{W8, W16, W32, W64, W128}
use Rattle.c_subset.specs.declared.trees.CType.{CType}
use Rattle.c_subset.specs.declared.trees.CType.TheVariants.{Signed, Unsigned, Truth}
use Rattle.c_subset.specs.Lines.{Line, Set, Store, StoreAt, Call, Select, If, Else, While, Close, Return, lines_of}

-- a width is that of 128 bits
abbrev pub is_wide_width : Width → Bool
is_wide_width W8 = false
is_wide_width W16 = false
is_wide_width W32 = false
is_wide_width W64 = false
is_wide_width W128 = true

-- a type has 128 bits
abbrev pub is_wide_type : CType → Bool
is_wide_type (Signed w) = is_wide_width w
is_wide_type (Unsigned w) = is_wide_width w
is_wide_type Truth = false

-- an expression names such a type
abbrev pub is_wide_expr : CExpr → Bool
is_wide_expr (Const t z) = is_wide_type t
is_wide_expr (Field f) = false
is_wide_expr (Element a e) = is_wide_expr e
is_wide_expr (Local t k) = is_wide_type t
is_wide_expr (Cast t e) = is_wide_type t || is_wide_expr e
is_wide_expr (Minus e) = is_wide_expr e
is_wide_expr (Bang e) = is_wide_expr e
is_wide_expr (Calc op a b) = is_wide_expr a || is_wide_expr b
is_wide_expr (Divide op a b) = is_wide_expr a || is_wide_expr b
is_wide_expr (Bits op a b) = is_wide_expr a || is_wide_expr b
is_wide_expr (Compare op a b) = is_wide_expr a || is_wide_expr b
is_wide_expr (Both a b) = is_wide_expr a || is_wide_expr b
is_wide_expr (Either a b) = is_wide_expr a || is_wide_expr b
is_wide_expr (Choose t e a b) = is_wide_type t || (is_wide_expr e || (is_wide_expr a || is_wide_expr b))

-- a line names one
abbrev pub is_wide_line : Line → Bool
is_wide_line (Set t k e) = is_wide_type t || is_wide_expr e
is_wide_line (Store f e) = is_wide_expr e
is_wide_line (StoreAt a i e) = is_wide_expr i || is_wide_expr e
is_wide_line (Call t k f args) = is_wide_type t || list_any is_wide_expr args
is_wide_line (Select t k e cases args) = is_wide_type t || (is_wide_expr e || list_any is_wide_expr args)
is_wide_line (If e) = is_wide_expr e
is_wide_line Else = false
is_wide_line (While e) = is_wide_expr e
is_wide_line Close = false
is_wide_line (Return e) = is_wide_expr e

-- a line of the function names one; so does each function that calls one with such parameters
abbrev pub is_wide : Function → Bool
is_wide g = list_any is_wide_line (lines_of g.body)
