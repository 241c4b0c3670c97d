-- How expressions are written.
use Rattle.std.specs.Prelude.{ℕ, Bool, true, false, List, ◌++◌, codes, if◌then◌else◌}
use Rattle.c_subset.specs.Trees.{CExpr, Const, Field, Element, Local, Cast, Minus, Bang, Calc, Divide, Bits, Compare}
use Rattle.c_subset.specs.Trees.{Both, Either, Choose}
use Rattle.c_subset.specs.declared.trees.CType.{CType}
use Rattle.c_subset.specs.declared.trees.CType.TheVariants.{Signed, Unsigned, Truth}
use Rattle.c_subset.specs.declared.trees.Arithmetic.{Arithmetic}
use Rattle.c_subset.specs.declared.trees.Arithmetic.TheVariants.{Plus, Less, Times}
use Rattle.c_subset.specs.declared.trees.Division.{Division}
use Rattle.c_subset.specs.declared.trees.Division.TheVariants.{Quotient, Remainder}
use Rattle.c_subset.specs.declared.trees.Bitwise.{Bitwise}
use Rattle.c_subset.specs.declared.trees.Bitwise.TheVariants.{BitAnd, BitOr}
use Rattle.c_subset.specs.declared.trees.Comparison.{Comparison}
use Rattle.c_subset.specs.declared.trees.Comparison.TheVariants.{IsEqual, IsUnequal, IsBelow, IsAtMost, IsAbove}
use Rattle.c_subset.specs.declared.trees.Comparison.TheVariants.{IsAtLeast}
use Rattle.c_subset.specs.Running.{same_type}
use Rattle.c_text.specs.declared.kinds.Kind.{Kind}
use Rattle.c_text.specs.Labels.{Labels, field_label, row_label, local_label}
use Rattle.c_text.specs.Types.{cast_text, constant_text}

-- ---- operators

-- the word of a sum, a difference or a product
abbrev pub arithmetic_word : Arithmetic → List ℕ
arithmetic_word Plus = codes " + "
arithmetic_word Less = codes " - "
arithmetic_word Times = codes " * "

-- the word of a division
abbrev pub division_word : Division → List ℕ
division_word Quotient = codes " / "
division_word Remainder = codes " % "

-- the word of an operator on bits
abbrev pub bitwise_word : Bitwise → List ℕ
bitwise_word BitAnd = codes " & "
bitwise_word BitOr = codes " | "

-- the word of a comparison
abbrev pub comparison_word : Comparison → List ℕ
comparison_word IsEqual = codes " == "
comparison_word IsUnequal = codes " != "
comparison_word IsBelow = codes " < "
comparison_word IsAtMost = codes " <= "
comparison_word IsAbove = codes " > "
comparison_word IsAtLeast = codes " >= "

-- ---- operands

-- an expression that stands in parentheses where it is an operand
abbrev pub is_compound : CExpr → Bool
is_compound (Const t z) = false
is_compound (Field f) = false
is_compound (Element a e) = false
is_compound (Local t k) = false
is_compound (Cast t e) = false
is_compound (Minus e) = true
is_compound (Bang e) = true
is_compound (Calc op a b) = true
is_compound (Divide op a b) = true
is_compound (Bits op a b) = true
is_compound (Compare op a b) = true
is_compound (Both a b) = true
is_compound (Either a b) = true
is_compound (Choose t e a b) = true

-- the text of an expression, as that of an operand
unfoldable pub wrapped : CExpr → List ℕ → List ℕ
wrapped e text = if is_compound e then codes "(" ++ (text ++ codes ")") else text

-- `&&`
abbrev pub is_both : CExpr → Bool
is_both (Const t z) = false
is_both (Field f) = false
is_both (Element a e) = false
is_both (Local t k) = false
is_both (Cast t e) = false
is_both (Minus e) = false
is_both (Bang e) = false
is_both (Calc op a b) = false
is_both (Divide op a b) = false
is_both (Bits op a b) = false
is_both (Compare op a b) = false
is_both (Both a b) = true
is_both (Either a b) = false
is_both (Choose t e a b) = false

-- `||`
abbrev pub is_either : CExpr → Bool
is_either (Const t z) = false
is_either (Field f) = false
is_either (Element a e) = false
is_either (Local t k) = false
is_either (Cast t e) = false
is_either (Minus e) = false
is_either (Bang e) = false
is_either (Calc op a b) = false
is_either (Divide op a b) = false
is_either (Bits op a b) = false
is_either (Compare op a b) = false
is_either (Both a b) = false
is_either (Either a b) = true
is_either (Choose t e a b) = false

-- whether it is the type of truth values
abbrev pub is_truth : CType → Bool
is_truth (Signed w) = false
is_truth (Unsigned w) = false
is_truth Truth = true

-- a constant, a local or a cast of exactly that type
abbrev pub is_of_type : CType → CExpr → Bool
is_of_type t (Const u z) = same_type u t
is_of_type t (Field f) = false
is_of_type t (Element a e) = false
is_of_type t (Local u k) = same_type u t
is_of_type t (Cast u e) = same_type u t
is_of_type t (Minus e) = false
is_of_type t (Bang e) = false
is_of_type t (Calc op a b) = false
is_of_type t (Divide op a b) = false
is_of_type t (Bits op a b) = false
is_of_type t (Compare op a b) = false
is_of_type t (Both a b) = false
is_of_type t (Either a b) = false
is_of_type t (Choose u e a b) = false

-- the text of an expression, brought to a type
unfoldable pub brought_text : List ℕ → CType → CExpr → List ℕ → List ℕ
brought_text chart t e text =
    if is_of_type t e then wrapped e text else cast_text chart t ++ wrapped e text

-- ---- expressions

-- an operator between two operands
abbrev pub between : CExpr → List ℕ → List ℕ → CExpr → List ℕ → List ℕ
between a left word b right = wrapped a left ++ (word ++ wrapped b right)

-- a && b && c and a || b || c are read from the left: a first operand of the same operator needs no parentheses
unfoldable pub first_text : Bool → CExpr → List ℕ → List ℕ
first_text is_same a left = if is_same then left else wrapped a left

-- && or || between two operands, of which the first may be of the same operator
abbrev pub chained : Bool → CExpr → List ℕ → List ℕ → CExpr → List ℕ → List ℕ
chained is_same a left word b right = first_text is_same a left ++ (word ++ wrapped b right)

-- An expression in a function of that kind
unfoldable pub bare : Labels → Kind → CExpr → List ℕ
bare L kind (Const t z) = constant_text L.chart t z
bare L kind (Field f) = codes "m->" ++ field_label L f
bare L kind (Element a e) = codes "m->" ++ (row_label a ++ (codes "[" ++ (bare L kind e ++ codes "]")))
bare L kind (Local t k) = local_label kind t k
bare L kind (Cast t e) = cast_text L.chart t ++ wrapped e (bare L kind e)
bare L kind (Minus e) = codes "-" ++ wrapped e (bare L kind e)
bare L kind (Bang e) = codes "!" ++ wrapped e (bare L kind e)
bare L kind (Calc op a b) = between a (bare L kind a) (arithmetic_word op) b (bare L kind b)
bare L kind (Divide op a b) = between a (bare L kind a) (division_word op) b (bare L kind b)
bare L kind (Bits op a b) = between a (bare L kind a) (bitwise_word op) b (bare L kind b)
bare L kind (Compare op a b) = between a (bare L kind a) (comparison_word op) b (bare L kind b)
bare L kind (Both a b) = chained (is_both a) a (bare L kind a) (codes " && ") b (bare L kind b)
bare L kind (Either a b) = chained (is_either a) a (bare L kind a) (codes " || ") b (bare L kind b)
bare L kind (Choose t e a b) =
    wrapped e (bare L kind e)
    ++ (codes " ? " ++ (brought_text L.chart t a (bare L kind a) ++ (codes " : " ++ brought_text L.chart t b (bare L kind b))))

-- an expression as an operand
abbrev pub operand : Labels → Kind → CExpr → List ℕ
operand L kind e = wrapped e (bare L kind e)

-- an expression brought to a type, as an operand
abbrev pub brought : Labels → Kind → CType → CExpr → List ℕ
brought L kind t e = brought_text L.chart t e (bare L kind e)
