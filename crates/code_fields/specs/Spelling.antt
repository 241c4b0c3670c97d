-- How words, data, events and expressions are spelled.
use Rattle.std.specs.Prelude.{◌≡◌, ℕ, ◌^◌, ◌<◌, ◌≤◌, ℤ, unsigned_abs, Bool, true, false, IsTrue, ◌&&◌, int_le, pos}
use Rattle.std.specs.Prelude.{List, ◌∷◌, ◌++◌, codes, decimal}
use Rattle.std.specs.Fmt.{signed_decimal}
use Rattle.flow_base.specs.declared.chart_limits.TheConstants.{OPERATOR_LIMIT}
use Rattle.fixed_point.specs.declared.fitting.Mode.{Mode}
use Rattle.fixed_point.specs.declared.fitting.Mode.TheVariants as modes
use Rattle.fixed_point.specs.declared.num.Num.{Num}
use Rattle.fixed_point.specs.declared.scale.Scale.{Scale}
use Rattle.chart_lexer.specs.Words.{is_name}
use Rattle.active_config.specs.declared.comp.Comp.{Comp}
use Rattle.active_config.specs.declared.comp.Comp.TheVariants as comps
use Rattle.actions.specs.declared.expr.Op.{Op}
use Rattle.actions.specs.declared.expr.Op.TheVariants as ops
use Rattle.actions.specs.declared.names.EventDecl.{EventDecl}
use Rattle.actions.specs.declared.names.EventKind.{EventKind}
use Rattle.actions.specs.declared.names.EventKind.TheVariants as event_kinds
use Rattle.actions.specs.declared.names.Sort.{Sort}
use Rattle.actions.specs.declared.names.Sort.TheVariants as sorts
use Rattle.actions.specs.declared.names.Var.{Var}
use Rattle.actions.specs.declared.names.VarKind.{VarKind}
use Rattle.actions.specs.declared.names.VarKind.TheVariants as var_kinds
use Rattle.actions.specs.Exprs.{Expr, Lit, Flag, Read, Active, Neg, Not, Bin}
use Rattle.checked_chart.specs.Expressions.{IsLiteral, operator_count}

-- a number that a line can have
abbrev pub IsNumber : ℕ → Type 0
IsNumber n = n < 2 ^ 32

-- a name that a line can have
abbrev pub IsName : List ℕ → Type 0
IsName name = IsTrue (is_name name)

-- ---- words

-- how a state is composed
abbrev pub comp_word : Comp → List ℕ
comp_word comps.Leaf = codes "leaf"
comp_word comps.Or = codes "or"
comp_word comps.And = codes "and"

-- who sets a datum
abbrev pub var_kind_word : VarKind → List ℕ
var_kind_word var_kinds.Input = codes "input"
var_kind_word var_kinds.Output = codes "output"
var_kind_word var_kinds.Local = codes "local"

-- who raises an event
abbrev pub event_kind_word : EventKind → List ℕ
event_kind_word event_kinds.Input = codes "input"
event_kind_word event_kinds.Local = codes "local"
event_kind_word event_kinds.Output = codes "output"

-- what is done with a number out of range
abbrev pub mode_word : Mode → List ℕ
mode_word modes.Saturate = codes "saturate"
mode_word modes.Wrap = codes "wrap"
mode_word modes.Error = codes "error"

-- a scale is signed or unsigned
abbrev pub sign_word : Bool → List ℕ
sign_word true = codes "sfix"
sign_word false = codes "ufix"

-- the values of a datum: bool, or sfixW_EnF or ufixW_EnF
abbrev pub sort_word : Sort → List ℕ
sort_word sorts.Flag = codes "bool"
sort_word (sorts.Number scale) =
    sign_word scale.signed ++ (decimal scale.width ++ (codes "_En" ++ decimal scale.frac))

-- the mode of a number; a flag has none
abbrev pub mode_in : Sort → Mode → List ℕ
mode_in sorts.Flag mode = codes "-"
mode_in (sorts.Number scale) mode = mode_word mode

-- an operator with two operands
abbrev pub op_word : Op → List ℕ
op_word ops.Or = codes "||"
op_word ops.And = codes "&&"
op_word ops.Eq = codes "=="
op_word ops.Ne = codes "!="
op_word ops.Lt = codes "<"
op_word ops.Le = codes "<="
op_word ops.Gt = codes ">"
op_word ops.Ge = codes ">="
op_word ops.Add = codes "+"
op_word ops.Sub = codes "-"
op_word ops.Mul = codes "*"
op_word ops.Div = codes "/"

-- a flag
abbrev pub flag_word : Bool → List ℕ
flag_word true = codes "T"
flag_word false = codes "F"

-- ---- lines

-- the line of a datum
abbrev pub var_line : Var → List ℕ
var_line v =
    codes "d " ++ (var_kind_word v.kind ++ (32 ∷ (sort_word v.sort ++ (32 ∷ (mode_in v.sort v.mode
    ++ (32 ∷ (signed_decimal v.init ++ (32 ∷ v.name))))))))

-- the line of an event
abbrev pub event_line : EventDecl → List ℕ
event_line e = codes "e " ++ (event_kind_word e.kind ++ (32 ∷ e.name))

-- a literal
abbrev pub literal_word : Num → List ℕ
literal_word n = 35 ∷ (signed_decimal n.mantissa ++ (58 ∷ decimal n.frac))

-- an expression: an operator stands before its operands
abbrev pub expr_words : Expr → List ℕ
expr_words (Lit n) = literal_word n
expr_words (Flag b) = flag_word b
expr_words (Read v) = codes "d" ++ decimal v
expr_words (Active s) = codes "in" ++ decimal s
expr_words (Neg a) = codes "~" ++ (32 ∷ expr_words a)
expr_words (Not a) = codes "!" ++ (32 ∷ expr_words a)
expr_words (Bin op a b) = op_word op ++ (32 ∷ (expr_words a ++ (32 ∷ expr_words b)))

-- ---- what has a spelling

-- a flag is 0 or 1 at first, and a number is at most 2^64 in magnitude
abbrev pub is_init_of : Sort → ℤ → Bool
is_init_of sorts.Flag init = int_le (pos 0) init && int_le init (pos 1)
is_init_of (sorts.Number scale) init = true

-- a datum that has a line: a flag has the mode Saturate
pub record IsVar (v : Var) : Type 0 where
  pub named : IsName v.name
  pub mode : v.sort ≡ sorts.Flag → v.mode ≡ modes.Saturate
  pub init : is_init_of v.sort v.init ≡ true
  pub small : unsigned_abs v.init ≤ 2 ^ 64

-- an event that has a line
abbrev pub IsEvent : EventDecl → Type 0
IsEvent e = IsName e.name

-- the numbers of an expression are those of a text
abbrev pub HasNumbers : Expr → Type 0
HasNumbers (Lit n) = IsLiteral n
HasNumbers (Flag b) = Unit {0}
HasNumbers (Read v) = IsNumber v
HasNumbers (Active s) = IsNumber s
HasNumbers (Neg a) = HasNumbers a
HasNumbers (Not a) = HasNumbers a
HasNumbers (Bin op a b) = HasNumbers a × HasNumbers b

-- an expression that has words: it has not too many operators
pub record IsExpr (x : Expr) : Type 0 where
  pub numbers : HasNumbers x
  pub few : operator_count x ≤ OPERATOR_LIMIT
