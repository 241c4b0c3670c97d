-- Expressions, read from the front of a text.
use Rattle.std.specs.Prelude.{ℕ, zero, suc, ◌+◌, nat_lt, pos, Bool, true, false, List, codes}
use Rattle.std.specs.Prelude.{Option, Some, None, option_and_then, option_map, if◌then◌else◌}
use Rattle.std.specs.Str.{bytes_eq}
use Rattle.flow_base.specs.declared.chart_limits.TheConstants.{OPERATOR_LIMIT}
use Rattle.fixed_point.specs.declared.num.Num.{Num}
use Rattle.fixed_point.specs.declared.rounding.TheConstants.{READ_LIMIT}
use Rattle.fixed_point.specs.declared.scale.TheConstants.{PLACES_LIMIT}
use Rattle.actions.specs.declared.expr.Op.{Op}
use Rattle.actions.specs.declared.expr.Op.TheVariants as ops
use Rattle.actions.specs.Exprs.{Expr, Lit, Flag, Read, Active, Neg, Not, Bin}
use Rattle.code_fields.specs.declared.operators.Operator.{Operator}
use Rattle.code_fields.specs.declared.operators.Operator.TheVariants as operators
use Rattle.code_fields.specs.Cuts.{Parts, parts_at, Field, field_of}
use Rattle.code_fields.specs.Fields.{kept, or_else, numeral, number_of, number_behind, behind}

-- ---- tokens

-- the operator of a token that calculates
abbrev pub calculation_of : List ℕ → Option Operator
calculation_of token =
    if bytes_eq token (codes "+") then Some (operators.Bin ops.Add) else
    if bytes_eq token (codes "-") then Some (operators.Bin ops.Sub) else
    if bytes_eq token (codes "*") then Some (operators.Bin ops.Mul) else
    if bytes_eq token (codes "/") then Some (operators.Bin ops.Div) else
    None

-- the operator of a token that compares or calculates
abbrev pub comparison_of : List ℕ → Option Operator
comparison_of token =
    if bytes_eq token (codes "==") then Some (operators.Bin ops.Eq) else
    if bytes_eq token (codes "!=") then Some (operators.Bin ops.Ne) else
    if bytes_eq token (codes "<") then Some (operators.Bin ops.Lt) else
    if bytes_eq token (codes "<=") then Some (operators.Bin ops.Le) else
    if bytes_eq token (codes ">") then Some (operators.Bin ops.Gt) else
    if bytes_eq token (codes ">=") then Some (operators.Bin ops.Ge) else
    calculation_of token

-- the operator of a token
unfoldable pub operator_of : List ℕ → Option Operator
operator_of token =
    if bytes_eq token (codes "~") then Some operators.Neg else
    if bytes_eq token (codes "!") then Some operators.Not else
    if bytes_eq token (codes "||") then Some (operators.Bin ops.Or) else
    if bytes_eq token (codes "&&") then Some (operators.Bin ops.And) else
    comparison_of token

-- a fraction of at most 32
abbrev pub frac_of : List ℕ → Option ℕ
frac_of token = option_and_then (kept (λ n. nat_lt n (PLACES_LIMIT + 1))) (number_of token)

-- a literal of this mantissa
abbrev pub literal_with : List ℕ → ℕ → Option Num
literal_with text mantissa = option_map (λ frac. record { mantissa = pos mantissa; frac = frac }) (frac_of text)

-- a literal of a mantissa below `READ_LIMIT` and a fraction
abbrev pub literal_parts : Parts → Option Num
literal_parts parts = option_and_then (literal_with parts.rest) (numeral READ_LIMIT parts.front)

-- a literal without its sign `#`
unfoldable pub literal_of : List ℕ → Option Num
literal_of text = option_and_then literal_parts (parts_at 58 text)

-- an expression without operators
unfoldable pub atom_of : List ℕ → Option Expr
atom_of token =
    if bytes_eq token (codes "T") then Some (Flag true) else
    if bytes_eq token (codes "F") then Some (Flag false) else
    or_else (option_map (λ v. Read v) (number_behind (codes "d") token))
    (or_else (option_map (λ s. Active s) (number_behind (codes "in") token))
    (option_map (λ n. Lit n) (option_and_then literal_of (behind (codes "#") token))))

-- ---- expressions

-- an expression at the front of a text, how many operators there may be after it, and what follows its last token
pub record ReadExpr : Type 0 where
  pub expr : Expr
  pub left : ℕ
  pub rest : Option (List ℕ)

-- how the front of a text is read where an expression has so many operators at most
abbrev pub Reader : Type 0
Reader = ℕ → List ℕ → Option ReadExpr

-- with both operands
abbrev pub with_second : Op → Expr → ReadExpr → ReadExpr
with_second op first second = record { expr = Bin op first second.expr; left = second.left; rest = second.rest }

-- with a minus before it
abbrev pub negated : ReadExpr → ReadExpr
negated first = record { expr = Neg first.expr; left = first.left; rest = first.rest }

-- with a `!` before it
abbrev pub denied : ReadExpr → ReadExpr
denied first = record { expr = Not first.expr; left = first.left; rest = first.rest }

-- with its first operand
abbrev pub with_first : Reader → Operator → ReadExpr → Option ReadExpr
with_first go operators.Neg first = Some (negated first)
with_first go operators.Not first = Some (denied first)
with_first go (operators.Bin op) first =
    option_map (with_second op first.expr) (option_and_then (go first.left) first.rest)

-- an operator, where one is left, needs operands after it
abbrev pub operands : Reader → Operator → ℕ → Option (List ℕ) → Option ReadExpr
operands go operator zero rest = None
operands go operator (suc left) rest = option_and_then (with_first go operator) (option_and_then (go left) rest)

-- a token that is no operator stands alone
abbrev pub operand : ℕ → Field → Option ReadExpr
operand left token = option_map (λ x. record { expr = x; left = left; rest = token.rest }) (atom_of token.word)

-- by the operator of the first token, if it is one
abbrev pub by_operator : Reader → ℕ → Field → Option Operator → Option ReadExpr
by_operator go left token None = operand left token
by_operator go left token (Some operator) = operands go operator left token.rest

-- the expression at the front of a text, where `depth` bounds its operators round each other and itself, and `left`
-- all its operators
unfoldable pub front_of : ℕ → ℕ → List ℕ → Option ReadExpr
front_of zero left text = None
front_of (suc depth) left text = by_operator (front_of depth) left (field_of text) (operator_of (field_of text).word)

-- an expression with nothing after it
abbrev pub alone : ReadExpr → Option (List ℕ) → Option Expr
alone front None = Some front.expr
alone front (Some rest) = None

-- the expression of a text, with at most OPERATOR_LIMIT operators
unfoldable pub expr_of : List ℕ → Option Expr
expr_of text =
    option_and_then (λ front. alone front front.rest) (front_of (OPERATOR_LIMIT + 1) OPERATOR_LIMIT text)
