-- Expressions.
use Rattle.std.specs.Prelude.{ℕ, zero, suc, ◌+◌, Bool, ◌||◌, List, [], ◌∷◌, Option, Some, None, if◌then◌else◌}
use Rattle.token_grammar.specs.declared.token.Kind.{Kind}
use Rattle.token_grammar.specs.declared.token.Kind.TheVariants as kinds
use Rattle.token_grammar.specs.declared.token.Span.{Span}
use Rattle.token_grammar.specs.declared.fault.TokenFault.{TokenFault}
use Rattle.token_grammar.specs.declared.fault.TokenFault.TheVariants as faults
use Rattle.token_grammar.specs.declared.fault.Thing.TheVariants as things
use Rattle.token_grammar.specs.Token.{Lexeme}
use Rattle.token_grammar.specs.Grammar.{Grammar, is, token, one_of, allowed, give, either, optional, many_from, ◌>>=◌}
use Rattle.token_grammar.specs.Grammar.{◌>>◌}
use Rattle.chart_tree.specs.declared.expr.UnWord.{UnWord}
use Rattle.chart_tree.specs.declared.expr.UnWord.TheVariants as un_words
use Rattle.chart_tree.specs.declared.expr.BinWord.{BinWord}
use Rattle.chart_tree.specs.declared.expr.BinWord.TheVariants as bin_words
use Rattle.chart_tree.specs.Trees.{Expr, Lit, Flag, Name, Active, Unary, Binary}
use Rattle.chart_grammar.specs.Limits.{Limits, one_more}
use Rattle.chart_grammar.specs.Words.{name_of, path, lit_of, number}

-- an expression, and how many operators and opening parentheses there are up to its end
pub record Operand : Type 0 where
  pub expr : Expr
  pub operators : ℕ

-- an operator with the operand after it
pub record Tail : Type 0 where
  pub word : BinWord
  pub at : Span
  pub right : Operand

-- the grammar of operands, for the number of operators before them
abbrev pub Operands : Type 1
Operands = ℕ → Grammar Operand

-- ---- operators

-- '*' | '/'
abbrev pub product_heads : Kind → Bool
product_heads k = is kinds.Star k || is kinds.Slash k

-- '+' | '-'
abbrev pub sum_heads : Kind → Bool
sum_heads k = is kinds.Plus k || is kinds.Minus k

-- '==' | '!=' | '<' | '<=' | '>' | '>='
abbrev pub comparison_heads : Kind → Bool
comparison_heads k =
    is kinds.EqualEqual k || (is kinds.NotEqual k || (is kinds.Less k
    || (is kinds.LessEqual k || (is kinds.Greater k || is kinds.GreaterEqual k))))

-- '-' | '!', before an operand
abbrev pub sign_heads : Kind → Bool
sign_heads k = is kinds.Minus k || is kinds.Not k

-- the tokens that begin an operand in which another operand is nested
abbrev pub nested_heads : Kind → Bool
nested_heads k = sign_heads k || is kinds.OpenParen k

-- 'true' | 'false'
abbrev pub flag_heads : Kind → Bool
flag_heads k = is kinds.True k || is kinds.False k

-- the word of an operator between two operands
abbrev pub bin_word : Kind → BinWord
bin_word k =
    if is kinds.OrOr k then bin_words.Or else
    if is kinds.AndAnd k then bin_words.And else
    if is kinds.EqualEqual k then bin_words.Eq else
    if is kinds.NotEqual k then bin_words.Ne else
    if is kinds.Less k then bin_words.Lt else
    if is kinds.LessEqual k then bin_words.Le else
    if is kinds.Greater k then bin_words.Gt else
    if is kinds.GreaterEqual k then bin_words.Ge else
    if is kinds.Plus k then bin_words.Add else
    if is kinds.Minus k then bin_words.Sub else
    if is kinds.Star k then bin_words.Mul else
    bin_words.Div

-- the word of an operator before its operand
abbrev pub un_word : Kind → UnWord
un_word k = if is kinds.Minus k then un_words.Neg else un_words.Not

-- one of the operators, or an opening parenthesis, where `before` operators and parentheses stand before it
unfoldable pub operator : Limits → (Kind → Bool) → ℕ → Grammar Lexeme
operator l set before = allowed set (λ t. one_more l things.Operators before) (one_of set)

-- ---- operands without an operator

-- NUMBER
unfoldable pub literal : Limits → ℕ → Grammar Operand
literal l before = do
  t ← number l
  give (record { expr = Lit (lit_of t.text) t.at; operators = before })

-- 'true' | 'false'
unfoldable pub flag : ℕ → Grammar Operand
flag before = do
  t ← one_of flag_heads
  give (record { expr = Flag (is kinds.True t.kind) t.at; operators = before })

-- NAME
unfoldable pub datum : ℕ → Grammar Operand
datum before = do
  t ← token kinds.Name
  give (record { expr = Name (name_of t); operators = before })

-- 'in' '(' path ')'
unfoldable pub active : ℕ → Grammar Operand
active before = do
  t ← token kinds.In
  token kinds.OpenParen
  path ← path
  token kinds.CloseParen
  give (record { expr = Active path t.at; operators = before })

-- NUMBER | 'true' | 'false' | NAME | 'in' '(' path ')'
unfoldable pub plain : Limits → ℕ → Grammar Operand
plain l before =
    either (is kinds.Number) (literal l before)
    (either flag_heads (flag before)
    (either (is kinds.In) (active before) (datum before)))

-- ---- chains of operators of one level, over the operands of the next

-- an operator, and the operand after it
unfoldable pub tail : Limits → (Kind → Bool) → Operands → ℕ → Grammar Tail
tail l set operand before = do
  t ← operator l set before
  right ← operand (before + 1)
  give (record { word = bin_word t.kind; at = t.at; right = right })

-- an operand with one operator more
abbrev pub with_tail : Operand → Tail → Operand
with_tail e t = record { expr = Binary t.word e.expr t.right.expr t.at; operators = t.right.operators }

-- grouped from the left
abbrev pub joined : Operand → List Tail → Operand
joined e [] = e
joined e (t ∷ ts) = joined (with_tail e t) ts

-- at most one operator
abbrev pub compared : Operand → Option Tail → Operand
compared e None = e
compared e (Some t) = with_tail e t

-- any number of operators
unfoldable pub tails : Limits → (Kind → Bool) → Operands → ℕ → Grammar (List Tail)
tails l set operand before =
    many_from (λ n. set) (tail l set operand) (λ n t. t.right.operators) before

-- operand (OPERATOR operand)*
unfoldable pub chain : Limits → (Kind → Bool) → Operands → ℕ → Grammar Operand
chain l set operand before = do
  first ← operand before
  others ← tails l set operand first.operators
  give (joined first others)

-- operand (OPERATOR operand)?
unfoldable pub pair : Limits → (Kind → Bool) → Operands → ℕ → Grammar Operand
pair l set operand before = do
  first ← operand before
  second ← optional set (tail l set operand first.operators)
  give (compared first second)

-- prod := unary (('*' | '/') unary)*
unfoldable pub product : Limits → Operands → ℕ → Grammar Operand
product l unary = chain l product_heads unary

-- sum := prod (('+' | '-') prod)*
unfoldable pub sum : Limits → Operands → ℕ → Grammar Operand
sum l unary = chain l sum_heads (product l unary)

-- comp := sum (('==' | '!=' | '<' | '<=' | '>' | '>=') sum)?
unfoldable pub comparison : Limits → Operands → ℕ → Grammar Operand
comparison l unary = pair l comparison_heads (sum l unary)

-- conj := comp ('&&' comp)*
unfoldable pub conjunction : Limits → Operands → ℕ → Grammar Operand
conjunction l unary = chain l (is kinds.AndAnd) (comparison l unary)

-- expr := conj ('||' conj)*
unfoldable pub disjunction : Limits → Operands → ℕ → Grammar Operand
disjunction l unary = chain l (is kinds.OrOr) (conjunction l unary)

-- ---- nesting

-- ('-' | '!') unary
unfoldable pub signed : Limits → Operands → ℕ → Grammar Operand
signed l unary before = do
  t ← operator l sign_heads before
  inner ← unary (before + 1)
  give (record { expr = Unary (un_word t.kind) inner.expr t.at; operators = inner.operators })

-- '(' expr ')'
unfoldable pub parens : Limits → Operands → ℕ → Grammar Operand
parens l unary before = do
  operator l (is kinds.OpenParen) before
  inner ← disjunction l unary (before + 1)
  token kinds.CloseParen
  give inner

-- ('-' | '!') unary | '(' expr ')'
unfoldable pub nested : Limits → Operands → ℕ → Grammar Operand
nested l unary before = either sign_heads (signed l unary before) (parens l unary before)

-- one operator or parenthesis more than may be nested
abbrev pub too_nested : Lexeme → Option TokenFault
too_nested t = Some (faults.TooMany things.Operators)

-- unary := ('-' | '!') unary | '(' expr ')' | an operand without an operator; the first number is
-- how many levels deep it may be nested, and the second how many operators and parentheses stand
-- before it
unfoldable pub unary : Limits → ℕ → ℕ → Grammar Operand
unary l zero before =
    either nested_heads (allowed nested_heads too_nested (nested l (plain l) before)) (plain l before)
unary l (suc deeper) before =
    either nested_heads (nested l (unary l deeper) before) (plain l before)

-- an expression, with its number of operators and opening parentheses
unfoldable pub operand : Limits → Grammar Operand
operand l = disjunction l (unary l l.nesting) 0

-- expr
unfoldable pub expr : Limits → Grammar Expr
expr l = do
  e ← operand l
  give e.expr
