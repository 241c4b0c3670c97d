-- Expressions. Operators, their words and their levels are those of chart texts.
use Rattle.std.specs.Prelude.{ℕ, zero, suc, ◌+◌, Bool, true, false, ◌||◌, List, [], ◌∷◌, Option, Some, None, if◌then◌else◌}
use Rattle.token_grammar.specs.declared.token.Kind.{Kind}
use Rattle.token_grammar.specs.declared.token.Kind.TheVariants as kinds
use Rattle.token_grammar.specs.declared.token.Span.{Span}
use Rattle.token_grammar.specs.declared.fault.TokenFault.{TokenFault}
use Rattle.token_grammar.specs.declared.fault.TokenFault.TheVariants as faults
use Rattle.token_grammar.specs.declared.fault.Thing.TheVariants as things
use Rattle.token_grammar.specs.Token.{Lexeme}
use Rattle.token_grammar.specs.Grammar.{Grammar, is, token, one_of, allowed, give, either, optional, many_from, ◌>>=◌}
use Rattle.token_grammar.specs.Grammar.{◌>>◌}
use Rattle.chart_tree.specs.declared.name.NameText.{NameText}
use Rattle.chart_tree.specs.declared.expr.BinWord.{BinWord}
use Rattle.chart_grammar.specs.Limits.{Limits, one_more}
use Rattle.chart_grammar.specs.Words.{name, path, lit_of}
use Rattle.chart_grammar.specs.Expressions.{product_heads, sum_heads, comparison_heads, sign_heads, flag_heads}
use Rattle.chart_grammar.specs.Expressions.{bin_word, un_word, operator}
use Rattle.statechart_lexer.specs.declared.words.Word.TheVariants as words
use Rattle.statechart_lexer.specs.Words.{word_of}
use Rattle.statechart_tree.specs.declared.expr.TimeWord.{TimeWord}
use Rattle.statechart_tree.specs.Trees.{Expr, Lit, Flag, Name, Active, Count, Timed, Call, Unary, Binary, Exprs, NoExpr}
use Rattle.statechart_tree.specs.Trees.{MoreExprs}
use Rattle.statechart_grammar.specs.Words.{just, is_among, other_word, time_of, is_time, parts, number}

-- an expression, and how many operators and opening parentheses there are up to its end
pub record Operand : Type 0 where
  pub expr : Expr
  pub operators : ℕ

-- an operator with the operand after it
pub record Tail : Type 0 where
  pub word : BinWord
  pub at : Span
  pub right : Operand

-- the grammar of operands, for the number of operators before them
abbrev pub Operands : Type 1
Operands = ℕ → Grammar Operand

-- ---- chains of operators of one level, over the operands of the next

-- an operator, and the operand after it
unfoldable pub tail : Limits → (Kind → Bool) → Operands → ℕ → Grammar Tail
tail l set operand before = do
  t ← operator l set before
  right ← operand (before + 1)
  give (record { word = bin_word t.kind; at = t.at; right = right })

-- an operand with one operator more
abbrev pub with_tail : Operand → Tail → Operand
with_tail e t = record { expr = Binary t.word e.expr t.right.expr t.at; operators = t.right.operators }

-- grouped from the left
abbrev pub joined : Operand → List Tail → Operand
joined e [] = e
joined e (t ∷ ts) = joined (with_tail e t) ts

-- at most one operator
abbrev pub compared : Operand → Option Tail → Operand
compared e None = e
compared e (Some t) = with_tail e t

-- any number of operators
unfoldable pub tails : Limits → (Kind → Bool) → Operands → ℕ → Grammar (List Tail)
tails l set operand before =
    many_from (λ n. set) (tail l set operand) (λ n t. t.right.operators) before

-- operand (OPERATOR operand)*
unfoldable pub chain : Limits → (Kind → Bool) → Operands → ℕ → Grammar Operand
chain l set operand before = do
  first ← operand before
  others ← tails l set operand first.operators
  give (joined first others)

-- operand (OPERATOR operand)?
unfoldable pub pair : Limits → (Kind → Bool) → Operands → ℕ → Grammar Operand
pair l set operand before = do
  first ← operand before
  second ← optional set (tail l set operand first.operators)
  give (compared first second)

-- prod := unary (('*' | '/') unary)*
unfoldable pub product : Limits → Operands → ℕ → Grammar Operand
product l unary = chain l product_heads unary

-- sum := prod (('+' | '-') prod)*
unfoldable pub sum : Limits → Operands → ℕ → Grammar Operand
sum l unary = chain l sum_heads (product l unary)

-- comp := sum (('==' | '!=' | '<' | '<=' | '>' | '>=') sum)?
unfoldable pub comparison : Limits → Operands → ℕ → Grammar Operand
comparison l unary = pair l comparison_heads (sum l unary)

-- conj := comp ('&&' comp)*
unfoldable pub conjunction : Limits → Operands → ℕ → Grammar Operand
conjunction l unary = chain l (is kinds.AndAnd) (comparison l unary)

-- expr := conj ('||' conj)*
unfoldable pub disjunction : Limits → Operands → ℕ → Grammar Operand
disjunction l unary = chain l (is kinds.OrOr) (conjunction l unary)

-- ---- operands without an expression in them

-- NUMBER
unfoldable pub literal : Limits → ℕ → Grammar Operand
literal l before = do
  t ← number l
  give (record { expr = Lit (lit_of t.text) t.at; operators = before })

-- 'true' | 'false'
unfoldable pub flag : ℕ → Grammar Operand
flag before = do
  t ← one_of flag_heads
  give (record { expr = Flag (is kinds.True t.kind) t.at; operators = before })

-- 'in' '(' path ')'
unfoldable pub active : ℕ → Grammar Operand
active before = do
  t ← token kinds.In
  token kinds.OpenParen
  path ← path
  token kinds.CloseParen
  give (record { expr = Active path t.at; operators = before })

-- ('.' NAME)*, behind the first NAME of a target
unfoldable pub datum : NameText → ℕ → Grammar Operand
datum first before = do
  others ← parts
  give (record { expr = Name (first ∷ others); operators = before })

-- '(' NAME ')', behind `temporalCount`
unfoldable pub counted : Span → ℕ → Grammar Operand
counted at before = do
  token kinds.OpenParen
  event ← name
  token kinds.CloseParen
  give (record { expr = Count event at; operators = before })

-- ---- nesting: the operands in an operand are one level deeper, and nothing is deeper than the deepest

-- the fault of one temporal word with a count more than there may be
abbrev pub nesting_refused : Limits → Bool → ℕ → Option TokenFault
nesting_refused l true before = Some (faults.TooMany things.Operators)
nesting_refused l false before = one_more l things.Operators before

-- one more operator or parenthesis than may be nested
abbrev pub too_nested : Lexeme → Option TokenFault
too_nested t = Some (faults.TooMany things.Operators)

-- a token of the set before an operand that is nested
abbrev pub opening : Limits → Bool → (Kind → Bool) → ℕ → Grammar Lexeme
opening l true set before = allowed set too_nested (one_of set)
opening l false set before = operator l set before

-- ('-' | '!') unary
unfoldable pub signed : Limits → Bool → Operands → ℕ → Grammar Operand
signed l deepest inner before = do
  t ← opening l deepest sign_heads before
  found ← inner (before + 1)
  give (record { expr = Unary (un_word t.kind) found.expr t.at; operators = found.operators })

-- '(' expr ')'
unfoldable pub parens : Limits → Bool → Operands → ℕ → Grammar Operand
parens l deepest inner before = do
  opening l deepest (is kinds.OpenParen) before
  found ← disjunction l inner (before + 1)
  token kinds.CloseParen
  give found

-- expressions in order, and how many operators and opening parentheses there are up to their end
pub record Arguments : Type 0 where
  pub exprs : Exprs
  pub operators : ℕ

-- the expressions of operands
abbrev pub exprs_of : List Operand → Exprs
exprs_of [] = NoExpr
exprs_of (o ∷ os) = MoreExprs o.expr (exprs_of os)

-- the operators up to the end of the last operand
abbrev pub operators_behind : ℕ → List Operand → ℕ
operators_behind before [] = before
operators_behind before (o ∷ os) = operators_behind o.operators os

-- arguments that are operands
abbrev pub arguments_of : ℕ → List Operand → Arguments
arguments_of before os = record { exprs = exprs_of os; operators = operators_behind before os }

-- ',' expr
unfoldable pub next_argument : Limits → Operands → ℕ → Grammar Operand
next_argument l inner before = do
  token kinds.Comma
  disjunction l inner before

-- args := expr (',' expr)*
unfoldable pub some_arguments : Limits → Operands → ℕ → Grammar Arguments
some_arguments l inner before = do
  first ← disjunction l inner before
  others ← many_from (λ n. is kinds.Comma) (next_argument l inner) (λ n o. o.operators) first.operators
  give (arguments_of before (first ∷ others))

-- what an expression begins with
abbrev pub operand_heads : Kind → Bool
operand_heads k =
    sign_heads k || (is kinds.OpenParen k || (is kinds.Number k || (flag_heads k
    || (is kinds.In k || (is kinds.Tick k || is kinds.Name k)))))

-- args?
unfoldable pub arguments : Limits → Operands → ℕ → Grammar Arguments
arguments l inner before = either operand_heads (some_arguments l inner before) (give (arguments_of before []))

-- '(' args? ')', behind the NAME of a call
unfoldable pub call : Limits → Bool → Operands → NameText → ℕ → Grammar Operand
call l deepest inner name before = do
  opening l deepest (is kinds.OpenParen) before
  found ← arguments l inner (before + 1)
  token kinds.CloseParen
  give (record { expr = Call name found.exprs; operators = found.operators })

-- target | NAME '(' args? ')'
unfoldable pub named : Limits → Bool → Operands → ℕ → Grammar Operand
named l deepest inner before = do
  first ← name
  either (is kinds.OpenParen) (call l deepest inner first before) (datum first before)

-- '(' expr ',' NAME ')', behind `after`, `before` or `at`
unfoldable pub timed : Limits → Operands → TimeWord → Span → ℕ → Grammar Operand
timed l inner word at before = do
  token kinds.OpenParen
  found ← disjunction l inner before
  token kinds.Comma
  event ← name
  token kinds.CloseParen
  give (record { expr = Timed word found.expr event at; operators = found.operators })

-- the fault of a token that is no temporal word of an expression, or of one temporal word with a count too many
abbrev pub temporal_refused : Limits → Bool → ℕ → Lexeme → Option TokenFault
temporal_refused l deepest before t =
    if is_among is_time (word_of t.text) then nesting_refused l deepest before
    else other_word (just words.TemporalCount) t

-- what stands behind a temporal word
abbrev pub asked : Limits → Operands → Option TimeWord → Span → ℕ → Grammar Operand
asked l inner None at before = counted at before
asked l inner (Some word) at before = timed l inner word at (before + 1)

-- ('after' | 'before' | 'at') '(' expr ',' NAME ')' | 'temporalCount' '(' NAME ')'
unfoldable pub temporal : Limits → Bool → Operands → ℕ → Grammar Operand
temporal l deepest inner before = do
  t ← allowed (is kinds.Tick) (temporal_refused l deepest before) (token kinds.Tick)
  asked l inner (time_of (word_of t.text)) t.at before

-- unary := ('-' | '!') unary | '(' expr ')' | atom
-- atom := NUMBER | 'true' | 'false' | 'in' '(' path ')' | target | NAME '(' args? ')'
--     | ('after' | 'before' | 'at') '(' expr ',' NAME ')' | 'temporalCount' '(' NAME ')'
unfoldable pub unary_over : Limits → Bool → Operands → ℕ → Grammar Operand
unary_over l deepest inner before =
    either sign_heads (signed l deepest inner before)
    (either (is kinds.OpenParen) (parens l deepest inner before)
    (either (is kinds.Number) (literal l before)
    (either flag_heads (flag before)
    (either (is kinds.In) (active before)
    (either (is kinds.Tick) (temporal l deepest inner before) (named l deepest inner before))))))

-- unary, nested to the given depth at most; the second number is how many operators and parentheses stand before it
unfoldable pub unary : Limits → ℕ → ℕ → Grammar Operand
unary l zero before = unary_over l true (literal l) before
unary l (suc deeper) before = unary_over l false (unary l deeper) before

-- an expression, with its number of operators and opening parentheses
unfoldable pub operand : Limits → Grammar Operand
operand l = disjunction l (unary l l.nesting) 0

-- expr
unfoldable pub expr : Limits → Grammar Expr
expr l = do
  e ← operand l
  give e.expr
