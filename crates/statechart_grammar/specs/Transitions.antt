-- Statements, blocks, cases and transitions. Destinations are those of chart texts.
use Rattle.std.specs.Prelude.{ℕ, ◌+◌, Bool, ◌||◌, List, [], ◌∷◌, length, Option, Some, None, if◌then◌else◌}
use Rattle.std.specs.Prelude.{codes, bytes_eq}
use Rattle.token_grammar.specs.declared.token.Kind.{Kind}
use Rattle.token_grammar.specs.declared.token.Kind.TheVariants as kinds
use Rattle.token_grammar.specs.declared.token.Span.{Span}
use Rattle.token_grammar.specs.declared.fault.TokenFault.{TokenFault}
use Rattle.token_grammar.specs.Token.{Lexeme}
use Rattle.token_grammar.specs.Grammar.{Grammar, is, token, one_of, allowed, at_first, give, either, optional}
use Rattle.token_grammar.specs.Grammar.{many, many_from, ◌>>=◌, ◌>>◌}
use Rattle.chart_tree.specs.declared.name.NameText.{NameText}
use Rattle.chart_tree.specs.declared.expr.BinWord.{BinWord}
use Rattle.chart_tree.specs.declared.expr.BinWord.TheVariants as bin_words
use Rattle.chart_tree.specs.Trees.{Path}
use Rattle.chart_grammar.specs.Limits.{Limits, Counts, Counted, statement_refused, transition_refused, after_transition}
use Rattle.chart_grammar.specs.Limits.{first_of}
use Rattle.chart_grammar.specs.Words.{name}
use Rattle.chart_grammar.specs.Transitions.{maybe_target, stmt_heads, dest}
use Rattle.statechart_lexer.specs.Words.{word_of}
use Rattle.statechart_tree.specs.declared.expr.TimeWord.{TimeWord}
use Rattle.statechart_tree.specs.Trees.{Expr, Stmt, Assign, Update, Step, Send, Emit, Raise, Invoke, Exprs, NoExpr}
use Rattle.statechart_tree.specs.Trees.{MoreExprs, Trigger, Always, On, AtTime, Every, Guard, Case, Trans}
use Rattle.statechart_grammar.specs.Words.{other_word, word_in, time_of, is_timing, other_text, spelled, bar, parts}
use Rattle.statechart_grammar.specs.Expressions.{expr, operand_heads}

-- ---- statements

-- '=' expr ';', behind a target
unfoldable pub assign : Limits → Path → Grammar Stmt
assign l target = do
  token kinds.Assign
  value ← expr l
  token kinds.Semicolon
  give (Assign target value)

-- the operator of a symbol that changes a datum by a value
unfoldable pub update_word : List ℕ → Option BinWord
update_word text =
    if bytes_eq text (codes "+=") then Some bin_words.Add else
    if bytes_eq text (codes "-=") then Some bin_words.Sub else
    if bytes_eq text (codes "*=") then Some bin_words.Mul else
    if bytes_eq text (codes "/=") then Some bin_words.Div else
    None

-- expr ';', behind a target and '+=', '-=', '*=' or '/='
unfoldable pub update : Limits → Path → BinWord → Span → Grammar Stmt
update l target word at = do
  value ← expr l
  token kinds.Semicolon
  give (Update target word value at)

-- ';', behind a target and '++'
unfoldable pub step_up : Path → Span → Grammar Stmt
step_up target at = do
  token kinds.Semicolon
  give (Step target bin_words.Add at)

-- what stands behind a symbol that changes a datum
abbrev pub changed : Limits → Path → Option BinWord → Span → Grammar Stmt
changed l target None at = step_up target at
changed l target (Some word) at = update l target word at

-- the fault of a token with the kind of the symbols that change a datum, where it is none of them
abbrev pub change_refused : Lexeme → Option TokenFault
change_refused t = elim (update_word t.text) [ None ↦ other_text (codes "++") t | Some word ↦ None ]

-- ('+=' | '-=' | '*=' | '/=') expr ';' | '++' ';', behind a target
unfoldable pub change : Limits → Path → Grammar Stmt
change l target = do
  t ← allowed (is kinds.Chart) change_refused (token kinds.Chart)
  changed l target (update_word t.text) t.at

-- '--' ';', behind a target: of the two tokens of `--` the first has both as its text
unfoldable pub step_down : Path → Grammar Stmt
step_down target = do
  t ← spelled kinds.Minus (codes "--")
  token kinds.Minus
  token kinds.Semicolon
  give (Step target bin_words.Sub t.at)

-- ('=' | '+=' | '-=' | '*=' | '/=') expr ';' | ('++' | '--') ';', behind a target
unfoldable pub target_stmt : Limits → Path → Grammar Stmt
target_stmt l target =
    either (is kinds.Assign) (assign l target) (either (is kinds.Chart) (change l target) (step_down target))

-- ('.' NAME)*, and what stands behind a target
unfoldable pub longer_target : Limits → NameText → Grammar Stmt
longer_target l first = do
  others ← parts
  target_stmt l (first ∷ others)

-- ';', behind a NAME
unfoldable pub raise : NameText → Grammar Stmt
raise name = do
  token kinds.Semicolon
  give (Raise name)

-- ',' expr
unfoldable pub next_value : Limits → Grammar Expr
next_value l = do
  token kinds.Comma
  expr l

-- expressions in order
abbrev pub row_of : List Expr → Exprs
row_of [] = NoExpr
row_of (e ∷ es) = MoreExprs e (row_of es)

-- args := expr (',' expr)*, each an expression by itself
unfoldable pub some_values : Limits → Grammar Exprs
some_values l = do
  first ← expr l
  others ← many (is kinds.Comma) (next_value l)
  give (row_of (first ∷ others))

-- '(' args? ')' ';', behind a NAME
unfoldable pub invoke : Limits → NameText → Grammar Stmt
invoke l name = do
  token kinds.OpenParen
  values ← either operand_heads (some_values l) (give NoExpr)
  token kinds.CloseParen
  token kinds.Semicolon
  give (Invoke name values)

-- what begins with a NAME
unfoldable pub named_stmt : Limits → Grammar Stmt
named_stmt l = do
  first ← name
  either (is kinds.Semicolon) (raise first) (either (is kinds.OpenParen) (invoke l first) (longer_target l first))

-- 'send' NAME ('to' path)? ';'
unfoldable pub send : Grammar Stmt
send = do
  token kinds.Send
  name ← name
  to ← maybe_target
  token kinds.Semicolon
  give (Send name to)

-- 'emit' NAME ';'
unfoldable pub emit : Grammar Stmt
emit = do
  token kinds.Emit
  name ← name
  token kinds.Semicolon
  give (Emit name)

-- stmt := target ('=' | '+=' | '-=' | '*=' | '/=') expr ';' | target ('++' | '--') ';' | NAME '(' args? ')' ';' | NAME ';'
--     | 'send' NAME ('to' path)? ';' | 'emit' NAME ';'
unfoldable pub stmt : Limits → Grammar Stmt
stmt l = either (is kinds.Send) send (either (is kinds.Emit) emit (named_stmt l))

-- how many statements a block has so far, and how many things there are
pub record Before : Type 0 where
  pub statements : ℕ
  pub counts : Counts

-- one statement more
abbrev pub after_stmt : Before → Before
after_stmt b = record {
  statements = b.statements + 1;
  counts = record b.counts { items = b.counts.items + 1 };
}

-- a statement, where there is room for one more
unfoldable pub next_stmt : Limits → Before → Grammar Stmt
next_stmt l b = allowed stmt_heads (λ t. statement_refused l b.statements b.counts) (stmt l)

-- stmt*
unfoldable pub stmts : Limits → Before → Grammar (List Stmt)
stmts l b = many_from (λ z. stmt_heads) (next_stmt l) (λ z s. after_stmt z) b

-- the things after the statements
abbrev pub after_stmts : Counts → List Stmt → Counts
after_stmts n ss = record n { items = n.items + length ss }

-- block := '{' stmt* '}'
unfoldable pub block : Limits → Counts → Grammar (List Stmt)
block l n = do
  token kinds.OpenBrace
  found ← stmts l (record { statements = 0; counts = n })
  token kinds.CloseBrace
  give found

-- ---- cases

-- what `after`, `before`, `at` or else `every` asks as an event
abbrev pub timing : Option TimeWord → Expr → NameText → Span → Trigger
timing None count event at = Every count event at
timing (Some word) count event at = AtTime word count event at

-- ('after' | 'before' | 'at' | 'every') '(' expr ',' NAME ')'
unfoldable pub timed_event : Limits → Grammar Trigger
timed_event l = do
  t ← word_in is_timing
  token kinds.OpenParen
  count ← expr l
  token kinds.Comma
  event ← name
  token kinds.CloseParen
  give (timing (time_of (word_of t.text)) count event t.at)

-- NAME
unfoldable pub named_event : Grammar Trigger
named_event = do
  event ← name
  give (On event)

-- event := NAME | ('after' | 'before' | 'at' | 'every') '(' expr ',' NAME ')'
unfoldable pub event : Limits → Grammar Trigger
event l = either (is kinds.Tick) (timed_event l) named_event

-- '[' expr ']'
unfoldable pub guard : Limits → Grammar Guard
guard l = do
  t ← token kinds.OpenBracket
  e ← expr l
  token kinds.CloseBracket
  give (record { expr = e; at = t.at })

-- event ('[' expr ']')?
unfoldable pub event_case : Limits → Grammar Case
event_case l = do
  trigger ← event l
  guard ← optional (is kinds.OpenBracket) (guard l)
  give (record { trigger = trigger; guard = guard })

-- '[' expr ']'
unfoldable pub guard_case : Limits → Grammar Case
guard_case l = do
  guard ← guard l
  give (record { trigger = Always; guard = Some guard })

-- case := event ('[' expr ']')? | '[' expr ']'
unfoldable pub case : Limits → Grammar Case
case l = either (is kinds.OpenBracket) (guard_case l) (event_case l)

-- '|' case
unfoldable pub next_case : Limits → Grammar Case
next_case l = do
  bar
  case l

-- when := case ('|' case)*
unfoldable pub when : Limits → Grammar (List Case)
when l = do
  first ← case l
  others ← many (is kinds.Comment) (next_case l)
  give (first ∷ others)

-- what begins a case
abbrev pub case_heads : Kind → Bool
case_heads k = is kinds.OpenBracket k || (is kinds.Tick k || is kinds.Name k)

-- the one case of a transition without any: no event and no guard
abbrev pub no_case : Case
no_case = record { trigger = Always; guard = None }

-- when?
unfoldable pub maybe_when : Limits → Grammar (List Case)
maybe_when l = either case_heads (when l) (give (no_case ∷ []))

-- ---- transitions

-- '/' block
unfoldable pub action : Limits → Counts → Grammar (List Stmt)
action l n = do
  token kinds.Slash
  block l n

-- a missing block is an empty one
unfoldable pub maybe_block : Limits → Counts → Grammar (List Stmt)
maybe_block l n = either (is kinds.OpenBrace) (block l n) (give [])

-- a missing action is an empty one
unfoldable pub maybe_action : Limits → Counts → Grammar (List Stmt)
maybe_action l n = either (is kinds.Slash) (action l n) (give [])

-- trans := when? block? ('/' block)? '->' dest ';', at the place that is given
unfoldable pub trans : Limits → Counts → Span → Grammar (Counted Trans)
trans l n at = do
  cases ← maybe_when l
  cond ← maybe_block l n
  act ← maybe_action l (after_stmts n cond)
  token kinds.Arrow
  dest ← dest
  token kinds.Semicolon
  give (record {
    value = record { at = at; cases = cases; cond = cond; act = act; dest = dest };
    counts = after_stmts (after_stmts n cond) act;
  })

-- what begins a transition of a junction
abbrev pub trans_heads : Kind → Bool
trans_heads k = case_heads k || (is kinds.OpenBrace k || (is kinds.Slash k || is kinds.Arrow k))

-- the fault of a further word that begins no case
abbrev pub no_event : Lexeme → Option TokenFault
no_event t = if is kinds.Tick t.kind then other_word is_timing t else None

-- a transition of a junction: its place is that of its first token
unfoldable pub junction_trans : Limits → Counts → Grammar (Counted Trans)
junction_trans l n =
    allowed trans_heads (λ t. first_of (no_event t) (transition_refused l n)) (at_first (trans l (after_transition n)))

-- a transition of a state, after its keyword
unfoldable pub keyword_trans : Limits → (Kind → Bool) → Counts → Grammar (Counted Trans)
keyword_trans l set n = do
  t ← allowed set (λ t. transition_refused l n) (one_of set)
  trans l (after_transition n) t.at
