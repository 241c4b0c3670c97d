-- Statements, blocks and transitions.
use Rattle.std.specs.Prelude.{ℕ, ◌+◌, Bool, ◌||◌, List, [], length, Option}
use Rattle.token_grammar.specs.declared.token.Kind.{Kind}
use Rattle.token_grammar.specs.declared.token.Kind.TheVariants as kinds
use Rattle.token_grammar.specs.declared.token.Span.{Span}
use Rattle.token_grammar.specs.Grammar.{Grammar, is, token, one_of, allowed, at_first, give, either, optional}
use Rattle.token_grammar.specs.Grammar.{many_from, ◌>>=◌, ◌>>◌}
use Rattle.chart_tree.specs.declared.name.NameText.{NameText}
use Rattle.chart_tree.specs.Trees.{Path, Stmt, Assign, Send, Emit, Dest, ToState, ToJunction, Guard, Trans}
use Rattle.chart_grammar.specs.Limits.{Limits, Counts, Counted, statement_refused, transition_refused, after_transition}
use Rattle.chart_grammar.specs.Words.{name, path}
use Rattle.chart_grammar.specs.Expressions.{expr}

-- ---- statements

-- NAME '=' expr ';'
unfoldable pub assign : Limits → Grammar Stmt
assign l = do
  name ← name
  token kinds.Assign
  value ← expr l
  token kinds.Semicolon
  give (Assign name value)

-- 'to' path
unfoldable pub target : Grammar Path
target = do
  token kinds.To
  path

-- ('to' path)?
unfoldable pub maybe_target : Grammar (Option Path)
maybe_target = optional (is kinds.To) target

-- 'send' NAME ('to' path)? ';'
unfoldable pub send : Grammar Stmt
send = do
  token kinds.Send
  name ← name
  to ← maybe_target
  token kinds.Semicolon
  give (Send name to)

-- 'emit' NAME ';'
unfoldable pub emit : Grammar Stmt
emit = do
  token kinds.Emit
  name ← name
  token kinds.Semicolon
  give (Emit name)

-- what begins a statement
abbrev pub stmt_heads : Kind → Bool
stmt_heads k = is kinds.Send k || (is kinds.Emit k || is kinds.Name k)

-- stmt := NAME '=' expr ';' | 'send' NAME ('to' path)? ';' | 'emit' NAME ';'
unfoldable pub stmt : Limits → Grammar Stmt
stmt l = either (is kinds.Send) send (either (is kinds.Emit) emit (assign l))

-- how many statements a block has so far, and how many things there are
pub record Before : Type 0 where
  pub statements : ℕ
  pub counts : Counts

-- one statement more
abbrev pub after_stmt : Before → Before
after_stmt b = record {
  statements = b.statements + 1;
  counts = record b.counts { items = b.counts.items + 1 };
}

-- a statement, where there is room for one more
unfoldable pub next_stmt : Limits → Before → Grammar Stmt
next_stmt l b = allowed stmt_heads (λ t. statement_refused l b.statements b.counts) (stmt l)

-- stmt*
unfoldable pub stmts : Limits → Before → Grammar (List Stmt)
stmts l b = many_from (λ z. stmt_heads) (next_stmt l) (λ z s. after_stmt z) b

-- the things after the statements
abbrev pub after_stmts : Counts → List Stmt → Counts
after_stmts n ss = record n { items = n.items + length ss }

-- block := '{' stmt* '}'
unfoldable pub block : Limits → Counts → Grammar (List Stmt)
block l n = do
  token kinds.OpenBrace
  found ← stmts l (record { statements = 0; counts = n })
  token kinds.CloseBrace
  give found

-- ---- transitions

-- '@' NAME
unfoldable pub to_junction : Grammar Dest
to_junction = do
  token kinds.At
  name ← name
  give (ToJunction name)

-- path
unfoldable pub to_state : Grammar Dest
to_state = do
  path ← path
  give (ToState path)

-- dest := path | '@' NAME
unfoldable pub dest : Grammar Dest
dest = either (is kinds.At) to_junction to_state

-- '[' expr ']'
unfoldable pub guard : Limits → Grammar Guard
guard l = do
  t ← token kinds.OpenBracket
  e ← expr l
  token kinds.CloseBracket
  give (record { expr = e; at = t.at })

-- '/' block
unfoldable pub action : Limits → Counts → Grammar (List Stmt)
action l n = do
  token kinds.Slash
  block l n

-- NAME?
unfoldable pub maybe_event : Grammar (Option NameText)
maybe_event = optional (is kinds.Name) name

-- ('[' expr ']')?
unfoldable pub maybe_guard : Limits → Grammar (Option Guard)
maybe_guard l = optional (is kinds.OpenBracket) (guard l)

-- a missing block is an empty one
unfoldable pub maybe_block : Limits → Counts → Grammar (List Stmt)
maybe_block l n = either (is kinds.OpenBrace) (block l n) (give [])

-- a missing action is an empty one
unfoldable pub maybe_action : Limits → Counts → Grammar (List Stmt)
maybe_action l n = either (is kinds.Slash) (action l n) (give [])

-- trans := NAME? ('[' expr ']')? block? ('/' block)? '->' dest ';', at the place that is given
unfoldable pub trans : Limits → Counts → Span → Grammar (Counted Trans)
trans l n at = do
  event ← maybe_event
  guard ← maybe_guard l
  cond ← maybe_block l n
  act ← maybe_action l (after_stmts n cond)
  token kinds.Arrow
  dest ← dest
  token kinds.Semicolon
  give (record {
    value = record { at = at; event = event; guard = guard; cond = cond; act = act; dest = dest };
    counts = after_stmts (after_stmts n cond) act;
  })

-- what begins a transition of a junction
abbrev pub trans_heads : Kind → Bool
trans_heads k =
    is kinds.Name k || (is kinds.OpenBracket k
    || (is kinds.OpenBrace k || (is kinds.Slash k || is kinds.Arrow k)))

-- a transition of a junction: its place is that of its first token
unfoldable pub junction_trans : Limits → Counts → Grammar (Counted Trans)
junction_trans l n =
    allowed trans_heads (λ t. transition_refused l n) (at_first (trans l (after_transition n)))

-- a transition of a state, after its keyword
unfoldable pub keyword_trans : Limits → (Kind → Bool) → Counts → Grammar (Counted Trans)
keyword_trans l set n = do
  t ← allowed set (λ t. transition_refused l n) (one_of set)
  trans l (after_transition n) t.at
