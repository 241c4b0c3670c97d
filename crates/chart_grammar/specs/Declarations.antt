-- Declarations of events and data.
use Rattle.std.specs.Prelude.{◌==◌, Bool, true, false, ◌||◌, None, if◌then◌else◌}
use Rattle.token_grammar.specs.declared.token.Kind.{Kind}
use Rattle.token_grammar.specs.declared.token.Kind.TheVariants as kinds
use Rattle.token_grammar.specs.declared.token.Span.{Span}
use Rattle.token_grammar.specs.Grammar.{Grammar, is, token, one_of, allowed, give, either, ◌>>=◌, ◌>>◌}
use Rattle.chart_tree.specs.declared.name.LitText.{LitText}
use Rattle.chart_tree.specs.declared.sort.InitText.{InitText}
use Rattle.chart_tree.specs.declared.sort.InitText.TheVariants as inits
use Rattle.chart_tree.specs.declared.chart.EventText.{EventText}
use Rattle.chart_tree.specs.declared.chart.EventWord.{EventWord}
use Rattle.chart_tree.specs.declared.chart.EventWord.TheVariants as event_words
use Rattle.chart_tree.specs.declared.chart.VarWord.{VarWord}
use Rattle.chart_tree.specs.declared.chart.VarWord.TheVariants as var_words
use Rattle.chart_tree.specs.Trees.{Sort, FlagSort, NumberSort, Var}
use Rattle.chart_grammar.specs.Limits.{Limits, Counts, event_refused, variable_refused}
use Rattle.chart_grammar.specs.Words.{name, lit_of, number}
use Rattle.chart_grammar.specs.Types.{sort}

-- ---- events

-- the words `input`, `local` and `output`, which begin the declaration of a datum and follow `event`
abbrev pub kind_heads : Kind → Bool
kind_heads k = is kinds.Input k || (is kinds.Local k || is kinds.Output k)

-- who raises an event, by its word
abbrev pub event_word : Kind → EventWord
event_word k =
    if is kinds.Input k then event_words.Input else
    if is kinds.Local k then event_words.Local else
    event_words.Output

-- 'event' ('input' | 'local' | 'output') NAME ';', where there is room for one more
unfoldable pub event : Limits → Counts → Grammar EventText
event l n = do
  allowed (is kinds.Event) (λ t. event_refused l n) (token kinds.Event)
  t ← one_of kind_heads
  name ← name
  token kinds.Semicolon
  give (record { kind = event_word t.kind; name = name })

-- ---- first values

-- the number 0
abbrev pub zero_lit : LitText
zero_lit = record { units = 0; places = 0; q = None }

-- a number of value 0 isn't negative, and has no digits after the point and no `q`
abbrev pub plain_init : Bool → LitText → Span → InitText
plain_init negative lit at =
    if lit.units == 0
    then inits.Number false zero_lit at
    else inits.Number negative lit at

-- NUMBER
unfoldable pub positive_init : Limits → Grammar InitText
positive_init l = do
  t ← number l
  give (plain_init false (lit_of t.text) t.at)

-- '-' NUMBER, at the place of the sign
unfoldable pub negative_init : Limits → Grammar InitText
negative_init l = do
  sign ← token kinds.Minus
  t ← number l
  give (plain_init true (lit_of t.text) sign.at)

-- 'true' | 'false'
abbrev pub flag_heads : Kind → Bool
flag_heads k = is kinds.True k || is kinds.False k

-- 'true' | 'false'
unfoldable pub flag_init : Grammar InitText
flag_init = do
  t ← one_of flag_heads
  give (inits.Flag (is kinds.True t.kind) t.at)

-- init := '-'? NUMBER | 'true' | 'false'
unfoldable pub init : Limits → Grammar InitText
init l =
    either (is kinds.Minus) (negative_init l)
    (either (is kinds.Number) (positive_init l) flag_init)

-- '=' init
unfoldable pub given_init : Limits → Grammar InitText
given_init l = do
  token kinds.Assign
  init l

-- a missing first value is 0 or false, at the place of the name
abbrev pub missing_init : Sort → Span → InitText
missing_init FlagSort at = inits.Flag false at
missing_init (NumberSort scale mode) at = inits.Number false zero_lit at

-- ('=' init)?
unfoldable pub maybe_init : Limits → Sort → Span → Grammar InitText
maybe_init l sort at = either (is kinds.Assign) (given_init l) (give (missing_init sort at))

-- ---- data

-- who sets a datum, by its word
abbrev pub var_word : Kind → VarWord
var_word k =
    if is kinds.Input k then var_words.Input else
    if is kinds.Output k then var_words.Output else
    var_words.Local

-- ('input' | 'output' | 'local') NAME ':' type ('=' init)? ';', where there is room for one more
unfoldable pub variable : Limits → Counts → Grammar Var
variable l n = do
  t ← allowed kind_heads (λ t. variable_refused l n) (one_of kind_heads)
  name ← name
  token kinds.Colon
  sort ← sort
  init ← maybe_init l sort name.at
  token kinds.Semicolon
  give (record { kind = var_word t.kind; name = name; sort = sort; init = init })
