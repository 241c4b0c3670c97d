-- Declarations of events, data, enumerations, constants, clocks and functions.
use Rattle.std.specs.Prelude.{ℕ, Bool, true, false, List, [], ◌∷◌, Option, Some, None, if◌then◌else◌, map}
use Rattle.std.specs.Prelude.{codes, bytes_eq}
use Rattle.token_grammar.specs.declared.token.Kind.{Kind}
use Rattle.token_grammar.specs.declared.token.Kind.TheVariants as kinds
use Rattle.token_grammar.specs.declared.token.Span.{Span}
use Rattle.token_grammar.specs.declared.fault.TokenFault.{TokenFault}
use Rattle.token_grammar.specs.declared.fault.TokenFault.TheVariants as faults
use Rattle.token_grammar.specs.Grammar.{Grammar, is, token, one_of, allowed, give, either, optional, many, many_from}
use Rattle.token_grammar.specs.Grammar.{◌>>=◌, ◌>>◌}
use Rattle.chart_tree.specs.declared.name.NameText.{NameText}
use Rattle.chart_tree.specs.declared.name.LitText.{LitText}
use Rattle.chart_tree.specs.declared.sort.InitText.TheVariants as inits
use Rattle.chart_tree.specs.declared.chart.VarWord.{VarWord}
use Rattle.chart_tree.specs.declared.chart.EventWord.TheVariants as event_words
use Rattle.chart_tree.specs.Trees as core
use Rattle.chart_grammar.specs.Limits.{Limits, Counts, Counted, event_refused, variable_refused, after_event}
use Rattle.chart_grammar.specs.Limits.{after_variable}
use Rattle.chart_grammar.specs.Words.{name, name_of, lit_of}
use Rattle.chart_grammar.specs.Types.{TypeWord, FlagWord, ScaleWord, type_word, maybe_mode}
use Rattle.chart_grammar.specs.Declarations.{kind_heads, event_word, var_word, plain_init, flag_heads}
use Rattle.statechart_tree.specs.declared.declarations.Unit.{Unit}
use Rattle.statechart_tree.specs.declared.declarations.Unit.TheVariants as units
use Rattle.statechart_tree.specs.declared.declarations.SourceEvent.{SourceEvent}
use Rattle.statechart_tree.specs.declared.declarations.Member.{Member}
use Rattle.statechart_tree.specs.Trees.{Sort, Plain, OfEnumeration, First, Missing, Given, Named, Var, Enumeration}
use Rattle.statechart_tree.specs.Trees.{Constant, Body, Block, Value, Function}
use Rattle.statechart_grammar.specs.Words.{target, parts, number}
use Rattle.statechart_grammar.specs.Expressions.{expr}
use Rattle.statechart_grammar.specs.Transitions.{block, after_stmts}

-- ---- names

-- ',' NAME, where there is room for one more of what the names are: the comma is one too many where there isn't
unfoldable pub next_name : (Counts → Option TokenFault) → Counts → Grammar NameText
next_name refused n = do
  allowed (is kinds.Comma) (λ t. refused n) (token kinds.Comma)
  name

-- the things after so many more
abbrev pub after_names : (Counts → Counts) → Counts → List NameText → Counts
after_names next n [] = n
after_names next n (x ∷ xs) = after_names next (next n) xs

-- names := NAME (',' NAME)*, of things with their first one counted
unfoldable pub names : (Counts → Option TokenFault) → (Counts → Counts) → Counts → Grammar (List NameText)
names refused next n = do
  first ← name
  others ← many_from (λ z. is kinds.Comma) (next_name refused) (λ z x. next z) n
  give (first ∷ others)

-- no limit
abbrev pub unlimited : Counts → Option TokenFault
unlimited n = None

-- names := NAME (',' NAME)*, of things that aren't counted
abbrev pub free_names : Counts → Grammar (List NameText)
free_names n = names unlimited (λ z. z) n

-- ---- events

-- 'event' ('input' | 'local' | 'output') names ';', where there is room for one more
unfoldable pub events : Limits → Counts → Grammar (Counted (List SourceEvent))
events l n = do
  allowed (is kinds.Event) (λ t. event_refused l n) (token kinds.Event)
  t ← one_of kind_heads
  names ← names (event_refused l) after_event (after_event n)
  token kinds.Semicolon
  give (record {
    value = map (λ name. record { kind = event_word t.kind; name = name; period = None }) names;
    counts = after_names after_event n names;
  })

-- the unit that a word names
unfoldable pub unit_of : List ℕ → Option Unit
unit_of text =
    if bytes_eq text (codes "usec") then Some units.Usec else
    if bytes_eq text (codes "msec") then Some units.Msec else
    if bytes_eq text (codes "sec") then Some units.Sec else
    if bytes_eq text (codes "min") then Some units.Min else
    if bytes_eq text (codes "hour") then Some units.Hour else
    None

-- a word that names no unit doesn't continue
abbrev pub no_unit : Option Unit → Option TokenFault
no_unit None = Some faults.Expected
no_unit (Some unit) = None

-- the unit of a word that names one
abbrev pub named_unit : Option Unit → Unit
named_unit None = units.Sec
named_unit (Some unit) = unit

-- unit := 'usec' | 'msec' | 'sec' | 'min' | 'hour'
unfoldable pub unit : Grammar Unit
unit = do
  t ← allowed (is kinds.Name) (λ t. no_unit (unit_of t.text)) (token kinds.Name)
  give (named_unit (unit_of t.text))

-- NAME '=' NUMBER unit ';', behind the word `clock`
unfoldable pub clock : Limits → Grammar SourceEvent
clock l = do
  name ← name
  token kinds.Assign
  t ← number l
  unit ← unit
  token kinds.Semicolon
  give (record {
    kind = event_words.Input;
    name = name;
    period = Some (record { lit = lit_of t.text; unit = unit; at = t.at });
  })

-- ---- types

-- the mode of a number, and nothing else
abbrev pub sort_of_word : NameText → Option TypeWord → Grammar Sort
sort_of_word name None = give (OfEnumeration name)
sort_of_word name (Some FlagWord) = give (Plain core.FlagSort)
sort_of_word name (Some (ScaleWord scale)) = maybe_mode >>= λ mode. give (Plain (core.NumberSort scale mode))

-- type := 'bool' | scale ('saturate' | 'wrap' | 'error')? | NAME
unfoldable pub sort : Grammar Sort
sort = do
  t ← token kinds.Name
  sort_of_word (name_of t) (type_word t.text)

-- ---- first values

-- NUMBER, behind a sign at that place
unfoldable pub negative_number : Limits → Span → Grammar First
negative_number l at = do
  t ← number l
  give (Given (plain_init true (lit_of t.text) at))

-- target, behind a sign at that place
unfoldable pub negative_target : Span → Grammar First
negative_target at = do
  name ← target
  give (Named true name at)

-- '-' NUMBER | '-' target, at the place of the sign
unfoldable pub negative : Limits → Grammar First
negative l = do
  sign ← token kinds.Minus
  either (is kinds.Number) (negative_number l sign.at) (negative_target sign.at)

-- NUMBER
unfoldable pub positive_number : Limits → Grammar First
positive_number l = do
  t ← number l
  give (Given (plain_init false (lit_of t.text) t.at))

-- 'true' | 'false'
unfoldable pub flag : Grammar First
flag = do
  t ← one_of flag_heads
  give (Given (inits.Flag (is kinds.True t.kind) t.at))

-- target
unfoldable pub positive_target : Grammar First
positive_target = do
  first ← name
  others ← parts
  give (Named false (first ∷ others) first.at)

-- init := '-'? NUMBER | '-'? target | 'true' | 'false'
unfoldable pub init : Limits → Grammar First
init l =
    either (is kinds.Minus) (negative l)
    (either (is kinds.Number) (positive_number l) (either flag_heads flag positive_target))

-- '=' init
unfoldable pub given_init : Limits → Grammar First
given_init l = do
  token kinds.Assign
  init l

-- ('=' init)?
unfoldable pub maybe_init : Limits → Grammar First
maybe_init l = either (is kinds.Assign) (given_init l) (give Missing)

-- ---- data

-- a declaration for each name
abbrev pub vars_of : VarWord → Sort → First → List NameText → List Var
vars_of word sort init names = map (λ name. record { kind = word; name = name; sort = sort; init = init }) names

-- ('input' | 'output' | 'local') names ':' type ('=' init)? ';', with a word of the set, where there is room for one more
unfoldable pub variables : Limits → (Kind → Bool) → Counts → Grammar (Counted (List Var))
variables l set n = do
  t ← allowed set (λ t. variable_refused l n) (one_of set)
  names ← names (variable_refused l) after_variable (after_variable n)
  token kinds.Colon
  sort ← sort
  init ← maybe_init l
  token kinds.Semicolon
  give (record {
    value = vars_of (var_word t.kind) sort init names;
    counts = after_names after_variable n names;
  })

-- ---- enumerations and constants

-- '=' NUMBER, behind '=': the number without a sign
unfoldable pub plain_number : Limits → Grammar (Bool × LitText × Span)
plain_number l = do
  t ← number l
  give (false, lit_of t.text, t.at)

-- '-' NUMBER, at the place of the sign
unfoldable pub negated_number : Limits → Grammar (Bool × LitText × Span)
negated_number l = do
  sign ← token kinds.Minus
  t ← number l
  give (true, lit_of t.text, sign.at)

-- '=' '-'? NUMBER
unfoldable pub member_number : Limits → Grammar (Bool × LitText × Span)
member_number l = do
  token kinds.Assign
  either (is kinds.Minus) (negated_number l) (plain_number l)

-- member := NAME ('=' '-'? NUMBER)?
unfoldable pub member : Limits → Grammar Member
member l = do
  name ← name
  number ← optional (is kinds.Assign) (member_number l)
  give (record { name = name; number = number })

-- ',' member
unfoldable pub next_member : Limits → Grammar Member
next_member l = do
  token kinds.Comma
  member l

-- NAME '{' member (',' member)* '}', behind the word `enum`
unfoldable pub enumeration : Limits → Grammar Enumeration
enumeration l = do
  name ← name
  token kinds.OpenBrace
  first ← member l
  others ← many (is kinds.Comma) (next_member l)
  token kinds.CloseBrace
  give (record { name = name; members = first ∷ others })

-- ':' type
unfoldable pub given_sort : Grammar Sort
given_sort = do
  token kinds.Colon
  sort

-- NAME (':' type)? '=' init ';', behind the word `constant`
unfoldable pub constant : Limits → Grammar Constant
constant l = do
  name ← name
  sort ← optional (is kinds.Colon) given_sort
  value ← given_init l
  token kinds.Semicolon
  give (record { name = name; sort = sort; value = value })

-- ---- functions

-- '=' expr ';'
unfoldable pub value_body : Limits → Counts → Grammar (Counted Body)
value_body l n = do
  token kinds.Assign
  value ← expr l
  token kinds.Semicolon
  give (record { value = Value value; counts = n })

-- block
unfoldable pub block_body : Limits → Counts → Grammar (Counted Body)
block_body l n = do
  found ← block l n
  give (record { value = Block found; counts = after_stmts n found })

-- NAME '(' names? ')' (block | '=' expr ';'), behind the word `function`
unfoldable pub function : Limits → Counts → Grammar (Counted Function)
function l n = do
  name ← name
  token kinds.OpenParen
  params ← either (is kinds.Name) (free_names n) (give [])
  token kinds.CloseParen
  body ← either (is kinds.Assign) (value_body l n) (block_body l n)
  give (record {
    value = record { name = name; params = params; body = body.value };
    counts = body.counts;
  })
