-- Declarations read as they spell.
-- `fine_x` says of the production x that it is LL(1): with its FIRST set, whether it is nullable, and the kinds that
-- may go on with what is read, which its FOLLOW must not have. `good_x` says so of one of which limits may leave no
-- spelling.
use Rattle.std.proofs.Common.{true, false, [], ◌∷◌, Option, Some, None, refl, ◌||◌}
use Rattle.std.specs.Prelude.{codes, map}
use Rattle.token_grammar.specs.declared.token.Kind.TheVariants as kinds
use Rattle.token_grammar.specs.declared.token.Span.{Span}
use Rattle.token_grammar.specs.declared.fault.TokenFault.{TokenFault}
use Rattle.token_grammar.specs.Grammar.{is, token, allowed}
use Rattle.token_grammar.proofs.Good.{Set, nothing, Good}
use Rattle.token_grammar.proofs.Leaves.{good_token, good_one_of}
use Rattle.token_grammar.proofs.Allowed.{good_allowed}
use Rattle.token_grammar.proofs.Fine.{Fine, fine_token, fine_one_of, fine_give, fine_then, good_then, fine_either}
use Rattle.token_grammar.proofs.Fine.{fine_optional, fine_many, fine_many_from, good_as, fine_as}
use Rattle.chart_tree.specs.declared.name.NameText.{NameText}
use Rattle.chart_tree.specs.declared.sort.InitText.TheVariants as inits
use Rattle.chart_tree.specs.declared.chart.EventWord.TheVariants as event_words
use Rattle.chart_tree.specs.Trees as core
use Rattle.chart_grammar.specs.Limits.{Limits, Counts, event_refused, variable_refused, after_event, after_variable}
use Rattle.chart_grammar.specs.Words.{name_of, lit_of}
use Rattle.chart_grammar.specs.Types.{TypeWord, FlagWord, ScaleWord, type_word, mode_heads}
use Rattle.chart_grammar.specs.Declarations.{kind_heads, event_word, var_word, plain_init, flag_heads}
use Rattle.chart_grammar.proofs.SetLaws.{good_clean}
use Rattle.chart_grammar.proofs.WordLaws.{fine_name}
use Rattle.chart_grammar.proofs.TypeLaws.{fine_maybe_mode}
use Rattle.statechart_tree.specs.Trees.{Plain, OfEnumeration, Missing, Given, Named, Value, Block}
use Rattle.statechart_grammar.specs.Transitions.{after_stmts}
use Rattle.statechart_grammar.specs.Declarations.{next_name, after_names, names, events, unit_of, no_unit}
use Rattle.statechart_grammar.specs.Declarations.{named_unit, unit, clock, sort_of_word, sort, negative_number}
use Rattle.statechart_grammar.specs.Declarations.{negative_target, negative, positive_number, flag, positive_target, init}
use Rattle.statechart_grammar.specs.Declarations.{given_init, maybe_init, vars_of, variables, plain_number}
use Rattle.statechart_grammar.specs.Declarations.{negated_number, member_number, member, next_member, enumeration}
use Rattle.statechart_grammar.specs.Declarations.{given_sort, constant, value_body, block_body, function, unlimited}
use Rattle.statechart_grammar.proofs.WordLaws.{fine_tested, fine_parts, fine_target, fine_number}
use Rattle.statechart_grammar.proofs.ExpressionLaws.{fine_expr}
use Rattle.statechart_grammar.proofs.TransitionLaws.{fine_block}

-- ---- names

pub good_next_name : (refused : Counts → Option TokenFault) (n : Counts)
    → Good (next_name refused n) (is kinds.Comma) false nothing
unfolding next_name
good_next_name refused n =
    good_as (is kinds.Comma) nothing
    (good_then (good_allowed (is kinds.Comma) (λ t. refused n) (good_token kinds.Comma)) (λ _. fine_name) refl) refl refl

pub fine_names : (refused : Counts → Option TokenFault) (next : Counts → Counts) (n : Counts)
    → Fine (names refused next n) (is kinds.Name) false (is kinds.Comma)
unfolding names
fine_names refused next n =
    fine_as (is kinds.Name) (is kinds.Comma)
    (fine_then fine_name (λ first.
    fine_then
    (fine_many_from (λ z. is kinds.Comma) (λ z x. next z) (is kinds.Comma) n (good_next_name refused)
    (λ z. refl) (λ z. refl) refl) (λ others.
    fine_give (first ∷ others)) refl) refl) refl refl

-- ---- events

pub good_events : (l : Limits) (n : Counts) → Good (events l n) (is kinds.Event) false nothing
unfolding events
good_events l n =
    good_as (is kinds.Event) nothing
    (good_then (good_allowed (is kinds.Event) (λ t. event_refused l n) (good_token kinds.Event)) (λ _.
    fine_then (fine_one_of kind_heads kinds.Input refl) (λ t.
    fine_then (fine_names (event_refused l) after_event (after_event n)) (λ names.
    fine_then (fine_token kinds.Semicolon) (λ _.
    fine_give (record {
      value = map (λ name. record { kind = event_word t.kind; name = name; period = None }) names;
      counts = after_names after_event n names;
    })) refl) refl) refl) refl) refl refl

fine_unit_word : Fine (allowed (is kinds.Name) (λ t. no_unit (unit_of t.text)) (token kinds.Name)) (is kinds.Name) false
    nothing
unfolding unit_of
fine_unit_word = fine_tested kinds.Name (λ t. no_unit (unit_of t.text)) (codes "sec") refl refl

pub fine_unit : Fine unit (is kinds.Name) false nothing
unfolding unit
fine_unit =
    fine_as (is kinds.Name) nothing
    (fine_then fine_unit_word (λ t. fine_give (named_unit (unit_of t.text))) refl) refl refl

pub fine_clock : (l : Limits) → Fine (clock l) (is kinds.Name) false nothing
unfolding clock
fine_clock l =
    fine_as (is kinds.Name) nothing
    (fine_then fine_name (λ name.
    fine_then (fine_token kinds.Assign) (λ _.
    fine_then (fine_number l) (λ t.
    fine_then fine_unit (λ unit.
    fine_then (fine_token kinds.Semicolon) (λ _.
    fine_give (record {
      kind = event_words.Input;
      name = name;
      period = Some (record { lit = lit_of t.text; unit = unit; at = t.at });
    })) refl) refl) refl) refl) refl) refl refl

-- ---- types

pub fine_sort_of_word : (name : NameText) (word : Option TypeWord)
    → Fine (sort_of_word name word) mode_heads true mode_heads
fine_sort_of_word name None = fine_as mode_heads mode_heads (fine_give (OfEnumeration name)) refl refl
fine_sort_of_word name (Some FlagWord) = fine_as mode_heads mode_heads (fine_give (Plain core.FlagSort)) refl refl
fine_sort_of_word name (Some (ScaleWord scale)) =
    fine_as mode_heads mode_heads
    (fine_then fine_maybe_mode (λ mode. fine_give (Plain (core.NumberSort scale mode))) refl) refl refl

pub fine_sort : Fine sort (is kinds.Name) false mode_heads
unfolding sort
fine_sort =
    fine_as (is kinds.Name) mode_heads
    (fine_then (fine_token kinds.Name) (λ t. fine_sort_of_word (name_of t) (type_word t.text)) refl) refl refl

-- ---- first values

pub fine_negative_number : (l : Limits) (at : Span) → Fine (negative_number l at) (is kinds.Number) false nothing
unfolding negative_number
fine_negative_number l at =
    fine_as (is kinds.Number) nothing
    (fine_then (fine_number l) (λ t. fine_give (Given (plain_init true (lit_of t.text) at))) refl) refl refl

pub fine_negative_target : (at : Span) → Fine (negative_target at) (is kinds.Name) false (is kinds.Comment)
unfolding negative_target
fine_negative_target at =
    fine_as (is kinds.Name) (is kinds.Comment)
    (fine_then fine_target (λ name. fine_give (Named true name at)) refl) refl refl

pub fine_negative : (l : Limits) → Fine (negative l) (is kinds.Minus) false (is kinds.Comment)
unfolding negative
fine_negative l =
    fine_as (is kinds.Minus) (is kinds.Comment)
    (fine_then (fine_token kinds.Minus) (λ sign.
    fine_either (is kinds.Number) (fine_negative_number l sign.at).good (fine_negative_target sign.at) refl refl) refl)
    refl refl

pub fine_positive_number : (l : Limits) → Fine (positive_number l) (is kinds.Number) false nothing
unfolding positive_number
fine_positive_number l =
    fine_as (is kinds.Number) nothing
    (fine_then (fine_number l) (λ t. fine_give (Given (plain_init false (lit_of t.text) t.at))) refl) refl refl

pub fine_flag : Fine flag flag_heads false nothing
unfolding flag
fine_flag =
    fine_as flag_heads nothing
    (fine_then (fine_one_of flag_heads kinds.True refl)
    (λ t. fine_give (Given (inits.Flag (is kinds.True t.kind) t.at))) refl) refl refl

pub fine_positive_target : Fine positive_target (is kinds.Name) false (is kinds.Comment)
unfolding positive_target
fine_positive_target =
    fine_as (is kinds.Name) (is kinds.Comment)
    (fine_then fine_name (λ first.
    fine_then fine_parts (λ others.
    fine_give (Named false (first ∷ others) first.at)) refl) refl) refl refl

-- what begins a first value
abbrev pub init_heads : Set
init_heads k = is kinds.Minus k || (is kinds.Number k || (flag_heads k || is kinds.Name k))

pub fine_init : (l : Limits) → Fine (init l) init_heads false (is kinds.Comment)
unfolding init
fine_init l =
    fine_as init_heads (is kinds.Comment)
    (fine_either (is kinds.Minus) (fine_negative l).good
    (fine_either (is kinds.Number) (fine_positive_number l).good
    (fine_either flag_heads fine_flag.good fine_positive_target refl refl) refl refl) refl refl) refl refl

pub fine_given_init : (l : Limits) → Fine (given_init l) (is kinds.Assign) false (is kinds.Comment)
unfolding given_init
fine_given_init l =
    fine_as (is kinds.Assign) (is kinds.Comment)
    (fine_then (fine_token kinds.Assign) (λ _. fine_init l) refl) refl refl

-- what may go on with a first value that need not be there
abbrev pub maybe_init_more : Set
maybe_init_more k = is kinds.Assign k || is kinds.Comment k

pub fine_maybe_init : (l : Limits) → Fine (maybe_init l) (is kinds.Assign) true maybe_init_more
unfolding maybe_init
fine_maybe_init l =
    fine_as (is kinds.Assign) maybe_init_more
    (fine_either (is kinds.Assign) (fine_given_init l).good (fine_give Missing) refl refl) refl refl

-- ---- data

pub good_variables : (l : Limits) (set : Set) (n : Counts) → Good (variables l set n) set false nothing
unfolding variables
good_variables l set n =
    good_clean (is kinds.Name)
    (good_then (good_allowed set (λ t. variable_refused l n) (good_one_of set)) (λ t.
    fine_as (is kinds.Name) nothing
    (fine_then (fine_names (variable_refused l) after_variable (after_variable n)) (λ names.
    fine_then (fine_token kinds.Colon) (λ _.
    fine_then fine_sort (λ sort.
    fine_then (fine_maybe_init l) (λ init.
    fine_then (fine_token kinds.Semicolon) (λ _.
    fine_give (record {
      value = vars_of (var_word t.kind) sort init names;
      counts = after_names after_variable n names;
    })) refl) refl) refl) refl) refl) refl refl) refl)

-- ---- enumerations and constants

pub fine_plain_number : (l : Limits) → Fine (plain_number l) (is kinds.Number) false nothing
unfolding plain_number
fine_plain_number l =
    fine_as (is kinds.Number) nothing
    (fine_then (fine_number l) (λ t. fine_give (false, lit_of t.text, t.at)) refl) refl refl

pub fine_negated_number : (l : Limits) → Fine (negated_number l) (is kinds.Minus) false nothing
unfolding negated_number
fine_negated_number l =
    fine_as (is kinds.Minus) nothing
    (fine_then (fine_token kinds.Minus) (λ sign.
    fine_then (fine_number l) (λ t.
    fine_give (true, lit_of t.text, sign.at)) refl) refl) refl refl

pub fine_member_number : (l : Limits) → Fine (member_number l) (is kinds.Assign) false nothing
unfolding member_number
fine_member_number l =
    fine_as (is kinds.Assign) nothing
    (fine_then (fine_token kinds.Assign) (λ _.
    fine_either (is kinds.Minus) (fine_negated_number l).good (fine_plain_number l) refl refl) refl) refl refl

pub fine_member : (l : Limits) → Fine (member l) (is kinds.Name) false (is kinds.Assign)
unfolding member
fine_member l =
    fine_as (is kinds.Name) (is kinds.Assign)
    (fine_then fine_name (λ name.
    fine_then (fine_optional (is kinds.Assign) (fine_member_number l).good refl) (λ number.
    fine_give (record { name = name; number = number })) refl) refl) refl refl

pub fine_next_member : (l : Limits) → Fine (next_member l) (is kinds.Comma) false (is kinds.Assign)
unfolding next_member
fine_next_member l =
    fine_as (is kinds.Comma) (is kinds.Assign)
    (fine_then (fine_token kinds.Comma) (λ _. fine_member l) refl) refl refl

pub fine_enumeration : (l : Limits) → Fine (enumeration l) (is kinds.Name) false nothing
unfolding enumeration
fine_enumeration l =
    fine_as (is kinds.Name) nothing
    (fine_then fine_name (λ name.
    fine_then (fine_token kinds.OpenBrace) (λ _.
    fine_then (fine_member l) (λ first.
    fine_then (fine_many (is kinds.Comma) (fine_next_member l).good refl refl) (λ others.
    fine_then (fine_token kinds.CloseBrace) (λ _.
    fine_give (record { name = name; members = first ∷ others })) refl) refl) refl) refl) refl) refl refl

pub fine_given_sort : Fine given_sort (is kinds.Colon) false mode_heads
unfolding given_sort
fine_given_sort =
    fine_as (is kinds.Colon) mode_heads (fine_then (fine_token kinds.Colon) (λ _. fine_sort) refl) refl refl

pub fine_constant : (l : Limits) → Fine (constant l) (is kinds.Name) false nothing
unfolding constant
fine_constant l =
    fine_as (is kinds.Name) nothing
    (fine_then fine_name (λ name.
    fine_then (fine_optional (is kinds.Colon) fine_given_sort.good refl) (λ sort.
    fine_then (fine_given_init l) (λ value.
    fine_then (fine_token kinds.Semicolon) (λ _.
    fine_give (record { name = name; sort = sort; value = value })) refl) refl) refl) refl) refl refl

-- ---- functions

pub fine_value_body : (l : Limits) (n : Counts) → Fine (value_body l n) (is kinds.Assign) false nothing
unfolding value_body
fine_value_body l n =
    fine_as (is kinds.Assign) nothing
    (fine_then (fine_token kinds.Assign) (λ _.
    fine_then (fine_expr l) (λ value.
    fine_then (fine_token kinds.Semicolon) (λ _.
    fine_give (record { value = Value value; counts = n })) refl) refl) refl) refl refl

pub fine_block_body : (l : Limits) (n : Counts) → Fine (block_body l n) (is kinds.OpenBrace) false nothing
unfolding block_body
fine_block_body l n =
    fine_as (is kinds.OpenBrace) nothing
    (fine_then (fine_block l n) (λ found.
    fine_give (record { value = Block found; counts = after_stmts n found })) refl) refl refl

pub fine_function : (l : Limits) (n : Counts) → Fine (function l n) (is kinds.Name) false nothing
unfolding function
fine_function l n =
    fine_as (is kinds.Name) nothing
    (fine_then fine_name (λ name.
    fine_then (fine_token kinds.OpenParen) (λ _.
    fine_then
    (fine_either (is kinds.Name) (fine_names unlimited (λ z. z) n).good (fine_give []) refl refl) (λ params.
    fine_then (fine_token kinds.CloseParen) (λ _.
    fine_then
    (fine_either (is kinds.Assign) (fine_value_body l n).good (fine_block_body l n) refl refl) (λ body.
    fine_give (record {
      value = record { name = name; params = params; body = body.value };
      counts = body.counts;
    })) refl) refl) refl) refl) refl) refl refl
