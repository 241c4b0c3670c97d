-- Declarations of events and data read as they spell.
-- `fine_x` says of the production x that it is LL(1): with its FIRST set, whether it is nullable, and the kinds that
-- may
-- go on with what is read, which its FOLLOW must not have. `good_x` says so of one of which limits may leave no
-- spelling.
use Rattle.std.proofs.Common.{true, false, refl, ◌||◌}
use Rattle.token_grammar.specs.declared.token.Kind.TheVariants as kinds
use Rattle.token_grammar.specs.declared.token.Span.{Span}
use Rattle.token_grammar.specs.Grammar.{is}
use Rattle.token_grammar.proofs.Good.{Set, nothing, Good}
use Rattle.token_grammar.proofs.Leaves.{good_token, good_one_of}
use Rattle.token_grammar.proofs.Allowed.{good_allowed}
use Rattle.token_grammar.proofs.Fine.{Fine, fine_token, fine_one_of, fine_give, fine_then, good_then, fine_either}
use Rattle.token_grammar.proofs.Fine.{good_as, fine_as}
use Rattle.chart_tree.specs.declared.sort.InitText.TheVariants as inits
use Rattle.chart_tree.specs.Trees.{Sort}
use Rattle.chart_grammar.specs.Limits.{Limits, Counts, event_refused, variable_refused}
use Rattle.chart_grammar.specs.Words.{lit_of}
use Rattle.chart_grammar.specs.Declarations.{kind_heads, event_word, event, plain_init, positive_init, negative_init}
use Rattle.chart_grammar.specs.Declarations.{flag_heads, flag_init, init, given_init, missing_init, maybe_init}
use Rattle.chart_grammar.specs.Declarations.{var_word, variable}
use Rattle.chart_grammar.proofs.WordLaws.{fine_name, fine_number}
use Rattle.chart_grammar.proofs.TypeLaws.{fine_sort}

pub good_event : (l : Limits) (n : Counts) → Good (event l n) (is kinds.Event) false nothing
unfolding event
good_event l n =
    good_as (is kinds.Event) nothing
    (good_then (good_allowed (is kinds.Event) (λ t. event_refused l n) (good_token kinds.Event)) (λ _.
    fine_then (fine_one_of kind_heads kinds.Input refl) (λ t.
    fine_then fine_name (λ name.
    fine_then (fine_token kinds.Semicolon) (λ _.
    fine_give (record { kind = event_word t.kind; name = name })) refl) refl) refl) refl) refl refl

-- ---- first values

pub fine_positive_init : (l : Limits) → Fine (positive_init l) (is kinds.Number) false nothing
unfolding positive_init
fine_positive_init l =
    fine_as (is kinds.Number) nothing
    (fine_then (fine_number l) (λ t. fine_give (plain_init false (lit_of t.text) t.at)) refl) refl refl

pub fine_negative_init : (l : Limits) → Fine (negative_init l) (is kinds.Minus) false nothing
unfolding negative_init
fine_negative_init l =
    fine_as (is kinds.Minus) nothing
    (fine_then (fine_token kinds.Minus) (λ sign.
    fine_then (fine_number l) (λ t.
    fine_give (plain_init true (lit_of t.text) sign.at)) refl) refl) refl refl

pub fine_flag_init : Fine flag_init flag_heads false nothing
unfolding flag_init
fine_flag_init =
    fine_as flag_heads nothing
    (fine_then (fine_one_of flag_heads kinds.True refl)
    (λ t. fine_give (inits.Flag (is kinds.True t.kind) t.at)) refl) refl refl

-- the FIRST set of a first value
abbrev pub init_heads : Set
init_heads k = is kinds.Minus k || (is kinds.Number k || flag_heads k)

pub fine_init : (l : Limits) → Fine (init l) init_heads false nothing
unfolding init
fine_init l =
    fine_as init_heads nothing
    (fine_either (is kinds.Minus) (fine_negative_init l).good
    (fine_either (is kinds.Number) (fine_positive_init l).good fine_flag_init refl refl) refl refl) refl refl

pub fine_given_init : (l : Limits) → Fine (given_init l) (is kinds.Assign) false nothing
unfolding given_init
fine_given_init l =
    fine_as (is kinds.Assign) nothing (fine_then (fine_token kinds.Assign) (λ _. fine_init l) refl) refl refl

pub fine_maybe_init : (l : Limits) (sort : Sort) (at : Span)
    → Fine (maybe_init l sort at) (is kinds.Assign) true (is kinds.Assign)
unfolding maybe_init
fine_maybe_init l sort at =
    fine_as (is kinds.Assign) (is kinds.Assign)
    (fine_either (is kinds.Assign) (fine_given_init l).good (fine_give (missing_init sort at)) refl refl) refl refl

-- ---- data

pub good_variable : (l : Limits) (n : Counts) → Good (variable l n) kind_heads false nothing
unfolding variable
good_variable l n =
    good_as kind_heads nothing
    (good_then (good_allowed kind_heads (λ t. variable_refused l n) (good_one_of kind_heads)) (λ t.
    fine_then fine_name (λ name.
    fine_then (fine_token kinds.Colon) (λ _.
    fine_then fine_sort (λ sort.
    fine_then (fine_maybe_init l sort name.at) (λ init.
    fine_then (fine_token kinds.Semicolon) (λ _.
    fine_give (record { kind = var_word t.kind; name = name; sort = sort; init = init })) refl) refl) refl) refl) refl) refl) refl refl
