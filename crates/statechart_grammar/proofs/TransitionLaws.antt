-- Statements, blocks, cases and transitions read as they spell.
-- `fine_x` says of the production x that it is LL(1): with its FIRST set, whether it is nullable, and the kinds that
-- may go on with what is read, which its FOLLOW must not have. `good_x` says so of one of which limits may leave no
-- spelling.
use Rattle.std.proofs.Common.{true, false, List, [], ◌∷◌, Option, Some, None, refl, ◌||◌}
use Rattle.std.specs.Prelude.{codes}
use Rattle.token_grammar.specs.declared.token.Kind.TheVariants as kinds
use Rattle.token_grammar.specs.declared.token.Span.{Span}
use Rattle.token_grammar.specs.Grammar.{Grammar, is, token, allowed, give, ◌>>=◌, ◌>>◌}
use Rattle.token_grammar.proofs.Good.{Set, nothing, Good}
use Rattle.token_grammar.proofs.Leaves.{good_one_of}
use Rattle.token_grammar.proofs.Allowed.{good_allowed}
use Rattle.token_grammar.proofs.AtFirst.{good_at_first}
use Rattle.token_grammar.proofs.Fine.{Fine, fine_token, fine_give, fine_then, good_then, fine_either, fine_optional}
use Rattle.token_grammar.proofs.Fine.{fine_many, fine_many_from, fine_as}
use Rattle.chart_tree.specs.declared.name.NameText.{NameText}
use Rattle.chart_tree.specs.declared.expr.BinWord.{BinWord}
use Rattle.chart_tree.specs.declared.expr.BinWord.TheVariants as bin_words
use Rattle.chart_tree.specs.Trees.{Path}
use Rattle.chart_grammar.specs.Limits.{Limits, Counts, Counted, first_of, statement_refused, transition_refused}
use Rattle.chart_grammar.specs.Limits.{after_transition}
use Rattle.chart_grammar.specs.Transitions.{stmt_heads, dest}
use Rattle.chart_grammar.proofs.SetLaws.{good_clean}
use Rattle.chart_grammar.proofs.WordLaws.{fine_name}
use Rattle.chart_grammar.proofs.TransitionLaws.{fine_maybe_target, fine_dest}
use Rattle.statechart_lexer.specs.Words.{word_of}
use Rattle.statechart_tree.specs.Trees.{Assign, Update, Step, Send, Emit, Raise, Invoke, NoExpr, Always, On, Stmt, Case}
use Rattle.statechart_tree.specs.Trees.{Trans}
use Rattle.statechart_grammar.specs.Words.{time_of}
use Rattle.statechart_grammar.specs.Expressions.{operand_heads}
use Rattle.statechart_grammar.specs.Transitions.{assign, update_word, update, step_up, changed, change_refused, change}
use Rattle.statechart_grammar.specs.Transitions.{step_down, target_stmt, longer_target, raise, next_value, row_of}
use Rattle.statechart_grammar.specs.Transitions.{some_values, invoke, named_stmt, send, emit, stmt, Before, after_stmt}
use Rattle.statechart_grammar.specs.Transitions.{next_stmt, stmts, after_stmts, block, timing, timed_event, named_event}
use Rattle.statechart_grammar.specs.Transitions.{event, guard, event_case, guard_case, case, next_case, when, case_heads}
use Rattle.statechart_grammar.specs.Transitions.{no_case, maybe_when, action, maybe_block, maybe_action, trans}
use Rattle.statechart_grammar.specs.Transitions.{trans_heads, no_event, junction_trans, keyword_trans}
use Rattle.statechart_grammar.proofs.WordLaws.{fine_tested, fine_timing_word, fine_bar, fine_minuses, fine_parts}
use Rattle.statechart_grammar.proofs.ExpressionLaws.{expr_more, exprs_more, fine_expr}

-- ---- statements

pub fine_assign : (l : Limits) (target : Path) → Fine (assign l target) (is kinds.Assign) false nothing
unfolding assign
fine_assign l target =
    fine_as (is kinds.Assign) nothing
    (fine_then (fine_token kinds.Assign) (λ _.
    fine_then (fine_expr l) (λ value.
    fine_then (fine_token kinds.Semicolon) (λ _.
    fine_give (Assign target value)) refl) refl) refl) refl refl

-- what stands behind a symbol that changes a datum begins so
abbrev pub change_heads : Set
change_heads k = is kinds.Semicolon k || operand_heads k

pub fine_changed : (l : Limits) (target : Path) (word : Option BinWord) (at : Span)
    → Fine (changed l target word at) change_heads false nothing
unfolding update step_up
fine_changed l target None at =
    fine_as change_heads nothing
    (fine_then (fine_token kinds.Semicolon) (λ _. fine_give (Step target bin_words.Add at)) refl) refl refl
fine_changed l target (Some word) at =
    fine_as change_heads nothing
    (fine_then (fine_expr l) (λ value.
    fine_then (fine_token kinds.Semicolon) (λ _.
    fine_give (Update target word value at)) refl) refl) refl refl

fine_change_symbol : Fine (allowed (is kinds.Chart) change_refused (token kinds.Chart)) (is kinds.Chart) false nothing
unfolding update_word
fine_change_symbol = fine_tested kinds.Chart change_refused (codes "++") refl refl

pub fine_change : (l : Limits) (target : Path) → Fine (change l target) (is kinds.Chart) false nothing
unfolding change
fine_change l target =
    fine_as (is kinds.Chart) nothing
    (fine_then fine_change_symbol (λ t. fine_changed l target (update_word t.text) t.at) refl) refl refl

pub fine_step_down : (target : Path) → Fine (step_down target) (is kinds.Minus) false nothing
unfolding step_down
fine_step_down target =
    fine_as (is kinds.Minus) nothing
    (fine_then fine_minuses (λ t.
    fine_then (fine_token kinds.Minus) (λ _.
    fine_then (fine_token kinds.Semicolon) (λ _.
    fine_give (Step target bin_words.Sub t.at)) refl) refl) refl) refl refl

-- what may stand behind a target
abbrev pub target_heads : Set
target_heads k = is kinds.Assign k || (is kinds.Chart k || is kinds.Minus k)

pub fine_target_stmt : (l : Limits) (target : Path) → Fine (target_stmt l target) target_heads false nothing
unfolding target_stmt
fine_target_stmt l target =
    fine_as target_heads nothing
    (fine_either (is kinds.Assign) (fine_assign l target).good
    (fine_either (is kinds.Chart) (fine_change l target).good (fine_step_down target) refl refl) refl refl) refl refl

-- what may stand behind the first NAME of a target
abbrev pub longer_heads : Set
longer_heads k = is kinds.Comment k || target_heads k

pub fine_longer_target : (l : Limits) (first : NameText) → Fine (longer_target l first) longer_heads false nothing
unfolding longer_target
fine_longer_target l first =
    fine_as longer_heads nothing
    (fine_then fine_parts (λ others. fine_target_stmt l (first ∷ others)) refl) refl refl

pub fine_raise : (name : NameText) → Fine (raise name) (is kinds.Semicolon) false nothing
unfolding raise
fine_raise name =
    fine_as (is kinds.Semicolon) nothing
    (fine_then (fine_token kinds.Semicolon) (λ _. fine_give (Raise name)) refl) refl refl

pub fine_next_value : (l : Limits) → Fine (next_value l) (is kinds.Comma) false expr_more
unfolding next_value
fine_next_value l =
    fine_as (is kinds.Comma) expr_more (fine_then (fine_token kinds.Comma) (λ _. fine_expr l) refl) refl refl

pub fine_some_values : (l : Limits) → Fine (some_values l) operand_heads false exprs_more
unfolding some_values
fine_some_values l =
    fine_as operand_heads exprs_more
    (fine_then (fine_expr l) (λ first.
    fine_then (fine_many (is kinds.Comma) (fine_next_value l).good refl refl) (λ others.
    fine_give (row_of (first ∷ others))) refl) refl) refl refl

pub fine_invoke : (l : Limits) (name : NameText) → Fine (invoke l name) (is kinds.OpenParen) false nothing
unfolding invoke
fine_invoke l name =
    fine_as (is kinds.OpenParen) nothing
    (fine_then (fine_token kinds.OpenParen) (λ _.
    fine_then (fine_either operand_heads (fine_some_values l).good (fine_give NoExpr) refl refl) (λ values.
    fine_then (fine_token kinds.CloseParen) (λ _.
    fine_then (fine_token kinds.Semicolon) (λ _.
    fine_give (Invoke name values)) refl) refl) refl) refl) refl refl

pub fine_named_stmt : (l : Limits) → Fine (named_stmt l) (is kinds.Name) false nothing
unfolding named_stmt
fine_named_stmt l =
    fine_as (is kinds.Name) nothing
    (fine_then fine_name (λ first.
    fine_either (is kinds.Semicolon) (fine_raise first).good
    (fine_either (is kinds.OpenParen) (fine_invoke l first).good (fine_longer_target l first) refl refl)
    refl refl) refl) refl refl

pub fine_send : Fine send (is kinds.Send) false nothing
unfolding send
fine_send =
    fine_as (is kinds.Send) nothing
    (fine_then (fine_token kinds.Send) (λ _.
    fine_then fine_name (λ name.
    fine_then fine_maybe_target (λ to.
    fine_then (fine_token kinds.Semicolon) (λ _.
    fine_give (Send name to)) refl) refl) refl) refl) refl refl

pub fine_emit : Fine emit (is kinds.Emit) false nothing
unfolding emit
fine_emit =
    fine_as (is kinds.Emit) nothing
    (fine_then (fine_token kinds.Emit) (λ _.
    fine_then fine_name (λ name.
    fine_then (fine_token kinds.Semicolon) (λ _.
    fine_give (Emit name)) refl) refl) refl) refl refl

pub fine_stmt : (l : Limits) → Fine (stmt l) stmt_heads false nothing
unfolding stmt
fine_stmt l =
    fine_as stmt_heads nothing
    (fine_either (is kinds.Send) fine_send.good
    (fine_either (is kinds.Emit) fine_emit.good (fine_named_stmt l) refl refl) refl refl) refl refl

pub good_next_stmt : (l : Limits) (b : Before) → Good (next_stmt l b) stmt_heads false nothing
unfolding next_stmt
good_next_stmt l b = good_allowed stmt_heads (λ t. statement_refused l b.statements b.counts) (fine_stmt l).good

pub fine_stmts : (l : Limits) (b : Before) → Fine (stmts l b) stmt_heads true stmt_heads
unfolding stmts
fine_stmts l b =
    fine_as stmt_heads stmt_heads
    (fine_many_from (λ z. stmt_heads) (λ z s. after_stmt z) stmt_heads b (good_next_stmt l) (λ z. refl)
    (λ z. refl) refl) refl refl

pub fine_block : (l : Limits) (n : Counts) → Fine (block l n) (is kinds.OpenBrace) false nothing
unfolding block
fine_block l n =
    fine_as (is kinds.OpenBrace) nothing
    (fine_then (fine_token kinds.OpenBrace) (λ _.
    fine_then (fine_stmts l (record { statements = 0; counts = n })) (λ found.
    fine_then (fine_token kinds.CloseBrace) (λ _.
    fine_give found) refl) refl) refl) refl refl

-- ---- cases

pub fine_timed_event : (l : Limits) → Fine (timed_event l) (is kinds.Tick) false nothing
unfolding timed_event
fine_timed_event l =
    fine_as (is kinds.Tick) nothing
    (fine_then fine_timing_word (λ t.
    fine_then (fine_token kinds.OpenParen) (λ _.
    fine_then (fine_expr l) (λ count.
    fine_then (fine_token kinds.Comma) (λ _.
    fine_then fine_name (λ event.
    fine_then (fine_token kinds.CloseParen) (λ _.
    fine_give (timing (time_of (word_of t.text)) count event t.at)) refl) refl) refl) refl) refl) refl) refl refl

pub fine_named_event : Fine named_event (is kinds.Name) false nothing
unfolding named_event
fine_named_event = fine_as (is kinds.Name) nothing (fine_then fine_name (λ event. fine_give (On event)) refl) refl refl

-- what begins an event
abbrev pub event_heads : Set
event_heads k = is kinds.Tick k || is kinds.Name k

pub fine_event : (l : Limits) → Fine (event l) event_heads false nothing
unfolding event
fine_event l =
    fine_as event_heads nothing (fine_either (is kinds.Tick) (fine_timed_event l).good fine_named_event refl refl) refl refl

pub fine_guard : (l : Limits) → Fine (guard l) (is kinds.OpenBracket) false nothing
unfolding guard
fine_guard l =
    fine_as (is kinds.OpenBracket) nothing
    (fine_then (fine_token kinds.OpenBracket) (λ t.
    fine_then (fine_expr l) (λ e.
    fine_then (fine_token kinds.CloseBracket) (λ _.
    fine_give (record { expr = e; at = t.at })) refl) refl) refl) refl refl

pub fine_event_case : (l : Limits) → Fine (event_case l) event_heads false (is kinds.OpenBracket)
unfolding event_case
fine_event_case l =
    fine_as event_heads (is kinds.OpenBracket)
    (fine_then (fine_event l) (λ trigger.
    fine_then (fine_optional (is kinds.OpenBracket) (fine_guard l).good refl) (λ guard.
    fine_give (record { trigger = trigger; guard = guard })) refl) refl) refl refl

pub fine_guard_case : (l : Limits) → Fine (guard_case l) (is kinds.OpenBracket) false nothing
unfolding guard_case
fine_guard_case l =
    fine_as (is kinds.OpenBracket) nothing
    (fine_then (fine_guard l) (λ guard. fine_give (record { trigger = Always; guard = Some guard })) refl) refl refl

pub fine_case : (l : Limits) → Fine (case l) case_heads false (is kinds.OpenBracket)
unfolding case
fine_case l =
    fine_as case_heads (is kinds.OpenBracket)
    (fine_either (is kinds.OpenBracket) (fine_guard_case l).good (fine_event_case l) refl refl) refl refl

pub fine_next_case : (l : Limits) → Fine (next_case l) (is kinds.Comment) false (is kinds.OpenBracket)
unfolding next_case
fine_next_case l =
    fine_as (is kinds.Comment) (is kinds.OpenBracket) (fine_then fine_bar (λ _. fine_case l) refl) refl refl

-- what may go on with cases: a guard of the last, or one more
abbrev pub when_more : Set
when_more k = is kinds.OpenBracket k || is kinds.Comment k

pub fine_when : (l : Limits) → Fine (when l) case_heads false when_more
unfolding when
fine_when l =
    fine_as case_heads when_more
    (fine_then (fine_case l) (λ first.
    fine_then (fine_many (is kinds.Comment) (fine_next_case l).good refl refl) (λ others.
    fine_give (first ∷ others)) refl) refl) refl refl

-- what may go on with cases that need not be there
abbrev pub maybe_when_more : Set
maybe_when_more k = case_heads k || when_more k

pub fine_maybe_when : (l : Limits) → Fine (maybe_when l) case_heads true maybe_when_more
unfolding maybe_when
fine_maybe_when l =
    fine_as case_heads maybe_when_more
    (fine_either case_heads (fine_when l).good (fine_give (no_case ∷ [])) refl refl) refl refl

-- ---- transitions

pub fine_action : (l : Limits) (n : Counts) → Fine (action l n) (is kinds.Slash) false nothing
unfolding action
fine_action l n =
    fine_as (is kinds.Slash) nothing (fine_then (fine_token kinds.Slash) (λ _. fine_block l n) refl) refl refl

pub fine_maybe_block : (l : Limits) (n : Counts) → Fine (maybe_block l n) (is kinds.OpenBrace) true (is kinds.OpenBrace)
unfolding maybe_block
fine_maybe_block l n =
    fine_as (is kinds.OpenBrace) (is kinds.OpenBrace)
    (fine_either (is kinds.OpenBrace) (fine_block l n).good (fine_give []) refl refl) refl refl

pub fine_maybe_action : (l : Limits) (n : Counts) → Fine (maybe_action l n) (is kinds.Slash) true (is kinds.Slash)
unfolding maybe_action
fine_maybe_action l n =
    fine_as (is kinds.Slash) (is kinds.Slash)
    (fine_either (is kinds.Slash) (fine_action l n).good (fine_give []) refl refl) refl refl

-- what stands after the actions of a transition, after its condition action and its cases
abbrev pub behind_actions : Counts → Span → List Case → List Stmt → List Stmt → Grammar (Counted Trans)
behind_actions n at cases cond act = do
  token kinds.Arrow
  dest ← dest
  token kinds.Semicolon
  give (record {
    value = record { at = at; cases = cases; cond = cond; act = act; dest = dest };
    counts = after_stmts (after_stmts n cond) act;
  })

-- what stands after the condition action of a transition
abbrev pub behind_block : Limits → Counts → Span → List Case → List Stmt → Grammar (Counted Trans)
behind_block l n at cases cond = maybe_action l (after_stmts n cond) >>= behind_actions n at cases cond

-- what stands after its cases
abbrev pub behind_cases : Limits → Counts → Span → List Case → Grammar (Counted Trans)
behind_cases l n at cases = maybe_block l n >>= behind_block l n at cases

-- and what that begins with
abbrev pub action_heads : Set
action_heads k = is kinds.Slash k || is kinds.Arrow k

-- the FIRST set from the condition action on
abbrev pub block_heads : Set
block_heads k = is kinds.OpenBrace k || action_heads k

pub fine_behind_actions : (n : Counts) (at : Span) (cases : List Case) (cond act : List Stmt)
    → Fine (behind_actions n at cases cond act) (is kinds.Arrow) false nothing
fine_behind_actions n at cases cond act =
    fine_as (is kinds.Arrow) nothing
    (fine_then (fine_token kinds.Arrow) (λ _.
    fine_then fine_dest (λ dest.
    fine_then (fine_token kinds.Semicolon) (λ _.
    fine_give _) refl) refl) refl) refl refl

pub fine_behind_block : (l : Limits) (n : Counts) (at : Span) (cases : List Case) (cond : List Stmt)
    → Fine (behind_block l n at cases cond) action_heads false nothing
fine_behind_block l n at cases cond =
    fine_as action_heads nothing
    (fine_then (fine_maybe_action l (after_stmts n cond)) (fine_behind_actions n at cases cond) refl) refl refl

pub fine_behind_cases : (l : Limits) (n : Counts) (at : Span) (cases : List Case)
    → Fine (behind_cases l n at cases) block_heads false nothing
fine_behind_cases l n at cases =
    fine_as block_heads nothing (fine_then (fine_maybe_block l n) (fine_behind_block l n at cases) refl) refl refl

pub fine_trans : (l : Limits) (n : Counts) (at : Span) → Fine (trans l n at) trans_heads false nothing
unfolding trans
fine_trans l n at = fine_as trans_heads nothing (fine_then (fine_maybe_when l) (fine_behind_cases l n at) refl) refl refl

pub good_junction_trans : (l : Limits) (n : Counts) → Good (junction_trans l n) trans_heads false nothing
unfolding junction_trans
good_junction_trans l n =
    good_allowed trans_heads (λ t. first_of (no_event t) (transition_refused l n))
    (good_at_first (λ at. (fine_trans l (after_transition n) at).good))

pub good_keyword_trans : (l : Limits) (set : Set) (n : Counts) → Good (keyword_trans l set n) set false nothing
unfolding keyword_trans
good_keyword_trans l set n =
    good_clean trans_heads
    (good_then (good_allowed set (λ t. transition_refused l n) (good_one_of set))
    (λ t. fine_trans l (after_transition n) t.at) refl)
