-- Statements, blocks and transitions read as they spell.
-- `fine_x` says of the production x that it is LL(1): with its FIRST set, whether it is nullable, and the kinds that
-- may
-- go on with what is read, which its FOLLOW must not have. `good_x` says so of one of which limits may leave no
-- spelling.
use Rattle.std.proofs.Common.{true, false, List, [], Option, refl, ◌||◌}
use Rattle.token_grammar.specs.declared.token.Kind.TheVariants as kinds
use Rattle.token_grammar.specs.declared.token.Span.{Span}
use Rattle.token_grammar.specs.Token.{Lexeme}
use Rattle.token_grammar.specs.Grammar.{Grammar, is, token, give, ◌>>=◌, ◌>>◌}
use Rattle.token_grammar.proofs.Good.{Set, nothing, Good}
use Rattle.token_grammar.proofs.Leaves.{good_one_of}
use Rattle.token_grammar.proofs.Allowed.{good_allowed}
use Rattle.token_grammar.proofs.AtFirst.{good_at_first}
use Rattle.token_grammar.proofs.Fine.{Fine, fine_token, fine_give, fine_then, good_then, fine_either, fine_optional}
use Rattle.token_grammar.proofs.Fine.{fine_many_from, fine_as}
use Rattle.chart_tree.specs.declared.name.NameText.{NameText}
use Rattle.chart_tree.specs.Trees.{Stmt, Assign, Send, Emit, ToState, ToJunction, Guard, Trans}
use Rattle.chart_grammar.specs.Limits.{Limits, Counts, Counted, statement_refused, transition_refused, after_transition}
use Rattle.chart_grammar.specs.Expressions.{expr}
use Rattle.chart_grammar.specs.Transitions.{assign, target, maybe_target, send, emit, stmt_heads, stmt, Before}
use Rattle.chart_grammar.specs.Transitions.{after_stmt, next_stmt, stmts, after_stmts, block, to_junction, to_state}
use Rattle.chart_grammar.specs.Transitions.{dest, guard, action, maybe_event, maybe_guard, maybe_block, maybe_action}
use Rattle.chart_grammar.specs.Transitions.{trans, trans_heads, junction_trans, keyword_trans}
use Rattle.chart_grammar.proofs.SetLaws.{good_clean}
use Rattle.chart_grammar.proofs.WordLaws.{fine_name, fine_path}
use Rattle.chart_grammar.proofs.ExpressionLaws.{operand_heads, fine_expr}

-- ---- statements

-- what stands after the name
abbrev pub assigned : Limits → NameText → Grammar Stmt
assigned l name = do
  token kinds.Assign
  value ← expr l
  token kinds.Semicolon
  give (Assign name value)

pub fine_assigned : (l : Limits) (name : NameText) → Fine (assigned l name) (is kinds.Assign) false nothing
fine_assigned l name =
    fine_as (is kinds.Assign) nothing
    (fine_then (fine_token kinds.Assign) (λ _.
    fine_then (fine_expr l) (λ value.
    fine_then (fine_token kinds.Semicolon) (λ _.
    fine_give (Assign name value)) refl) refl) refl) refl refl

pub fine_assign : (l : Limits) → Fine (assign l) (is kinds.Name) false nothing
unfolding assign
fine_assign l = fine_as (is kinds.Name) nothing (fine_then fine_name (fine_assigned l) refl) refl refl

pub fine_target : Fine target (is kinds.To) false (is kinds.Slash)
unfolding target
fine_target = fine_as (is kinds.To) (is kinds.Slash) (fine_then (fine_token kinds.To) (λ _. fine_path) refl) refl refl

-- what may go on with the destination of a `send`: `to`, or one more step of its path
abbrev pub target_more : Set
target_more k = is kinds.To k || is kinds.Slash k

pub fine_maybe_target : Fine maybe_target (is kinds.To) true target_more
unfolding maybe_target
fine_maybe_target = fine_as (is kinds.To) target_more (fine_optional (is kinds.To) fine_target.good refl) refl refl

pub fine_send : Fine send (is kinds.Send) false nothing
unfolding send
fine_send =
    fine_as (is kinds.Send) nothing
    (fine_then (fine_token kinds.Send) (λ _.
    fine_then fine_name (λ name.
    fine_then fine_maybe_target (λ to.
    fine_then (fine_token kinds.Semicolon) (λ _.
    fine_give (Send name to)) refl) refl) refl) refl) refl refl

pub fine_emit : Fine emit (is kinds.Emit) false nothing
unfolding emit
fine_emit =
    fine_as (is kinds.Emit) nothing
    (fine_then (fine_token kinds.Emit) (λ _.
    fine_then fine_name (λ name.
    fine_then (fine_token kinds.Semicolon) (λ _.
    fine_give (Emit name)) refl) refl) refl) refl refl

pub fine_stmt : (l : Limits) → Fine (stmt l) stmt_heads false nothing
unfolding stmt
fine_stmt l =
    fine_as stmt_heads nothing
    (fine_either (is kinds.Send) fine_send.good
    (fine_either (is kinds.Emit) fine_emit.good (fine_assign l) refl refl) refl refl) refl refl

pub good_next_stmt : (l : Limits) (b : Before) → Good (next_stmt l b) stmt_heads false nothing
unfolding next_stmt
good_next_stmt l b = good_allowed stmt_heads (λ t. statement_refused l b.statements b.counts) (fine_stmt l).good

pub fine_stmts : (l : Limits) (b : Before) → Fine (stmts l b) stmt_heads true stmt_heads
unfolding stmts
fine_stmts l b =
    fine_as stmt_heads stmt_heads
    (fine_many_from (λ z. stmt_heads) (λ z s. after_stmt z) stmt_heads b (good_next_stmt l) (λ z. refl)
    (λ z. refl) refl) refl refl

pub fine_block : (l : Limits) (n : Counts) → Fine (block l n) (is kinds.OpenBrace) false nothing
unfolding block
fine_block l n =
    fine_as (is kinds.OpenBrace) nothing
    (fine_then (fine_token kinds.OpenBrace) (λ _.
    fine_then (fine_stmts l (record { statements = 0; counts = n })) (λ found.
    fine_then (fine_token kinds.CloseBrace) (λ _.
    fine_give found) refl) refl) refl) refl refl

-- ---- parts of a transition

pub fine_to_junction : Fine to_junction (is kinds.At) false nothing
unfolding to_junction
fine_to_junction =
    fine_as (is kinds.At) nothing
    (fine_then (fine_token kinds.At)
    (λ _. fine_then fine_name (λ name. fine_give (ToJunction name)) refl) refl) refl refl

pub fine_to_state : Fine to_state (is kinds.Name) false (is kinds.Slash)
unfolding to_state
fine_to_state =
    fine_as (is kinds.Name) (is kinds.Slash) (fine_then fine_path (λ path. fine_give (ToState path)) refl) refl refl

-- the FIRST set of a destination
abbrev pub dest_heads : Set
dest_heads k = is kinds.At k || is kinds.Name k

pub fine_dest : Fine dest dest_heads false (is kinds.Slash)
unfolding dest
fine_dest = fine_as dest_heads (is kinds.Slash)
    (fine_either (is kinds.At) fine_to_junction.good fine_to_state refl refl) refl refl

-- what stands after the bracket
abbrev pub guarded : Limits → Lexeme → Grammar Guard
guarded l t = do
  e ← expr l
  token kinds.CloseBracket
  give (record { expr = e; at = t.at })

pub fine_guarded : (l : Limits) (t : Lexeme) → Fine (guarded l t) operand_heads false nothing
fine_guarded l t =
    fine_as operand_heads nothing
    (fine_then (fine_expr l) (λ e.
    fine_then (fine_token kinds.CloseBracket) (λ _.
    fine_give (record { expr = e; at = t.at })) refl) refl) refl refl

pub fine_guard : (l : Limits) → Fine (guard l) (is kinds.OpenBracket) false nothing
unfolding guard
fine_guard l =
    fine_as (is kinds.OpenBracket) nothing (fine_then (fine_token kinds.OpenBracket) (fine_guarded l) refl) refl refl

pub fine_action : (l : Limits) (n : Counts) → Fine (action l n) (is kinds.Slash) false nothing
unfolding action
fine_action l n =
    fine_as (is kinds.Slash) nothing (fine_then (fine_token kinds.Slash) (λ _. fine_block l n) refl) refl refl

pub fine_maybe_event : Fine maybe_event (is kinds.Name) true (is kinds.Name)
unfolding maybe_event
fine_maybe_event = fine_as (is kinds.Name) (is kinds.Name) (fine_optional (is kinds.Name) fine_name.good refl) refl refl

pub fine_maybe_guard : (l : Limits) → Fine (maybe_guard l) (is kinds.OpenBracket) true (is kinds.OpenBracket)
unfolding maybe_guard
fine_maybe_guard l =
    fine_as (is kinds.OpenBracket) (is kinds.OpenBracket)
    (fine_optional (is kinds.OpenBracket) (fine_guard l).good refl) refl refl

pub fine_maybe_block : (l : Limits) (n : Counts) → Fine (maybe_block l n) (is kinds.OpenBrace) true (is kinds.OpenBrace)
unfolding maybe_block
fine_maybe_block l n =
    fine_as (is kinds.OpenBrace) (is kinds.OpenBrace)
    (fine_either (is kinds.OpenBrace) (fine_block l n).good (fine_give []) refl refl) refl refl

pub fine_maybe_action : (l : Limits) (n : Counts) → Fine (maybe_action l n) (is kinds.Slash) true (is kinds.Slash)
unfolding maybe_action
fine_maybe_action l n =
    fine_as (is kinds.Slash) (is kinds.Slash)
    (fine_either (is kinds.Slash) (fine_action l n).good (fine_give []) refl refl) refl refl

-- ---- transitions

-- what stands after the actions of a transition, after its condition action, its guard and its event
abbrev pub behind_actions : Counts → Span → Option NameText → Option Guard → List Stmt → List Stmt
    → Grammar (Counted Trans)
behind_actions n at event guard cond act = do
  token kinds.Arrow
  dest ← dest
  token kinds.Semicolon
  give (record {
    value = record { at = at; event = event; guard = guard; cond = cond; act = act; dest = dest };
    counts = after_stmts (after_stmts n cond) act;
  })

-- what stands after the condition action of a transition
abbrev pub behind_block : Limits → Counts → Span → Option NameText → Option Guard → List Stmt → Grammar (Counted Trans)
behind_block l n at event guard cond = maybe_action l (after_stmts n cond) >>= behind_actions n at event guard cond

-- what stands after its guard
abbrev pub behind_guard : Limits → Counts → Span → Option NameText → Option Guard → Grammar (Counted Trans)
behind_guard l n at event guard = maybe_block l n >>= behind_block l n at event guard

-- what stands after its event
abbrev pub behind_event : Limits → Counts → Span → Option NameText → Grammar (Counted Trans)
behind_event l n at event = maybe_guard l >>= behind_guard l n at event

-- and what that begins with
abbrev pub action_heads : Set
action_heads k = is kinds.Slash k || is kinds.Arrow k

-- the FIRST set from the condition action on
abbrev pub block_heads : Set
block_heads k = is kinds.OpenBrace k || action_heads k

-- the FIRST set from the guard on
abbrev pub guard_heads : Set
guard_heads k = is kinds.OpenBracket k || block_heads k

pub fine_behind_actions : (n : Counts) (at : Span) (event : Option NameText) (guard : Option Guard)
    (cond act : List Stmt)
    → Fine (behind_actions n at event guard cond act) (is kinds.Arrow) false nothing
fine_behind_actions n at event guard cond act =
    fine_as (is kinds.Arrow) nothing
    (fine_then (fine_token kinds.Arrow) (λ _.
    fine_then fine_dest (λ dest.
    fine_then (fine_token kinds.Semicolon) (λ _.
    fine_give _) refl) refl) refl) refl refl

pub fine_behind_block : (l : Limits) (n : Counts) (at : Span) (event : Option NameText) (guard : Option Guard)
    (cond : List Stmt)
    → Fine (behind_block l n at event guard cond) action_heads false nothing
fine_behind_block l n at event guard cond =
    fine_as action_heads nothing
    (fine_then (fine_maybe_action l (after_stmts n cond))
    (fine_behind_actions n at event guard cond) refl) refl refl

pub fine_behind_guard : (l : Limits) (n : Counts) (at : Span) (event : Option NameText) (guard : Option Guard)
    → Fine (behind_guard l n at event guard) block_heads false nothing
fine_behind_guard l n at event guard =
    fine_as block_heads nothing (fine_then (fine_maybe_block l n) (fine_behind_block l n at event guard) refl) refl refl

pub fine_behind_event : (l : Limits) (n : Counts) (at : Span) (event : Option NameText)
    → Fine (behind_event l n at event) guard_heads false nothing
fine_behind_event l n at event =
    fine_as guard_heads nothing (fine_then (fine_maybe_guard l) (fine_behind_guard l n at event) refl) refl refl

pub fine_trans : (l : Limits) (n : Counts) (at : Span) → Fine (trans l n at) trans_heads false nothing
unfolding trans
fine_trans l n at = fine_as trans_heads nothing (fine_then fine_maybe_event (fine_behind_event l n at) refl) refl refl

pub good_junction_trans : (l : Limits) (n : Counts) → Good (junction_trans l n) trans_heads false nothing
unfolding junction_trans
good_junction_trans l n =
    good_allowed trans_heads (λ t. transition_refused l n)
    (good_at_first (λ at. (fine_trans l (after_transition n) at).good))

pub good_keyword_trans : (l : Limits) (set : Set) (n : Counts) → Good (keyword_trans l set n) set false nothing
unfolding keyword_trans
good_keyword_trans l set n =
    good_clean trans_heads
    (good_then (good_allowed set (λ t. transition_refused l n) (good_one_of set))
    (λ t. fine_trans l (after_transition n) t.at) refl)
