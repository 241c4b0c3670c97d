-- Statements, blocks and transitions, where some limits don't count.
-- `lifted_x` compares the production x under the usual limits with x under limits of which some don't count. `eased_x`
-- says so too, and that x has a spelling. `starts_x` says that each token of a set begins x, and `expects_x` that no
-- other does.
use Rattle.std.proofs.Common.{ℕ, [], None, inr, refl}
use Rattle.token_grammar.specs.declared.token.Kind.TheVariants as kinds
use Rattle.token_grammar.specs.declared.token.Span.{Span}
use Rattle.token_grammar.specs.declared.fault.Thing.TheVariants as things
use Rattle.token_grammar.specs.Grammar.{is, token}
use Rattle.token_grammar.proofs.Good.{Set}
use Rattle.token_grammar.proofs.Leaves.{sample_give}
use Rattle.token_grammar.proofs.Join.{sample_rest}
use Rattle.token_grammar.proofs.Lifted.{Lifted, Eased, eased_token, lifted_one_of, eased_give, lifted_then}
use Rattle.token_grammar.proofs.Lifted.{eased_then, eased_either, eased_optional}
use Rattle.token_grammar.proofs.LiftedItems.{eased_many_from}
use Rattle.token_grammar.proofs.LiftedLimits.{lifted_allowed}
use Rattle.token_grammar.proofs.AtFirst.{starts_at_first, lifted_at_first}
use Rattle.token_grammar.proofs.Starts.{Starts, starts_token, starts_one_of, starts_then, starts_also, starts_left}
use Rattle.token_grammar.proofs.Starts.{starts_optional, starts_either}
use Rattle.chart_tree.specs.Trees.{Assign, Send, Emit, ToState, ToJunction}
use Rattle.chart_grammar.specs.Limits.{Limits, usual, Counts, statement_refused, transition_refused, after_transition}
use Rattle.chart_grammar.specs.Limits.{lifts_from}
use Rattle.chart_grammar.specs.Words.{name}
use Rattle.chart_grammar.specs.Transitions.{assign, target, maybe_target, send, emit, stmt_heads, stmt, Before}
use Rattle.chart_grammar.specs.Transitions.{after_stmt, next_stmt, stmts, after_stmts, block, to_junction, to_state}
use Rattle.chart_grammar.specs.Transitions.{dest, guard, action, maybe_event, maybe_guard, maybe_block, maybe_action}
use Rattle.chart_grammar.specs.Transitions.{trans, trans_heads, junction_trans, keyword_trans}
use Rattle.chart_grammar.proofs.TransitionLaws.{fine_assigned, fine_send, fine_emit, good_next_stmt, fine_block}
use Rattle.chart_grammar.proofs.TransitionLaws.{fine_guarded, fine_behind_actions, fine_behind_block}
use Rattle.chart_grammar.proofs.TransitionLaws.{fine_behind_guard, fine_behind_event, fine_trans}
use Rattle.chart_grammar.proofs.LimitLaws.{Comparison, expected, item_alike}
use Rattle.chart_grammar.proofs.LiftedWords.{eased_name, eased_path}
use Rattle.chart_grammar.proofs.LiftedExpressions.{eased_expr}

-- ---- what a statement and a transition begin with

starts_name : Starts (is kinds.Name) name
unfolding name
starts_name = starts_then (starts_token kinds.Name) (λ t. sample_give _)

starts_stmt : (l : Limits) → Starts stmt_heads (stmt l)
unfolding stmt send emit assign
starts_stmt l =
    starts_either (is kinds.Send)
    (starts_then (starts_token kinds.Send) (λ _. sample_rest (token kinds.Send) fine_send.sample))
    (starts_either (is kinds.Emit)
    (starts_then (starts_token kinds.Emit) (λ _. sample_rest (token kinds.Emit) fine_emit.sample))
    (starts_then starts_name (λ name. (fine_assigned l name).sample)))

starts_block : (l : Limits) (n : Counts) → Starts (is kinds.OpenBrace) (block l n)
unfolding block
starts_block l n =
    starts_then (starts_token kinds.OpenBrace) (λ _. sample_rest (token kinds.OpenBrace) (fine_block l n).sample)

-- each part that may be missing is skipped in turn
starts_trans : (l : Limits) (n : Counts) (at : Span) → Starts trans_heads (trans l n at)
unfolding trans maybe_event maybe_guard maybe_block maybe_action guard action
starts_trans l n at =
    let arrow = starts_then (starts_token kinds.Arrow)
    (λ _. sample_rest (token kinds.Arrow) (fine_behind_actions n at None None [] []).sample) in
    let act = starts_left (is kinds.Slash)
    (starts_then (starts_token kinds.Slash) (λ _. (fine_block l (after_stmts n [])).sample)) in
    let cond = starts_left (is kinds.OpenBrace) (starts_block l n) in
    let guarding = starts_optional (is kinds.OpenBracket)
    (starts_then (starts_token kinds.OpenBracket) (λ t. (fine_guarded l t).sample)) in
    let event = starts_optional (is kinds.Name) starts_name in
    starts_also None (inr (refl, refl)) event
    (starts_also None (inr (refl, refl)) guarding
    (starts_also [] (inr (refl, refl)) cond
    (starts_also [] (inr (refl, refl)) act arrow
    (λ acts. (fine_behind_actions n at None None [] acts).sample))
    (λ conds. (fine_behind_block l n at None None conds).sample))
    (λ guards. (fine_behind_guard l n at None guards).sample))
    (λ events. (fine_behind_event l n at events).sample)

module _ {k : ℕ} {l : Limits} (c : Comparison k l) where
  -- ---- statements

  eased_assign : Eased (lifts_from k) (assign usual) (assign l)
  unfolding assign
  eased_assign =
      eased_then (eased_name c) (λ name.
      eased_then (eased_token (expected c) kinds.Assign) (λ _.
      eased_then (eased_expr c) (λ value.
      eased_then (eased_token (expected c) kinds.Semicolon) (λ _.
      eased_give (Assign name value)))))

  eased_target : Eased (lifts_from k) target target
  unfolding target
  eased_target = eased_then (eased_token (expected c) kinds.To) (λ _. eased_path c)

  eased_maybe_target : Eased (lifts_from k) maybe_target maybe_target
  unfolding maybe_target
  eased_maybe_target = eased_optional (is kinds.To) eased_target.lifted

  eased_send : Eased (lifts_from k) send send
  unfolding send
  eased_send =
      eased_then (eased_token (expected c) kinds.Send) (λ _.
      eased_then (eased_name c) (λ name.
      eased_then eased_maybe_target (λ to.
      eased_then (eased_token (expected c) kinds.Semicolon) (λ _.
      eased_give (Send name to)))))

  eased_emit : Eased (lifts_from k) emit emit
  unfolding emit
  eased_emit =
      eased_then (eased_token (expected c) kinds.Emit) (λ _.
      eased_then (eased_name c) (λ name.
      eased_then (eased_token (expected c) kinds.Semicolon) (λ _.
      eased_give (Emit name))))

  eased_stmt : Eased (lifts_from k) (stmt usual) (stmt l)
  unfolding stmt
  eased_stmt =
      eased_either (is kinds.Send) eased_send.lifted (eased_either (is kinds.Emit) eased_emit.lifted eased_assign)

  lifted_next_stmt : (b : Before) → Lifted (lifts_from k) (next_stmt usual b) (next_stmt l b)
  unfolding next_stmt
  lifted_next_stmt b =
      lifted_allowed stmt_heads (λ t. statement_refused usual b.statements b.counts)
      (λ t. statement_refused l b.statements b.counts)
      eased_stmt.lifted (λ t there. item_alike c things.Statements b.statements b.counts) (starts_stmt l)

  eased_stmts : (b : Before) → Eased (lifts_from k) (stmts usual b) (stmts l b)
  unfolding stmts
  eased_stmts b = eased_many_from (λ z. stmt_heads) (λ z s. after_stmt z) (good_next_stmt usual)
      (good_next_stmt l) lifted_next_stmt b

  pub eased_block : (n : Counts) → Eased (lifts_from k) (block usual n) (block l n)
  unfolding block
  eased_block n =
      eased_then (eased_token (expected c) kinds.OpenBrace) (λ _.
      eased_then (eased_stmts (record { statements = 0; counts = n })) (λ found.
      eased_then (eased_token (expected c) kinds.CloseBrace) (λ _.
      eased_give found)))

  -- ---- parts of a transition

  eased_to_junction : Eased (lifts_from k) to_junction to_junction
  unfolding to_junction
  eased_to_junction = eased_then (eased_token (expected c) kinds.At)
      (λ _. eased_then (eased_name c) (λ name. eased_give (ToJunction name)))

  eased_to_state : Eased (lifts_from k) to_state to_state
  unfolding to_state
  eased_to_state = eased_then (eased_path c) (λ path. eased_give (ToState path))

  eased_dest : Eased (lifts_from k) dest dest
  unfolding dest
  eased_dest = eased_either (is kinds.At) eased_to_junction.lifted eased_to_state

  eased_guard : Eased (lifts_from k) (guard usual) (guard l)
  unfolding guard
  eased_guard =
      eased_then (eased_token (expected c) kinds.OpenBracket) (λ t.
      eased_then (eased_expr c) (λ e.
      eased_then (eased_token (expected c) kinds.CloseBracket) (λ _.
      eased_give (record { expr = e; at = t.at }))))

  eased_action : (n : Counts) → Eased (lifts_from k) (action usual n) (action l n)
  unfolding action
  eased_action n = eased_then (eased_token (expected c) kinds.Slash) (λ _. eased_block n)

  eased_maybe_event : Eased (lifts_from k) maybe_event maybe_event
  unfolding maybe_event
  eased_maybe_event = eased_optional (is kinds.Name) (eased_name c).lifted

  eased_maybe_guard : Eased (lifts_from k) (maybe_guard usual) (maybe_guard l)
  unfolding maybe_guard
  eased_maybe_guard = eased_optional (is kinds.OpenBracket) eased_guard.lifted

  eased_maybe_block : (n : Counts) → Eased (lifts_from k) (maybe_block usual n) (maybe_block l n)
  unfolding maybe_block
  eased_maybe_block n = eased_either (is kinds.OpenBrace) (eased_block n).lifted (eased_give [])

  eased_maybe_action : (n : Counts) → Eased (lifts_from k) (maybe_action usual n) (maybe_action l n)
  unfolding maybe_action
  eased_maybe_action n = eased_either (is kinds.Slash) (eased_action n).lifted (eased_give [])

  -- ---- transitions

  eased_trans : (n : Counts) (at : Span) → Eased (lifts_from k) (trans usual n at) (trans l n at)
  unfolding trans
  eased_trans n at =
      eased_then eased_maybe_event (λ event.
      eased_then eased_maybe_guard (λ guard.
      eased_then (eased_maybe_block n) (λ cond.
      eased_then (eased_maybe_action (after_stmts n cond)) (λ act.
      eased_then (eased_token (expected c) kinds.Arrow) (λ _.
      eased_then eased_dest (λ dest.
      eased_then (eased_token (expected c) kinds.Semicolon) (λ _.
      eased_give _)))))))

  pub lifted_junction_trans : (n : Counts) → Lifted (lifts_from k) (junction_trans usual n) (junction_trans l n)
  unfolding junction_trans
  lifted_junction_trans n =
      lifted_allowed trans_heads (λ t. transition_refused usual n) (λ t. transition_refused l n)
      (lifted_at_first (λ at. (fine_trans l (after_transition n) at).good)
      (λ at. (eased_trans (after_transition n) at).lifted))
      (λ t there. item_alike c things.Transitions n.transitions n)
      (starts_at_first (starts_trans l (after_transition n)))

  pub lifted_keyword_trans : (set : Set) (n : Counts)
      → Lifted (lifts_from k) (keyword_trans usual set n) (keyword_trans l set n)
  unfolding keyword_trans
  lifted_keyword_trans set n =
      lifted_then
      (lifted_allowed set (λ t. transition_refused usual n) (λ t. transition_refused l n)
      (lifted_one_of (expected c) set)
      (λ t there. item_alike c things.Transitions n.transitions n) (starts_one_of set)) (λ t.
      eased_trans (after_transition n) t.at)
