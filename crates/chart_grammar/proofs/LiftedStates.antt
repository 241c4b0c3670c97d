-- States and charts, where some limits don't count.
-- `lifted_x` compares the production x under the usual limits with x under limits of which some don't count. `eased_x`
-- says so too, and that x has a spelling. `starts_x` says that each token of a set begins x, and `expects_x` that no
-- other does.
use Rattle.std.proofs.Common.{◌≡◌, ℕ, zero, suc, ◌≤◌, true, false, Some, refl}
use Rattle.token_grammar.specs.declared.token.Kind.TheVariants as kinds
use Rattle.token_grammar.specs.declared.fault.TokenFault.{TokenFault}
use Rattle.token_grammar.specs.declared.fault.TokenFault.TheVariants as faults
use Rattle.token_grammar.specs.declared.fault.Thing.TheVariants as things
use Rattle.token_grammar.specs.Grammar.{Grammar, is, give, ◌>>=◌}
use Rattle.token_grammar.proofs.Good.{nothing, Good}
use Rattle.token_grammar.proofs.Lifted.{Lifted, Eased, eased_token, eased_give, lifted_then, eased_then, eased_either}
use Rattle.token_grammar.proofs.LiftedLimits.{lifted_allowed, lifted_allowed_kept, lifted_forbidden}
use Rattle.token_grammar.proofs.LiftedRefused.{lifted_read, refused_read_then}
use Rattle.token_grammar.proofs.Starts.{Starts, Expects, starts_token, starts_then, starts_allowed, expects_token}
use Rattle.token_grammar.proofs.Starts.{expects_then, expects_allowed}
use Rattle.chart_tree.specs.declared.state.CompText.TheVariants as comps
use Rattle.chart_tree.specs.Trees.{State, StateOf, NoState}
use Rattle.chart_grammar.specs.Limits.{Limits, usual, Counts, Counted, state_refused, after_state, lifts_from}
use Rattle.chart_grammar.specs.Limits.{LiftedFrom}
use Rattle.chart_grammar.specs.Words.{name}
use Rattle.chart_grammar.specs.States.{values, StateGrammar, nothing_seen, no_items, sorted, comp_heads, comp}
use Rattle.chart_grammar.specs.States.{maybe_comp, state_body, state_over, no_state, state, at_begin, chart_with}
use Rattle.chart_grammar.specs.States.{chart}
use Rattle.chart_grammar.proofs.StateLaws.{fine_state_body, good_state}
use Rattle.chart_grammar.proofs.LimitLaws.{Comparison, expected, states_too, item_alike, item_free, Deeper}
use Rattle.chart_grammar.proofs.LimitLaws.{bound_deeper}
use Rattle.chart_grammar.proofs.LiftedWords.{eased_name}
use Rattle.chart_grammar.proofs.LiftedItemLaws.{ComparedStates, eased_items, eased_chart_items}

-- what would stand after the word `state` where none may
abbrev unread : Counts → Grammar (Counted State)
unread n = do
  name ← name
  give (record { value = StateOf (no_items name comps.None).parts NoState; counts = n })

-- ---- states over states

module _ {k : ℕ} {l : Limits} (c : Comparison k l) where
  eased_comp : Eased (lifts_from k) comp comp
  unfolding comp
  eased_comp =
      eased_either (is kinds.Or) (eased_then (eased_token (expected c) kinds.Or) (λ _. eased_give comps.Or)).lifted
      (eased_then (eased_token (expected c) kinds.And) (λ _. eased_give comps.And))

  eased_maybe_comp : Eased (lifts_from k) maybe_comp maybe_comp
  unfolding maybe_comp
  eased_maybe_comp = eased_either comp_heads eased_comp.lifted (eased_give comps.None)

  eased_state_body : {st st' : StateGrammar} → ComparedStates k st st' → (n : Counts)
      → Eased (lifts_from k) (state_body usual st n) (state_body l st' n)
  unfolding state_body
  eased_state_body a n =
      eased_then (eased_name c) (λ name.
      eased_then eased_maybe_comp (λ comp.
      eased_then (eased_token (expected c) kinds.OpenBrace) (λ _.
      eased_then (eased_items c a (nothing_seen n)) (λ found.
      eased_then (eased_token (expected c) kinds.CloseBrace) (λ _.
      eased_give _)))))

  lifted_state_over : {st st' : StateGrammar} → ComparedStates k st st' → (n : Counts)
      → Lifted (lifts_from k) (state_over usual st n) (state_over l st' n)
  unfolding state_over
  lifted_state_over a n =
      lifted_then
      (lifted_allowed (is kinds.State) (λ t. state_refused usual n) (λ t. state_refused l n)
      (eased_token (expected c) kinds.State).lifted
      (λ t there. item_alike c things.States n.states n) (starts_token kinds.State)) (λ _.
      eased_state_body a (after_state n))

  -- ---- what a state begins with, where there is no limit on them

  starts_state_over : {st : StateGrammar} → lifts_from k (faults.TooMany things.States) ≡ true
      → ((n : Counts) → Good (st n) (is kinds.State) false nothing) → (n : Counts)
      → Starts (is kinds.State) (state_over l st n)
  unfolding state_over
  starts_state_over lift a n =
      starts_then
      (starts_allowed (is kinds.State) (λ t. state_refused l n) (starts_token kinds.State)
      (λ t there. item_free c things.States n.states n lift))
      (λ _. (fine_state_body l a (after_state n)).sample)

  expects_state_over : (st : StateGrammar) (n : Counts) → Expects (is kinds.State) (state_over l st n)
  unfolding state_over
  expects_state_over st n =
      expects_then _ (expects_allowed (is kinds.State) (λ t. state_refused l n) (expects_token kinds.State))

  -- ---- nested to a depth, and deeper where that is lifted

  -- a state nested deeper is refused on both sides
  lifted_no_state : lifts_from k faults.NestTooDeep ≡ false → (n : Counts)
      → Lifted (lifts_from k) (no_state n) (no_state n)
  unfolding no_state
  lifted_no_state kept n =
      lifted_then
      (lifted_allowed_kept (is kinds.State) (λ t. Some faults.NestTooDeep) (λ t. Some faults.NestTooDeep)
      (eased_token (expected c) kinds.State).lifted (λ t there. rw kept refl) (λ t f said. same f said)) (λ _.
      eased_then (eased_name c) (λ name.
      eased_give _))
    where
      same : (f : TokenFault) → Some faults.NestTooDeep ≡ Some f → lifts_from k f ≡ false
      same f said = let e : faults.NestTooDeep ≡ f = cc in rw (← e) kept

  -- and on the left alone
  lifted_one_state : {st : StateGrammar} → lifts_from k faults.NestTooDeep ≡ true
      → ((n : Counts) → Good (st n) (is kinds.State) false nothing)
      → (n : Counts) → Lifted (lifts_from k) (no_state n) (state_over l st n)
  unfolding no_state
  lifted_one_state {st} lift a n =
      lifted_read (refused_read_then (is kinds.State) faults.NestTooDeep (λ t. unread n) (expects_token kinds.State))
      (lifted_forbidden (expected c) (is kinds.State) faults.NestTooDeep lift
      (starts_state_over (states_too k lift) a n) (expects_state_over st n))

  lifted_state : (d e : ℕ) → Deeper (lifts_from k faults.NestTooDeep) d e → (n : Counts)
      → Lifted (lifts_from k) (state usual d n) (state l e n)
  unfolding state
  lifted_state zero zero kept n = lifted_no_state kept n
  lifted_state zero (suc e) lift n = lifted_one_state lift (good_state l e) n
  lifted_state (suc d) zero h n = absurd h
  lifted_state (suc d) (suc e) h n =
      lifted_state_over (record { good = good_state usual d; good' = good_state l e; lifted = lifted_state d e h }) n

-- ---- charts

pub eased_chart : (k : ℕ) (l : Limits) → 1 ≤ k → LiftedFrom k l → Eased (lifts_from k) (chart usual) (chart l)
unfolding chart
eased_chart k l some from =
    let c : Comparison k l = record { some = some; from = from } in
    let h = bound_deeper (lifts_from k faults.NestTooDeep) usual.depth l.depth from.depth in
    let states : ComparedStates k (state usual usual.depth) (state l l.depth) = record {
      good = good_state usual usual.depth;
      good' = good_state l l.depth;
      lifted = lifted_state c usual.depth l.depth h;
    } in
    eased_then (eased_token (expected c) kinds.Chart) (λ _.
    eased_then (eased_name c) (λ name.
    eased_then (eased_maybe_comp c) (λ comp.
    eased_then (eased_token (expected c) kinds.OpenBrace) (λ _.
    eased_then (eased_chart_items c states (nothing_seen at_begin)) (λ found.
    eased_then (eased_token (expected c) kinds.CloseBrace) (λ _.
    eased_give (chart_with (sorted name comp (values found)))))))))
