-- States and charts read as they spell.
-- `fine_x` says of the production x that it is LL(1): with its FIRST set, whether it is nullable, and the kinds that
-- may
-- go on with what is read, which its FOLLOW must not have. `good_x` says so of one of which limits may leave no
-- spelling.
use Rattle.std.proofs.Common.{ℕ, zero, suc, true, false, Some, refl}
use Rattle.token_grammar.specs.declared.token.Kind.TheVariants as kinds
use Rattle.token_grammar.specs.declared.fault.TokenFault.TheVariants as faults
use Rattle.token_grammar.specs.Grammar.{is}
use Rattle.token_grammar.proofs.Good.{nothing, Good}
use Rattle.token_grammar.proofs.Leaves.{good_token}
use Rattle.token_grammar.proofs.Allowed.{good_allowed}
use Rattle.token_grammar.proofs.Fine.{Fine, fine_token, fine_give, fine_then, good_then, fine_either, good_as, fine_as}
use Rattle.chart_tree.specs.declared.state.CompText.TheVariants as comps
use Rattle.chart_tree.specs.Trees.{StateOf, NoState}
use Rattle.chart_grammar.specs.Limits.{Limits, Counts, state_refused, after_state}
use Rattle.chart_grammar.specs.States.{values, counts_behind, StateGrammar, nothing_seen, no_items, sorted}
use Rattle.chart_grammar.specs.States.{state_with, comp_heads, comp, maybe_comp, state_body, state_over, no_state}
use Rattle.chart_grammar.specs.States.{state, at_begin, chart_with, chart}
use Rattle.chart_grammar.proofs.WordLaws.{fine_name}
use Rattle.chart_grammar.proofs.ItemLaws.{fine_items, fine_chart_items}

pub fine_comp : Fine comp comp_heads false nothing
unfolding comp
fine_comp =
    let one = fine_then (fine_token kinds.Or) (λ _. fine_give comps.Or) refl in
    let other = fine_then (fine_token kinds.And) (λ _. fine_give comps.And) refl in
    fine_as comp_heads nothing (fine_either (is kinds.Or) one.good other refl refl) refl refl

pub fine_maybe_comp : Fine maybe_comp comp_heads true comp_heads
unfolding maybe_comp
fine_maybe_comp =
    fine_as comp_heads comp_heads (fine_either comp_heads fine_comp.good (fine_give comps.None) refl refl) refl refl

module _ (l : Limits) {state : StateGrammar} (a : (n : Counts) → Good (state n) (is kinds.State) false nothing) where
  pub fine_state_body : (n : Counts) → Fine (state_body l state n) (is kinds.Name) false nothing
  unfolding state_body
  fine_state_body n =
      fine_as (is kinds.Name) nothing
      (fine_then fine_name (λ name.
      fine_then fine_maybe_comp (λ comp.
      fine_then (fine_token kinds.OpenBrace) (λ _.
      fine_then (fine_items l a (nothing_seen n)) (λ found.
      fine_then (fine_token kinds.CloseBrace) (λ _.
      fine_give (record {
        value = state_with
            (sorted name comp (values found));
        counts = counts_behind n found;
      })) refl) refl) refl) refl) refl)
      refl refl

  pub good_state_over : (n : Counts) → Good (state_over l state n) (is kinds.State) false nothing
  unfolding state_over
  good_state_over n =
      good_as (is kinds.State) nothing
      (good_then (good_allowed (is kinds.State) (λ t. state_refused l n) (good_token kinds.State))
      (λ _. fine_state_body (after_state n)) refl)
      refl refl

pub good_no_state : (n : Counts) → Good (no_state n) (is kinds.State) false nothing
unfolding no_state
good_no_state n =
    good_as (is kinds.State) nothing
    (good_then (good_allowed (is kinds.State) (λ t. Some faults.NestTooDeep) (good_token kinds.State)) (λ _.
    fine_then fine_name (λ name.
    fine_give (record { value = StateOf (no_items name comps.None).parts NoState; counts = n })) refl) refl) refl refl

pub good_state : (l : Limits) (d : ℕ) (n : Counts) → Good (state l d n) (is kinds.State) false nothing
unfolding state
good_state l zero n = good_no_state n
good_state l (suc d) n = good_state_over l (good_state l d) n

pub fine_chart : (l : Limits) → Fine (chart l) (is kinds.Chart) false nothing
unfolding chart
fine_chart l =
    fine_as (is kinds.Chart) nothing
    (fine_then (fine_token kinds.Chart) (λ _.
    fine_then fine_name (λ name.
    fine_then fine_maybe_comp (λ comp.
    fine_then (fine_token kinds.OpenBrace) (λ _.
    fine_then (fine_chart_items l (good_state l l.depth) (nothing_seen at_begin)) (λ found.
    fine_then (fine_token kinds.CloseBrace) (λ _.
    fine_give (chart_with (sorted name comp (values found)))) refl) refl) refl) refl) refl) refl) refl refl
