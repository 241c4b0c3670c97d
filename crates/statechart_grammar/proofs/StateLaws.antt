-- States and statecharts read as they spell.
-- `fine_x` says of the production x that it is LL(1): with its FIRST set, whether it is nullable, and the kinds that
-- may go on with what is read, which its FOLLOW must not have. `good_x` says so of one of which limits may leave no
-- spelling.
use Rattle.std.proofs.Common.{ℕ, zero, suc, true, false, Some, refl}
use Rattle.token_grammar.specs.declared.token.Kind.TheVariants as kinds
use Rattle.token_grammar.specs.declared.fault.TokenFault.TheVariants as faults
use Rattle.token_grammar.specs.Grammar.{is}
use Rattle.token_grammar.proofs.Good.{nothing, Good}
use Rattle.token_grammar.proofs.Leaves.{good_token}
use Rattle.token_grammar.proofs.Allowed.{good_allowed}
use Rattle.token_grammar.proofs.Fine.{Fine, fine_token, fine_give, fine_then, good_then, good_as, fine_as}
use Rattle.chart_tree.specs.declared.state.CompText.TheVariants as comps
use Rattle.chart_grammar.specs.Limits.{Limits, Counts, state_refused, after_state}
use Rattle.chart_grammar.specs.States.{values, counts_behind, at_begin}
use Rattle.chart_grammar.proofs.WordLaws.{fine_name}
use Rattle.chart_grammar.proofs.StateLaws.{fine_maybe_comp}
use Rattle.statechart_tree.specs.Trees.{StateOf, NoState}
use Rattle.statechart_grammar.specs.States.{StateGrammar, nothing_seen, no_items, sorted, state_with, state_body}
use Rattle.statechart_grammar.specs.States.{state_over, no_state, state, statechart_with, statechart}
use Rattle.statechart_grammar.proofs.WordLaws.{fine_first_word}
use Rattle.statechart_grammar.proofs.ItemLaws.{fine_items, fine_chart_items}

module _ (l : Limits) {state : StateGrammar} (a : (n : Counts) → Good (state n) (is kinds.State) false nothing) where
  pub fine_state_body : (n : Counts) → Fine (state_body l state n) (is kinds.Name) false nothing
  unfolding state_body
  fine_state_body n =
      fine_as (is kinds.Name) nothing
      (fine_then fine_name (λ name.
      fine_then fine_maybe_comp (λ comp.
      fine_then (fine_token kinds.OpenBrace) (λ _.
      fine_then (fine_items l a (nothing_seen false n)) (λ found.
      fine_then (fine_token kinds.CloseBrace) (λ _.
      fine_give (record {
        value = state_with (sorted name comp (values found));
        counts = counts_behind n found;
      })) refl) refl) refl) refl) refl)
      refl refl

  pub good_state_over : (n : Counts) → Good (state_over l state n) (is kinds.State) false nothing
  unfolding state_over
  good_state_over n =
      good_as (is kinds.State) nothing
      (good_then (good_allowed (is kinds.State) (λ t. state_refused l n) (good_token kinds.State))
      (λ _. fine_state_body (after_state n)) refl)
      refl refl

pub good_no_state : (n : Counts) → Good (no_state n) (is kinds.State) false nothing
unfolding no_state
good_no_state n =
    good_as (is kinds.State) nothing
    (good_then (good_allowed (is kinds.State) (λ t. Some faults.NestTooDeep) (good_token kinds.State)) (λ _.
    fine_then fine_name (λ name.
    fine_give (record { value = StateOf (no_items name comps.None).parts NoState; counts = n })) refl) refl) refl refl

pub good_state : (l : Limits) (d : ℕ) (n : Counts) → Good (state l d n) (is kinds.State) false nothing
unfolding state
good_state l zero n = good_no_state n
good_state l (suc d) n = good_state_over l (good_state l d) n

pub fine_statechart : (l : Limits) → Fine (statechart l) (is kinds.Tick) false nothing
unfolding statechart
fine_statechart l =
    fine_as (is kinds.Tick) nothing
    (fine_then fine_first_word (λ _.
    fine_then fine_name (λ name.
    fine_then fine_maybe_comp (λ comp.
    fine_then (fine_token kinds.OpenBrace) (λ _.
    fine_then (fine_chart_items l (good_state l l.depth) (nothing_seen true at_begin)) (λ found.
    fine_then (fine_token kinds.CloseBrace) (λ _.
    fine_give (statechart_with (sorted name comp (values found)))) refl) refl) refl) refl) refl) refl) refl refl
