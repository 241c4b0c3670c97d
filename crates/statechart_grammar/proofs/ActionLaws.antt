-- Junctions and actions read as they spell.
-- `fine_x` says of the production x that it is LL(1): with its FIRST set, whether it is nullable, and the kinds that
-- may go on with what is read, which its FOLLOW must not have. `good_x` says so of one of which limits may leave no
-- spelling.
use Rattle.std.proofs.Common.{◌≡◌, true, false, List, [], ◌∷◌, None, inr, refl, ◌||◌}
use Rattle.token_grammar.specs.declared.token.Kind.TheVariants as kinds
use Rattle.token_grammar.specs.declared.token.Span.{Span}
use Rattle.token_grammar.specs.Token.{Lexeme}
use Rattle.token_grammar.specs.Grammar.{is, first_refused}
use Rattle.token_grammar.proofs.Tokens.{kind_eq-true}
use Rattle.token_grammar.proofs.Good.{Set, nothing, Begins, Good}
use Rattle.token_grammar.proofs.Leaves.{good_token}
use Rattle.token_grammar.proofs.Allowed.{good_allowed}
use Rattle.token_grammar.proofs.Fine.{Fine, fine_token, fine_one_of, fine_give, fine_then, good_then, fine_either}
use Rattle.token_grammar.proofs.Fine.{fine_many_from, good_as, fine_as}
use Rattle.chart_grammar.specs.Limits.{Limits, Counts, junction_refused, after_junction}
use Rattle.chart_grammar.specs.States.{values, counts_behind, unexpected}
use Rattle.chart_grammar.proofs.SetLaws.{good_clean, none_shared, good_beginning}
use Rattle.chart_grammar.proofs.WordLaws.{fine_name}
use Rattle.statechart_tree.specs.Trees.{ActionWord, OnCases}
use Rattle.statechart_grammar.specs.Transitions.{after_stmts, case_heads, trans_heads}
use Rattle.statechart_grammar.specs.States.{junction_list, junction, Done, after_word, plain_heads, action_word, plain_word}
use Rattle.statechart_grammar.specs.States.{cases_word, on_word, any_word, action_heads, next_word, another_word}
use Rattle.statechart_grammar.specs.States.{action_rest}
use Rattle.statechart_grammar.proofs.WordLaws.{fine_on_word}
use Rattle.statechart_grammar.proofs.TransitionLaws.{fine_block, when_more, fine_when, good_junction_trans}

-- ---- junctions

pub fine_junction_list : (l : Limits) (n : Counts) → Fine (junction_list l n) trans_heads true trans_heads
unfolding junction_list
fine_junction_list l n =
    fine_as trans_heads trans_heads
    (fine_many_from (λ z. trans_heads) (λ z t. t.counts) trans_heads n (good_junction_trans l) (λ z. refl)
    (λ z. refl) refl) refl refl

pub good_junction : (l : Limits) (n : Counts) → Good (junction l n) (is kinds.Junction) false nothing
unfolding junction
good_junction l n =
    good_as (is kinds.Junction) nothing
    (good_then (good_allowed (is kinds.Junction) (λ t. junction_refused l n) (good_token kinds.Junction)) (λ _.
    fine_then fine_name (λ name.
    fine_then (fine_token kinds.OpenBrace) (λ _.
    fine_then (fine_junction_list l (after_junction n)) (λ list.
    fine_then (fine_token kinds.CloseBrace) (λ _.
    fine_give (record {
      value = record { name = name; list = values list };
      counts = counts_behind (after_junction n) list;
    })) refl) refl) refl) refl) refl) refl refl

-- ---- actions

pub fine_plain_word : Fine plain_word plain_heads false nothing
unfolding plain_word
fine_plain_word =
    fine_as plain_heads nothing
    (fine_then (fine_one_of plain_heads kinds.Entry refl) (λ t. fine_give (action_word t.kind)) refl) refl refl

pub fine_cases_word : (l : Limits) (at : Span) → Fine (cases_word l at) case_heads false when_more
unfolding cases_word
fine_cases_word l at =
    fine_as case_heads when_more (fine_then (fine_when l) (λ cases. fine_give (OnCases cases at)) refl) refl refl

pub fine_an_on_word : (l : Limits) → Fine (on_word l) (is kinds.Tick) false when_more
unfolding on_word
fine_an_on_word l =
    fine_as (is kinds.Tick) when_more (fine_then fine_on_word (λ t. fine_cases_word l t.at) refl) refl refl

-- what begins an action
abbrev pub any_heads : Set
any_heads k = plain_heads k || is kinds.Tick k

pub fine_any_word : (l : Limits) → Fine (any_word l) any_heads false when_more
unfolding any_word
fine_any_word l =
    fine_as any_heads when_more (fine_either plain_heads fine_plain_word.good (fine_an_on_word l) refl refl) refl refl

-- the word `on` may stand after any actions
starts_on : (d : Done) (u : List Lexeme) → Begins (is kinds.Tick) false u
    → first_refused (λ k. true) (unexpected (action_heads d)) u ≡ None
starts_on d [] begins = absurd cc
starts_on d (t ∷ u) begins = let e : t.kind ≡ kinds.Tick = kind_eq-true t.kind kinds.Tick begins in rw e refl

pub fine_next_word : (l : Limits) (d : Done) → Fine (next_word l d) (action_heads d) false when_more
unfolding any_word
fine_next_word l d =
    let on = fine_an_on_word l in
    record {
      good = good_beginning (action_heads d) (fine_any_word l).good;
      sample = record {
        tokens = on.sample.tokens;
        value = on.sample.value;
        spelled =
            (starts_on d on.sample.tokens (on.good.begins on.sample.tokens on.sample.value on.sample.spelled), inr on.sample.spelled);
      };
    }

pub good_another_word : (l : Limits) (d : Done) → Good (another_word l d) (is kinds.Comma) false when_more
unfolding another_word
good_another_word l d =
    good_as (is kinds.Comma) when_more
    (good_clean (action_heads d)
    (fine_then (fine_token kinds.Comma) (λ _. fine_next_word l d) (none_shared (action_heads d))).good) refl refl

-- what stands behind the first word of an action begins so
abbrev pub rest_heads : Set
rest_heads k = is kinds.Comma k || is kinds.OpenBrace k

pub fine_action_rest : (l : Limits) (n : Counts) (d : Done) (first : ActionWord)
    → Fine (action_rest l n d first) rest_heads false nothing
unfolding action_rest
fine_action_rest l n d first =
    fine_as rest_heads nothing
    (fine_then
    (fine_many_from (λ z. is kinds.Comma) after_word (is kinds.Comma) (after_word d first) (good_another_word l)
    (λ z. refl) (λ z. refl) refl) (λ others.
    fine_then (fine_block l n) (λ found.
    fine_give (record {
      value = record { words = first ∷ others; block = found };
      counts = after_stmts n found;
    })) refl) refl) refl refl
