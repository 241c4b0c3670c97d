use Rattle.std.proofs.Common.{◌≡◌, true, false, map, sym, ◌∙◌}
use Rattle.std.proofs.lemmas.List.{map_push}
use Rattle.std.proofs.lemmas.Result.{err_from_is_err_and}
use Rattle.token_grammar.specs.declared.token.Kind.TheVariants as kinds
use Rattle.token_grammar.specs.Token.{lexemes}
use Rattle.token_grammar.specs.Grammar.{heads, is}
use Rattle.token_grammar.proofs.Loop.{fewer}
use Rattle.statechart_tree.specs.Views.{word_of}
use Rattle.chart_grammar.specs.Limits.{usual}
use Rattle.statechart_grammar.specs.States.{Done, after_word, another_word}
use Rattle.statechart_grammar.proofs.ActionLaws.{good_another_word}
use Rattle.statechart_tokens.proofs.FirstLoop.{kept_from_goes_on, kept_from_stops, kept_from_ends}
use Rattle.statechart_statements.specs.Words.{done_of}
use Rattle.statechart_statements.proofs.WordLoop.{in_order, words_begin}
use Rattle.statechart_statements.proofs.actions.words.Goals as goal

pub items-init : goal.items-init
items-init c = record {
  counts = cc;
  so_far = rw (c.in_ok-push.ensures.items, c.new-found.ensures.items, c.after-now.ensures)
      (words_begin (done_of c.args.done) (word_of c.args.first) (lexemes c.args.reader.now.rest.now));
}

pub returns-in_err-item-clause-read : goal.returns-in_err-item-clause-read
returns-in_err-item-clause-read c =
    let p = err_from_is_err_and c.from_residual-in_err-item.result c.from_residual-in_err-item.ensures.1 in
    let here : heads (is kinds.Comma) (lexemes c.items.reader.rest.now) ≡ true =
    sym c.is_at.ensures ∙ c.items-test.true in
    rw (p.1, p.2)
    (kept_from_stops in_order (λ (z : Done). is kinds.Comma) (another_word usual) after_word (good_another_word usual)
    c.in_err-item.field-0.0 (done_of c.items.now) (map word_of c.items.found.items)
    (lexemes c.items.reader.rest.now) _ _ here c.in_err-item.ensures.read c.items.invariant.so_far)

pub items-smaller : goal.items-smaller
items-smaller c =
    fewer (good_another_word usual (done_of c.items.now)) c.items.reader.rest.now c.another_word.new.reader.rest.now _
    c.in_ok-item.ensures.read

pub items-preserved : goal.items-preserved
items-preserved c =
    let here : heads (is kinds.Comma) (lexemes c.items.reader.rest.now) ≡ true =
    sym c.is_at.ensures ∙ c.items-test.true in
    record {
      counts = c.in_ok-item.ensures.counts ∙ c.items.invariant.counts;
      so_far = rw (c.in_ok-push-2.ensures.items, map_push, c.after-now-in-items.ensures)
          (kept_from_goes_on in_order (λ (z : Done). is kinds.Comma) (another_word usual) after_word
          (good_another_word usual) (done_of c.items.now) (map word_of c.items.found.items)
          (lexemes c.items.reader.rest.now) _ _ _ here c.in_ok-item.ensures.read c.items.invariant.so_far);
    }

pub returns-clause-read : goal.returns-clause-read
returns-clause-read c =
    let none : heads (is kinds.Comma) (lexemes c.items.reader.rest.now) ≡ false =
    sym c.is_at.ensures ∙ c.items-test.false in
    kept_from_ends in_order (λ (z : Done). is kinds.Comma) (another_word usual) after_word (good_another_word usual)
    (done_of c.items.now) (map word_of c.items.found.items) (lexemes c.items.reader.rest.now) _ none
    c.items.invariant.so_far
