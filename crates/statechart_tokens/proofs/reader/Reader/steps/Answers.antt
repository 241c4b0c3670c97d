use Rattle.std.proofs.Common.{◌≡◌, true, false, sym, ◌∙◌}
use Rattle.std.proofs.lemmas.Result.{err_from_is_err_and}
use Rattle.token_grammar.specs.declared.token.Kind.TheVariants as kinds
use Rattle.token_grammar.specs.Token.{lexemes}
use Rattle.token_grammar.specs.Grammar.{heads, is}
use Rattle.token_grammar.proofs.Loop.{goes_on, fails, ends, fewer}
use Rattle.chart_grammar.specs.Words.{step}
use Rattle.chart_grammar.proofs.WordLaws.{fine_step}
use Rattle.statechart_tokens.proofs.reader.Reader.steps.Goals as goal

pub returns-in_err-item-clause-read : goal.returns-in_err-item-clause-read
returns-in_err-item-clause-read c =
    let p = err_from_is_err_and c.from_residual.result c.from_residual.ensures.1 in
    let here : heads (is kinds.Slash) (lexemes c.items.self.rest.now) ≡ true =
    sym c.is_at.ensures ∙ c.items-test.true in
    rw (p.1, p.2)
    (fails (is kinds.Slash) step fine_step.good c.in_err-item.field-0.0
    c.items.found.items (lexemes c.items.self.rest.now) _ _ here c.in_err-item.ensures.read c.items.invariant.so_far)

pub items-smaller : goal.items-smaller
items-smaller c = fewer fine_step.good c.items.self.rest.now c.step.new.self.rest.now _ c.in_ok-item.ensures.read

pub items-preserved : goal.items-preserved
items-preserved c =
    let here : heads (is kinds.Slash) (lexemes c.items.self.rest.now) ≡ true =
    sym c.is_at.ensures ∙ c.items-test.true in
    record {
      so_far = rw c.in_ok-push.ensures.items
          (goes_on (is kinds.Slash) step fine_step.good
          c.items.found.items
          (lexemes c.items.self.rest.now) _ _ _ here c.in_ok-item.ensures.read c.items.invariant.so_far);
      counts = c.step.ensures.counts ∙ c.items.invariant.counts;
    }

pub returns-clause-read : goal.returns-clause-read
returns-clause-read c =
    let none : heads (is kinds.Slash) (lexemes c.items.self.rest.now) ≡ false =
    sym c.is_at.ensures ∙ c.items-test.false in
    ends (is kinds.Slash) step fine_step.good c.items.found.items
    (lexemes c.items.self.rest.now) _ none c.items.invariant.so_far
