use Rattle.std.proofs.Common.{◌≡◌, true, false, map, sym, ◌∙◌}
use Rattle.std.proofs.lemmas.List.{map_push}
use Rattle.std.proofs.lemmas.Result.{err_from_is_err_and}
use Rattle.token_grammar.specs.declared.token.Kind.TheVariants as kinds
use Rattle.token_grammar.specs.Token.{lexemes}
use Rattle.token_grammar.specs.Grammar.{heads, is}
use Rattle.token_grammar.proofs.Loop.{fewer}
use Rattle.statechart_tree.specs.Views.{case_of}
use Rattle.chart_grammar.specs.Limits.{usual}
use Rattle.statechart_grammar.specs.Transitions.{next_case}
use Rattle.statechart_grammar.proofs.TransitionLaws.{fine_next_case}
use Rattle.statechart_tokens.proofs.FirstLoop.{kept_goes_on, kept_stops, kept_ends}
use Rattle.statechart_statements.proofs.CaseLoop.{in_order, cases_begin, cases_fail_first}
use Rattle.statechart_statements.proofs.cases.cases.Goals as goal

pub returns-in_err-first-clause-read : goal.returns-in_err-first-clause-read
returns-in_err-first-clause-read c =
    let p = err_from_is_err_and c.from_residual.result c.from_residual.ensures.1 in
    rw (p.1, p.2)
    (cases_fail_first (lexemes c.args.reader.now.rest.now) c.in_err-first.field-0.0 _ c.in_err-first.ensures.read)

pub items-init : goal.items-init
items-init c = record {
  counts = c.in_ok-first.ensures.counts;
  so_far = rw (c.in_ok-push.ensures.items, c.new-found.ensures.items)
      (cases_begin (lexemes c.args.reader.now.rest.now) (case_of c.in_ok-first.first) _ c.in_ok-first.ensures.read);
}

pub returns-in_err-item-clause-read : goal.returns-in_err-item-clause-read
returns-in_err-item-clause-read c =
    let p = err_from_is_err_and c.from_residual-in_err-item.result c.from_residual-in_err-item.ensures.1 in
    let here : heads (is kinds.Comment) (lexemes c.items.reader.rest.now) ≡ true =
    sym c.is_at.ensures ∙ c.items-test.true in
    rw (p.1, p.2)
    (kept_stops in_order (is kinds.Comment) (next_case usual) (fine_next_case usual).good c.in_err-item.field-0.0
    (map case_of c.items.found.items) (lexemes c.items.reader.rest.now) _ _ here c.in_err-item.ensures.read
    c.items.invariant.so_far)

pub items-smaller : goal.items-smaller
items-smaller c =
    fewer (fine_next_case usual).good c.items.reader.rest.now c.next_case.new.reader.rest.now _
    c.in_ok-item.ensures.read

pub items-preserved : goal.items-preserved
items-preserved c =
    let here : heads (is kinds.Comment) (lexemes c.items.reader.rest.now) ≡ true =
    sym c.is_at.ensures ∙ c.items-test.true in
    record {
      counts = c.in_ok-item.ensures.counts ∙ c.items.invariant.counts;
      so_far = rw (c.in_ok-push-2.ensures.items, map_push)
          (kept_goes_on in_order (is kinds.Comment) (next_case usual) (fine_next_case usual).good
          (map case_of c.items.found.items) (lexemes c.items.reader.rest.now) _ _ _ here
          c.in_ok-item.ensures.read c.items.invariant.so_far);
    }

pub returns-clause-read : goal.returns-clause-read
returns-clause-read c =
    let none : heads (is kinds.Comment) (lexemes c.items.reader.rest.now) ≡ false =
    sym c.is_at.ensures ∙ c.items-test.false in
    kept_ends in_order (is kinds.Comment) (next_case usual) (fine_next_case usual).good
    (map case_of c.items.found.items) (lexemes c.items.reader.rest.now) _ none c.items.invariant.so_far
