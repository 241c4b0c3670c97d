use Rattle.std.proofs.Common.{◌≡◌, ◌++◌, ◌∷◌, [], true, false, sym, ◌∙◌, ap, arith}
use Rattle.std.proofs.lemmas.List.{map_push}
use Rattle.std.proofs.lemmas.Result.{err_from_is_err_and}
use Rattle.token_grammar.specs.Token.{lexemes}
use Rattle.token_grammar.specs.Grammar.{heads}
use Rattle.token_grammar.proofs.Loop.{from_goes_on, from_fails, from_ends, fewer}
use Rattle.statechart_tree.specs.Views.{stmt_of, block_of}
use Rattle.chart_grammar.specs.Limits.{usual}
use Rattle.chart_grammar.specs.Transitions.{stmt_heads}
use Rattle.statechart_grammar.specs.Transitions.{Before, after_stmt, next_stmt, stmts}
use Rattle.statechart_grammar.proofs.TransitionLaws.{good_next_stmt}
use Rattle.statechart_tokens.specs.Counts.{counts_of}
use Rattle.statechart_statements.proofs.BlockLemmas.{few_stmts, one_more_stmt}
use Rattle.statechart_statements.proofs.blocks.stmts.Goals as goal

pub returns-in_err-item-clause-read : goal.returns-in_err-item-clause-read
unfolding stmts
returns-in_err-item-clause-read c =
    let p = err_from_is_err_and c.from_residual.result c.from_residual.ensures.1 in
    let here : heads stmt_heads (lexemes c.items.reader.rest.now) ≡ true =
    sym c.is_at_one_of.ensures ∙ c.items-test.true in
    rw (p.1, p.2)
    (from_fails (λ (b : Before). stmt_heads) (next_stmt usual) (λ b x. after_stmt b)
    (good_next_stmt usual) c.in_err-item.field-0.0
    (record { statements = c.items.before; counts = counts_of c.items.reader.counts })
    (block_of c.items.found.items)
    (lexemes c.items.reader.rest.now) _ _ here c.in_err-item.ensures.read c.items.invariant.so_far)

pub items-smaller : goal.items-smaller
items-smaller c =
    fewer (good_next_stmt usual (record { statements = c.items.before; counts = counts_of c.items.reader.counts }))
    c.items.reader.rest.now c.next_stmt.new.reader.rest.now _ c.in_ok-item.ensures.read

pub returns-clause-read : goal.returns-clause-read
unfolding stmts
returns-clause-read c =
    let none : heads stmt_heads (lexemes c.items.reader.rest.now) ≡ false =
    sym c.is_at_one_of.ensures ∙ c.items-test.false in
    from_ends (λ (b : Before). stmt_heads) (next_stmt usual) (λ b x. after_stmt b) (good_next_stmt usual)
    (record { statements = c.items.before; counts = counts_of c.items.reader.counts })
    (block_of c.items.found.items) (lexemes c.items.reader.rest.now) _ none c.items.invariant.so_far

pub overflow_add-before : goal.overflow_add-before
overflow_add-before c =
    let here : heads stmt_heads (lexemes c.items.reader.rest.now) ≡ true =
    sym c.is_at_one_of.ensures ∙ c.items-test.true in
    let few = few_stmts (record { statements = c.items.before; counts = counts_of c.items.reader.counts })
    (lexemes c.items.reader.rest.now) _ _ here
    c.in_ok-item.ensures.read in
    omega (arith, few.0)

pub overflow_add-reader : goal.overflow_add-reader
overflow_add-reader c =
    let here : heads stmt_heads (lexemes c.items.reader.rest.now) ≡ true =
    sym c.is_at_one_of.ensures ∙ c.items-test.true in
    let few = few_stmts (record { statements = c.items.before; counts = counts_of c.items.reader.counts })
    (lexemes c.items.reader.rest.now) _ _ here
    c.in_ok-item.ensures.read in
    let same : c.next_stmt.new.reader.counts.items ≡ c.items.reader.counts.items =
    ap (λ n. n.items) c.in_ok-item.ensures.counts in
    omega (arith, few.1, same)

pub items-preserved : goal.items-preserved
unfolding stmts
items-preserved c =
    let here : heads stmt_heads (lexemes c.items.reader.rest.now) ≡ true =
    sym c.is_at_one_of.ensures ∙ c.items-test.true in
    let found : block_of c.push.new.self.items ≡ block_of c.items.found.items ++ stmt_of c.in_ok-item.item ∷ [] =
    rw c.in_ok-push.ensures.items (map_push _ c.items.found.items c.in_ok-item.item) in
    let kept : c.next_stmt.new.reader.counts ≡ c.items.reader.counts = c.in_ok-item.ensures.counts in
    record {
      counts = rw found (one_more_stmt _ (counts_of c.next_stmt.new.reader.counts) _ (stmt_of c.in_ok-item.item)
          (ap counts_of kept ∙ c.items.invariant.counts));
      so_far = rw (found, kept)
          (from_goes_on (λ (b : Before). stmt_heads) (next_stmt usual) (λ b x. after_stmt b) (good_next_stmt usual)
          (record { statements = c.items.before; counts = counts_of c.items.reader.counts })
          (block_of c.items.found.items)
          (lexemes c.items.reader.rest.now) _ _ _ here c.in_ok-item.ensures.read c.items.invariant.so_far);
    }
