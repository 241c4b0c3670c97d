use Rattle.std.proofs.Common.{◌≡◌, Some, true, false, refl, map, sym, ap, ◌∙◌, arith}
use Rattle.std.proofs.lemmas.List.{map_push}
use Rattle.std.proofs.lemmas.Result.{err_from_is_err_and}
use Rattle.token_grammar.specs.declared.token.Kind.TheVariants as kinds
use Rattle.token_grammar.specs.Token.{lexeme, lexemes}
use Rattle.token_grammar.specs.Grammar.{heads, is}
use Rattle.token_grammar.proofs.Loop.{fewer}
use Rattle.statechart_tree.specs.declared.expr.SourceExpr.TheVariants as exprs
use Rattle.statechart_tree.specs.Trees.{Call}
use Rattle.statechart_tree.specs.Views.{expr_of, row_of}
use Rattle.chart_grammar.specs.Limits.{usual}
use Rattle.statechart_grammar.specs.Expressions.{disjunction, unary}
use Rattle.statechart_grammar.specs.Words.{time_of}
use Rattle.statechart_lexer.specs.Words.{word_of}
use Rattle.statechart_grammar.proofs.ChainLaws.{good_tail}
use Rattle.statechart_grammar.proofs.ExpressionLaws.{fine_unary, fine_next_argument}
use Rattle.statechart_tokens.specs.Groups.{set_of}
use Rattle.statechart_operands.specs.Operands.{operand_of, arguments_of, group_of}
use Rattle.statechart_operands.proofs.ChainLoop.{chain_begins, chain_fails_first, chain_fails, chain_ends}
use Rattle.statechart_operands.proofs.ArgumentLoop.{arguments_begin, arguments_fail_first, arguments_go_on}
use Rattle.statechart_operands.proofs.ArgumentLoop.{arguments_fail, arguments_end}
use Rattle.statechart_operands.proofs.OperandLemmas.{fine_below, chain_on}
use Rattle.statechart_operands.proofs.CallLemmas.{call_seen, call_read}
use Rattle.statechart_operands.proofs.NestLemmas.{unary_deepest, unary_nesting, timed_room}
use Rattle.statechart_operands.proofs.expressions.+expr.Goals as goal

pub chain-returns-in_err-left-clause-read : goal.chain-returns-in_err-left-clause-read
chain-returns-in_err-left-clause-read t c =
    let p = err_from_is_err_and c.from_residual.result c.from_residual.ensures.1 in
    rw (p.1, p.2)
    (chain_fails_first usual (set_of (group_of c.args.level))
    (fine_below c.args.level (fine_unary usual c.args.depth)) c.args.before
    (lexemes c.args.reader.now.rest.now) c.in_err-left.field-0.0 _ c.in_err-left.ensures.read)

pub chain-operators-init : goal.chain-operators-init
chain-operators-init t c = record {
  counts = c.in_ok-left.ensures.counts;
  so_far = chain_begins usual (set_of (group_of c.args.level))
      (fine_below c.args.level (fine_unary usual c.args.depth)) c.args.before
      (lexemes c.args.reader.now.rest.now) _ _ c.in_ok-left.ensures.read;
}

pub chain-returns-in_err-tail-clause-read : goal.chain-returns-in_err-tail-clause-read
chain-returns-in_err-tail-clause-read t c =
    let p = err_from_is_err_and c.from_residual-in_err-tail.result c.from_residual-in_err-tail.ensures.1 in
    let group : c.operators-in-operators.result ≡ group_of c.args.level = c.operators-in-operators.ensures in
    let here : heads (set_of (group_of c.args.level)) (lexemes c.operators.reader.rest.now) ≡ true =
    ap (λ g. heads (set_of g) (lexemes c.operators.reader.rest.now)) (sym group) ∙ sym c.is_at_one_of.ensures
    ∙ c.operators-test.true in
    rw (p.1, p.2)
    (chain_fails usual (set_of (group_of c.args.level)) (fine_below c.args.level (fine_unary usual c.args.depth))
    (operand_of c.operators.left)
    c.in_err-tail.field-0.0
    (lexemes c.operators.reader.rest.now) _ _ here c.in_err-tail.ensures.read c.operators.invariant.so_far)

pub chain-operators-smaller : goal.chain-operators-smaller
chain-operators-smaller t c =
    fewer (good_tail usual (set_of (group_of c.args.level))
    (fine_below c.args.level (fine_unary usual c.args.depth)) c.operators.left.operators)
    c.operators.reader.rest.now c.tail.new.reader.rest.now _ c.in_ok-tail.ensures.read

pub chain-operators-preserved : goal.chain-operators-preserved
chain-operators-preserved t c =
    let group : c.operators-in-operators.result ≡ group_of c.args.level = c.operators-in-operators.ensures in
    let here : heads (set_of (group_of c.args.level)) (lexemes c.operators.reader.rest.now) ≡ true =
    ap (λ g. heads (set_of g) (lexemes c.operators.reader.rest.now)) (sym group) ∙ sym c.is_at_one_of.ensures
    ∙ c.operators-test.true in
    record {
      counts = c.in_ok-tail.ensures.counts ∙ c.operators.invariant.counts;
      so_far = chain_on c.args.level (fine_unary usual c.args.depth) (operand_of c.operators.left)
          (operand_of c.in_ok-left-2.left)
          (lexemes c.operators.reader.rest.now) _ _ _ c.in_ok-left-2.ensures here c.in_ok-tail.ensures.read
          c.operators.invariant.so_far;
    }

pub chain-returns-clause-read : goal.chain-returns-clause-read
chain-returns-clause-read t c =
    let group : c.operators-in-operators.result ≡ group_of c.args.level = c.operators-in-operators.ensures in
    let none : heads (set_of (group_of c.args.level)) (lexemes c.operators.reader.rest.now) ≡ false =
    ap (λ g. heads (set_of g) (lexemes c.operators.reader.rest.now)) (sym group) ∙ sym c.is_at_one_of.ensures
    ∙ c.operators-test.false in
    chain_ends usual (set_of (group_of c.args.level)) (fine_below c.args.level (fine_unary usual c.args.depth))
    (operand_of c.operators.left)
    (lexemes c.operators.reader.rest.now) _ none c.operators.invariant.so_far

pub unary-returns-then-depth-eq0-clause-read : goal.unary-returns-then-depth-eq0-clause-read
unary-returns-then-depth-eq0-clause-read t c =
    rw (unary_deepest usual c.args.depth c.args.before (lexemes c.args.reader.now.rest.now) c.if-depth-eq0.true)
    c.deepest.ensures.read

pub unary-returns-else-depth-eq0-clause-read : goal.unary-returns-else-depth-eq0-clause-read
unary-returns-else-depth-eq0-clause-read t c =
    rw (unary_nesting usual c.args.depth c.args.before (lexemes c.args.reader.now.rest.now) (omega arith))
    c.nesting.ensures.read

pub some_arguments-returns-in_err-first-clause-read : goal.some_arguments-returns-in_err-first-clause-read
unfolding disjunction
some_arguments-returns-in_err-first-clause-read t c =
    let p = err_from_is_err_and c.from_residual.result c.from_residual.ensures.1 in
    rw (p.1, p.2)
    (arguments_fail_first usual (fine_unary usual c.args.depth) c.args.before
    (lexemes c.args.reader.now.rest.now) c.in_err-first.field-0.0 _ c.in_err-first.ensures.read)

pub some_arguments-arguments-init : goal.some_arguments-arguments-init
unfolding disjunction
some_arguments-arguments-init t c = record {
  counts = c.in_ok-first.ensures.counts;
  so_far = rw (c.in_ok-push.ensures.items, c.new-exprs.ensures.items)
      (arguments_begin usual (fine_unary usual c.args.depth) c.args.before
      (lexemes c.args.reader.now.rest.now) (operand_of c.in_ok-first.first) _ c.in_ok-first.ensures.read);
}

pub some_arguments-returns-in_err-next-clause-read : goal.some_arguments-returns-in_err-next-clause-read
some_arguments-returns-in_err-next-clause-read t c =
    let p = err_from_is_err_and c.from_residual-in_err-next.result c.from_residual-in_err-next.ensures.1 in
    let here : heads (is kinds.Comma) (lexemes c.arguments.reader.rest.now) ≡ true =
    sym c.is_at.ensures ∙ c.arguments-test.true in
    rw (p.1, p.2)
    (arguments_fail usual (fine_unary usual c.args.depth) (map expr_of c.arguments.exprs.items) c.arguments.operators
    c.in_err-next.field-0.0 (lexemes c.arguments.reader.rest.now) _ _ here c.in_err-next.ensures.read
    c.arguments.invariant.so_far)

pub some_arguments-arguments-smaller : goal.some_arguments-arguments-smaller
some_arguments-arguments-smaller t c =
    fewer (fine_next_argument usual (fine_unary usual c.args.depth) c.arguments.operators).good
    c.arguments.reader.rest.now c.next_argument.new.reader.rest.now _ c.in_ok-next.ensures.read

pub some_arguments-arguments-preserved : goal.some_arguments-arguments-preserved
some_arguments-arguments-preserved t c =
    let here : heads (is kinds.Comma) (lexemes c.arguments.reader.rest.now) ≡ true =
    sym c.is_at.ensures ∙ c.arguments-test.true in
    record {
      counts = c.in_ok-next.ensures.counts ∙ c.arguments.invariant.counts;
      so_far = rw (c.in_ok-push-2.ensures.items, map_push)
          (arguments_go_on usual (fine_unary usual c.args.depth) (map expr_of c.arguments.exprs.items)
          c.arguments.operators (lexemes c.arguments.reader.rest.now) (operand_of c.in_ok-next.next) _ _ here
          c.in_ok-next.ensures.read c.arguments.invariant.so_far);
    }

pub some_arguments-returns-clause-read : goal.some_arguments-returns-clause-read
some_arguments-returns-clause-read t c =
    let none : heads (is kinds.Comma) (lexemes c.arguments.reader.rest.now) ≡ false =
    sym c.is_at.ensures ∙ c.arguments-test.false in
    arguments_end usual (fine_unary usual c.args.depth) (map expr_of c.arguments.exprs.items) c.arguments.operators
    (lexemes c.arguments.reader.rest.now) _ none c.arguments.invariant.so_far

pub call-returns-clause-read : goal.call-returns-clause-read
call-returns-clause-read t c =
    let value : operand_of (record {
      expr = exprs.Call c.args.name c.of.result;
      operators = c.in_ok-found.found.operators;
    }) ≡ record { expr = Call c.args.name (row_of (map expr_of c.in_ok-found.found.exprs.items)); operators = c.in_ok-found.found.operators } =
    rw (call_seen c.args.name c.of.result, c.of.ensures) refl in
    call_read (unary usual c.args.depth) c.args.name c.args.before (lexemes c.args.reader.now.rest.now) _ _ _ _
    (arguments_of c.in_ok-found.found) _ _ c.in_ok-operator.ensures.read c.in_ok-found.ensures.read value
    c.closed_by.ensures.read

pub temporal-overflow_add-before : goal.temporal-overflow_add-before
temporal-overflow_add-before t c =
    let is_time : time_of (word_of c.in_ok-token.token.text.now) ≡ Some c.in-Some.word = cc in
    let room = timed_room c.args.before c.temporal_refused-refused.result (lexemes c.args.reader.now.rest.now)
    (lexeme c.in_ok-token.token) _ c.in-Some.word c.temporal_refused-refused.ensures c.in_ok-token.ensures.read is_time in
    omega (arith, room)
