use Rattle.std.proofs.Common.{◌≡◌, true, false, sym, ap, ◌∙◌, arith}
use Rattle.std.proofs.lemmas.Result.{err_from_is_err_and}
use Rattle.token_grammar.specs.Token.{lexemes}
use Rattle.token_grammar.specs.Grammar.{heads}
use Rattle.token_grammar.proofs.Loop.{fewer}
use Rattle.chart_grammar.specs.Limits.{usual}
use Rattle.chart_grammar.specs.Expressions.{nested_heads}
use Rattle.chart_grammar.proofs.ChainLaws.{good_tail}
use Rattle.chart_grammar.proofs.ChainLoop.{chain_begins, chain_fails_first, chain_fails, chain_ends}
use Rattle.chart_grammar.proofs.ExpressionLaws.{fine_unary}
use Rattle.chart_grammar.proofs.ReadingLaws.{unary_plain, unary_stop, unary_nested}
use Rattle.chart_reader.specs.Groups.{set_of}
use Rattle.chart_operands.specs.Operands.{operand_of}
use Rattle.chart_reader.specs.Operands.{group_of}
use Rattle.chart_reader.proofs.OperandLemmas.{fine_below, chain_on}
use Rattle.chart_reader.proofs.reader.Reader.+expr.Goals as goal

pub chain-returns-in_err-left-clause-read : goal.chain-returns-in_err-left-clause-read
chain-returns-in_err-left-clause-read t c =
    let p = err_from_is_err_and c.from_residual.result c.from_residual.ensures.1 in
    rw (p.1, p.2)
    (chain_fails_first usual (set_of (group_of c.args.level))
    (fine_below c.args.level (fine_unary usual c.args.depth)) c.args.before
    (lexemes c.args.self.now.rest.now) c.in_err-left.field-0.0 _ c.in_err-left.ensures.read)

pub chain-operators-init : goal.chain-operators-init
chain-operators-init t c = record {
  counts = c.in_ok-left.ensures.counts;
  so_far = chain_begins usual (set_of (group_of c.args.level))
      (fine_below c.args.level (fine_unary usual c.args.depth)) c.args.before
      (lexemes c.args.self.now.rest.now) _ _ c.in_ok-left.ensures.read;
}

pub chain-returns-in_err-tail-clause-read : goal.chain-returns-in_err-tail-clause-read
chain-returns-in_err-tail-clause-read t c =
    let p = err_from_is_err_and c.from_residual-in_err-tail.result c.from_residual-in_err-tail.ensures.1 in
    let group : c.operators-in-operators.result ≡ group_of c.args.level = c.operators-in-operators.ensures in
    let here : heads (set_of (group_of c.args.level)) (lexemes c.operators.self.rest.now) ≡ true =
    ap (λ g. heads (set_of g) (lexemes c.operators.self.rest.now)) (sym group) ∙ sym c.is_at_one_of.ensures
    ∙ c.operators-test.true in
    rw (p.1, p.2)
    (chain_fails usual (set_of (group_of c.args.level)) (fine_below c.args.level (fine_unary usual c.args.depth))
    (operand_of c.operators.left)
    c.in_err-tail.field-0.0
    (lexemes c.operators.self.rest.now) _ _ here c.in_err-tail.ensures.read c.operators.invariant.so_far)

pub chain-operators-smaller : goal.chain-operators-smaller
chain-operators-smaller t c =
    fewer (good_tail usual (set_of (group_of c.args.level))
    (fine_below c.args.level (fine_unary usual c.args.depth)) c.operators.left.operators)
    c.operators.self.rest.now c.tail.new.self.rest.now _ c.in_ok-tail.ensures.read

pub chain-operators-preserved : goal.chain-operators-preserved
chain-operators-preserved t c =
    let group : c.operators-in-operators.result ≡ group_of c.args.level = c.operators-in-operators.ensures in
    let here : heads (set_of (group_of c.args.level)) (lexemes c.operators.self.rest.now) ≡ true =
    ap (λ g. heads (set_of g) (lexemes c.operators.self.rest.now)) (sym group) ∙ sym c.is_at_one_of.ensures
    ∙ c.operators-test.true in
    record {
      counts = c.in_ok-tail.ensures.counts ∙ c.operators.invariant.counts;
      so_far = chain_on c.args.level (fine_unary usual c.args.depth) (operand_of c.operators.left)
          (operand_of c.in_ok-left-2.left)
          (lexemes c.operators.self.rest.now) _ _ _ c.in_ok-left-2.ensures here c.in_ok-tail.ensures.read c.operators.invariant.so_far;
    }

pub chain-returns-clause-read : goal.chain-returns-clause-read
chain-returns-clause-read t c =
    let group : c.operators-in-operators.result ≡ group_of c.args.level = c.operators-in-operators.ensures in
    let none : heads (set_of (group_of c.args.level)) (lexemes c.operators.self.rest.now) ≡ false =
    ap (λ g. heads (set_of g) (lexemes c.operators.self.rest.now)) (sym group) ∙ sym c.is_at_one_of.ensures
    ∙ c.operators-test.false in
    chain_ends usual (set_of (group_of c.args.level)) (fine_below c.args.level (fine_unary usual c.args.depth))
    (operand_of c.operators.left)
    (lexemes c.operators.self.rest.now) _ none c.operators.invariant.so_far

pub unary-returns-then-not-is_at_one_of-clause-read : goal.unary-returns-then-not-is_at_one_of-clause-read
unary-returns-then-not-is_at_one_of-clause-read t c =
    let here : heads nested_heads (lexemes c.args.self.now.rest.now) ≡ false =
    sym c.is_at_one_of.ensures ∙ c.if-not-is_at_one_of.true in
    rw (unary_plain usual c.args.depth c.args.before (lexemes c.args.self.now.rest.now) here) c.plain.ensures.read

pub unary-returns-then-depth-eq0-clause-read : goal.unary-returns-then-depth-eq0-clause-read
unary-returns-then-depth-eq0-clause-read t c =
    let here : heads nested_heads (lexemes c.args.self.now.rest.now) ≡ true =
    sym c.is_at_one_of.ensures ∙ c.if-not-is_at_one_of.false in
    unary_stop usual c.args.depth c.args.before (lexemes c.args.self.now.rest.now) here c.if-depth-eq0.true

pub unary-returns-clause-read : goal.unary-returns-clause-read
unary-returns-clause-read t c =
    let here : heads nested_heads (lexemes c.args.self.now.rest.now) ≡ true =
    sym c.is_at_one_of.ensures ∙ c.if-not-is_at_one_of.false in
    rw (unary_nested usual c.args.depth c.args.before (lexemes c.args.self.now.rest.now) here
    (omega arith)) c.nested.ensures.read
