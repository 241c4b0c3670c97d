use Rattle.std.proofs.Common.{◌≡◌, ◌+◌, ◌*◌, length, map}
use Rattle.token_grammar.specs.Token.{lexemes}
use Rattle.statechart_tree.specs.Views.{expr_of}
use Rattle.chart_grammar.specs.Limits.{usual}
use Rattle.statechart_grammar.specs.Expressions.{tails, chain, unary, some_arguments}
use Rattle.statechart_grammar.proofs.ExpressionLaws.{fine_unary}
use Rattle.statechart_tokens.specs.Groups.{set_of}
use Rattle.statechart_operands.specs.Operands.{operand_of, group_of, below}
use Rattle.statechart_operands.proofs.ChainLoop.{resumed}
use Rattle.statechart_operands.proofs.ArgumentLoop.{argued, others}
use Rattle.statechart_operands.proofs.Ranks.{rank}
use Rattle.statechart_operands.proofs.expressions.+expr.Given as goal

abbrev pub decreases-chain : goal.decreases-chain
decreases-chain l = 32 * l.depth + rank l.level + 2

abbrev pub decreases-tail : goal.decreases-tail
decreases-tail l = 32 * l.depth + rank l.level + 1

abbrev pub decreases-operand : goal.decreases-operand
decreases-operand l = 32 * l.depth + rank l.level

abbrev pub decreases-comparison : goal.decreases-comparison
decreases-comparison l = 32 * l.depth + 11

abbrev pub decreases-unary : goal.decreases-unary
decreases-unary l = 32 * l.depth + 1

abbrev pub decreases-nesting : goal.decreases-nesting
decreases-nesting l = 32 * l.depth + 30

abbrev pub decreases-signed : goal.decreases-signed
decreases-signed l = 32 * l.depth + 18

abbrev pub decreases-parens : goal.decreases-parens
decreases-parens l = 32 * l.depth + 18

abbrev pub decreases-next_argument : goal.decreases-next_argument
decreases-next_argument l = 32 * l.depth + 18

abbrev pub decreases-some_arguments : goal.decreases-some_arguments
decreases-some_arguments l = 32 * l.depth + 19

abbrev pub decreases-arguments : goal.decreases-arguments
decreases-arguments l = 32 * l.depth + 20

abbrev pub decreases-call : goal.decreases-call
decreases-call l = 32 * l.depth + 21

abbrev pub decreases-named : goal.decreases-named
decreases-named l = 32 * l.depth + 22

abbrev pub decreases-timed : goal.decreases-timed
decreases-timed l = 32 * l.depth + 18

abbrev pub decreases-temporal : goal.decreases-temporal
decreases-temporal l = 32 * l.depth + 19

abbrev pub invariant-chain-operators : goal.invariant-chain-operators
invariant-chain-operators l = record {
  counts : l.reader.counts ≡ l.fn.reader.counts;
  so_far : resumed (operand_of l.left)
      ((tails usual (set_of (group_of l.level)) (below l.level (unary usual l.depth)) l.left.operators).reads
      (lexemes l.reader.rest.now))
      ≡ (chain usual (set_of (group_of l.level)) (below l.level (unary usual l.depth)) l.before).reads
      (lexemes l.fn.reader.rest.now);
}

abbrev pub decreases-chain-operators : goal.decreases-chain-operators
decreases-chain-operators l = length l.reader.rest.now

abbrev pub invariant-some_arguments-arguments : goal.invariant-some_arguments-arguments
invariant-some_arguments-arguments l = record {
  counts : l.reader.counts ≡ l.fn.reader.counts;
  so_far : argued (map expr_of l.exprs.items) l.operators
      ((others usual (fine_unary usual l.depth) l.operators).reads (lexemes l.reader.rest.now))
      ≡ (some_arguments usual (unary usual l.depth) l.before).reads (lexemes l.fn.reader.rest.now);
}

abbrev pub decreases-some_arguments-arguments : goal.decreases-some_arguments-arguments
decreases-some_arguments-arguments l = length l.reader.rest.now
