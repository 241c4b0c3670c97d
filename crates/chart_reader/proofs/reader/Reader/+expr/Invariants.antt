use Rattle.std.proofs.Common.{◌≡◌, ◌+◌, ◌*◌, length}
use Rattle.token_grammar.specs.Token.{lexemes}
use Rattle.chart_grammar.specs.Limits.{usual}
use Rattle.chart_grammar.specs.Expressions.{tails, chain, unary}
use Rattle.chart_grammar.proofs.ChainLoop.{resumed}
use Rattle.chart_reader.specs.Groups.{set_of}
use Rattle.chart_operands.specs.Operands.{operand_of}
use Rattle.chart_reader.specs.Operands.{group_of, below}
use Rattle.chart_reader.proofs.Ranks.{rank}
use Rattle.chart_reader.proofs.reader.Reader.+expr.Given as goal

abbrev pub decreases-chain : goal.decreases-chain
decreases-chain l = 32 * l.depth + rank l.level + 2

abbrev pub decreases-tail : goal.decreases-tail
decreases-tail l = 32 * l.depth + rank l.level + 1

abbrev pub decreases-operand : goal.decreases-operand
decreases-operand l = 32 * l.depth + rank l.level

abbrev pub decreases-comparison : goal.decreases-comparison
decreases-comparison l = 32 * l.depth + 11

abbrev pub decreases-unary : goal.decreases-unary
decreases-unary l = 32 * l.depth + 1

abbrev pub decreases-nested : goal.decreases-nested
decreases-nested l = 32 * l.depth + 19

abbrev pub decreases-signed : goal.decreases-signed
decreases-signed l = 32 * l.depth + 18

abbrev pub decreases-parens : goal.decreases-parens
decreases-parens l = 32 * l.depth + 18

abbrev pub invariant-chain-operators : goal.invariant-chain-operators
invariant-chain-operators l = record {
  counts : l.self.counts ≡ l.fn.self.counts;
  so_far : resumed (operand_of l.left)
      ((tails usual (set_of (group_of l.level)) (below l.level (unary usual l.depth)) l.left.operators).reads
      (lexemes l.self.rest.now))
      ≡ (chain usual (set_of (group_of l.level)) (below l.level (unary usual l.depth)) l.before).reads
      (lexemes l.fn.self.rest.now);
}

abbrev pub decreases-chain-operators : goal.decreases-chain-operators
decreases-chain-operators l = length l.self.rest.now
