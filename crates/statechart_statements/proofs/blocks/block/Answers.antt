use Rattle.std.proofs.Common.{ap}
use Rattle.statechart_tokens.specs.Counts.{counts_of}
use Rattle.statechart_statements.proofs.BlockLemmas.{block_read}
use Rattle.statechart_statements.proofs.blocks.block.Goals as goal

pub returns-clause-read : goal.returns-clause-read
returns-clause-read c =
    rw c.of.ensures
    (block_read _ _ _ _ _ _ _ _ _
    (ap counts_of c.in_ok-token.ensures.counts) c.in_ok-token.ensures.read c.in_ok-found.ensures.read
    c.in_ok-token-2.ensures.read)
