use Rattle.range_blocks.proofs.BlockLemmas.{alive_leads}
use Rattle.range_blocks.proofs.blocks.alive.Goals as goal

pub returns : goal.returns
returns c =
    alive_leads _ _ _ _ (record { done = c.in_ok-parts.parts.yes; cut = c.in_ok-parts.parts.no })
    c.life_test-test.ensures c.in_ok-parts.ensures
