use Rattle.std.proofs.Common.{arith}
use Rattle.range_blocks.proofs.SendLemmas.{get_slice}
use Rattle.range_worlds.proofs.InsideLemmas.{told}
use Rattle.range_worlds.specs.Leads.{cert_in}
use Rattle.range_check.proofs.CloseLemmas.{no_reactions, next_reactions}
use Rattle.range_check.proofs.closing.reacts_from_all.Goals as goal

pub loop-i-init : goal.loop-i-init
loop-i-init c = no_reactions _

pub loop-i-preserved : goal.loop-i-preserved
loop-i-preserved c =
    next_reactions c.args.setting.now c.loop-i.i c.index.result.now
    (get_slice (cert_in c.args.setting.now).rest.items c.loop-i.i _
    (omega (arith, c.loop-i-test.true, c.len-i-end.ensures)) c.index.ensures)
    (told _ c.if-not-right.false c.in_ok-right.ensures) c.loop-i.invariant
