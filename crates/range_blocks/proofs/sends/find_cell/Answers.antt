use Rattle.std.proofs.Common.{arith}
use Rattle.range_blocks.proofs.SendLemmas.{get_slice}
use Rattle.range_worlds.specs.Leads.{cert_in}
use Rattle.range_blocks.proofs.sends.find_cell.Goals as goal

pub returns-then-is_for : goal.returns-then-is_for
returns-then-is_for c = record {
  cell = c.index.result.now;
  is =
      get_slice (cert_in c.args.setting.now).cells.items c.loop-i.i _
      (omega (arith, c.loop-i-test.true, c.len-i-end.ensures)) c.index.ensures;
  fits = c.if-is_for.ensures;
}
