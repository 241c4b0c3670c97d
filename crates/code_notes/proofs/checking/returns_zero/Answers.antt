use Rattle.code_results.proofs.CheckLemmas.{written_there}
use Rattle.code_notes.proofs.checking.returns_zero.Goals as goal

-- it is returned there
pub returns-then-has_zero_return : goal.returns-then-has_zero_return
returns-then-has_zero_return c h =
    let found = c.has_zero_return.ensures c.if-has_zero_return.true in
    record {
      proc = c.loop-instrs.instrs-index;
      place = found.0;
      stands = written_there c.args.raw.now c.items-instrs-items.result.now c.loop-instrs.instrs-index found.0
          c.instrs-item.result c.items.result.now _ c.items-instrs-items.ensures c.loop-instrs-test.true
          c.instrs-item.is c.items.ensures found.1;
    }
