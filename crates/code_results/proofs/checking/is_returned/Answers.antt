use Rattle.code_results.proofs.CheckLemmas.{written_there}
use Rattle.code_results.proofs.checking.is_returned.Goals as goal

-- it is returned there
pub returns-then-is_among_returns : goal.returns-then-is_among_returns
returns-then-is_among_returns c h =
    let found = c.is_among_returns.ensures c.if-is_among_returns.true in
    record {
      proc = c.loop-instrs.instrs-index;
      place = found.0;
      stands = written_there c.args.raw.now c.items-instrs-items.result.now c.loop-instrs.instrs-index found.0
          c.instrs-item.result c.items.result.now _ c.items-instrs-items.ensures c.loop-instrs-test.true
          c.instrs-item.is c.items.ensures found.1;
    }
