use Rattle.code_results.proofs.CheckLemmas.{written_there}
use Rattle.code_results.proofs.checking.returns_at_once.Goals as goal

-- the first instruction of the procedure
pub returns-in-Some : goal.returns-in-Some
returns-in-Some c r e =
    let look = c.in-Some.ensures.lookup in
    written_there c.args.raw.now c.items.result.now c.args.proc 0 c.in-Some.instrs.now c.items-in-Some.result.now _
    c.items.ensures look.3.0 look.1 c.items-in-Some.ensures (c.first_return.ensures r e)
