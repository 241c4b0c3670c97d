use Rattle.code_copies.proofs.CheckLemmas.{item_there, key_there}
use Rattle.code_copies.proofs.serving.facts_of_copy.Goals as goal

-- the copy is there, and is one of the procedure
pub returns-then-copy-proc : goal.returns-then-copy-proc
returns-then-copy-proc c =
    let copy = c.in_ok-copy.copy.now in
    let found = c.in_ok-copy.ensures.lookup in
    let copies = c.args.plan.now.copies.items in
    key_there c.args.plan.now.sets.items copies c.args.copy c.args.proc copy
    (item_there c.deref.result.now copies c.args.copy copy c.deref.ensures.value found.3.0 found.1) c.if-copy-proc.true
