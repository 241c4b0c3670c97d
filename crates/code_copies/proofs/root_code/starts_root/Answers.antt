use Rattle.code_copies.proofs.CheckLemmas.{item_there}
use Rattle.code_copies.proofs.RootChecks.{start_makes}
use Rattle.code_copies.proofs.root_code.starts_root.Goals as goal

-- the start is there
pub returns-in-Some : goal.returns-in-Some
returns-in-Some c t =
    let found = c.in-Some.ensures.lookup in
    start_makes c.args.code.now c.in-Some.instrs.now c.items-in-Some.result.now c.items-in-Some.ensures
    (item_there c.items.result.now _ c.args.code.now.start c.in-Some.instrs.now c.items.ensures found.3.0 found.1)
    (c.makes_root.ensures t)
