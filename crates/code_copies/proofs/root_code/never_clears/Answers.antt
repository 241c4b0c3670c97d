use Rattle.std.proofs.Common.{◌≤◌, arith, length, subst}
use Rattle.flow_base.specs.Lists.{items_of}
use Rattle.code_language.specs.Code.{fetch, instructions}
use Rattle.code_copies.proofs.RootChecks.{code_clears}
use Rattle.code_copies.proofs.root_code.never_clears.Goals as goal

-- no procedure does
pub returns : goal.returns
unfolding fetch instructions
returns c t p i =
    let past =
    subst (λ xs. length xs ≤ c.loop-instrs.instrs-index) c.items-instrs-items.ensures c.loop-instrs-test.false in
    code_clears (items_of c.args.code.now.procs)
    (λ q lt own there. c.loop-instrs.invariant q (omega (arith, past, lt)) own there) p i
