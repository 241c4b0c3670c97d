use Rattle.std.proofs.Common.{sym, subst}
use Rattle.bound_prove.specs.declared.need.Part.TheVariants as parts
use Rattle.bound_prove.specs.Lookups.{MayLook}
use Rattle.bound_prove.specs.Uses.{ListUses}
use Rattle.bound_prove.proofs.Pieces.{if_ok_map, list_named}
use Rattle.bound_prove.proofs.Processing.{part_ok, junction_evaluated, exit_evaluated, enter_evaluated}
use Rattle.bound_prove.proofs.Ranges.{uses_at}
use Rattle.bound_prove.proofs.lookup.Lookup.cell_need.Goals as goal

pub list_need-requires : goal.list_need-requires
list_need-requires c =
    let l = c.args.self.now in
    subst (ListUses (MayLook l) l.cell.event) (sym c.junction.ensures.list)
    (uses_at l parts.Junction c.shape.ensures.valid c.requires.cell c.in-Junction.is)

pub exit_need-requires-clause-may : goal.exit_need-requires-clause-may
exit_need-requires-clause-may c =
    uses_at c.args.self.now parts.Exit c.shape.ensures.valid c.requires.cell c.in-Exit.is

pub enter_need-requires-clause-may : goal.enter_need-requires-clause-may
enter_need-requires-clause-may c =
    uses_at c.args.self.now parts.Enter c.shape.ensures.valid c.requires.cell c.in-Enter.is

pub process_need-requires-clause-may : goal.process_need-requires-clause-may
process_need-requires-clause-may c =
    uses_at c.args.self.now parts.Process c.shape.ensures.valid c.requires.cell c.in-Process.is

pub returns-in-Junction-clause-need : goal.returns-in-Junction-clause-need
returns-in-Junction-clause-need c =
    let l = c.args.self.now in
    part_ok l parts.Junction _ _ c.list_need.result c.in-Junction.is
    (if_ok_map _ _ c.list_need.result
    (λ n h. junction_evaluated l _ _ n l.cell.index (list_named l _ _ n _ _ c.junction.ensures.list h))
    c.list_need.ensures)

pub returns-in-Exit-clause-need : goal.returns-in-Exit-clause-need
returns-in-Exit-clause-need c =
    let l = c.args.self.now in
    part_ok l parts.Exit _ _ c.exit_need.result c.in-Exit.is
    (if_ok_map _ _ c.exit_need.result (λ n h. exit_evaluated l _ _ n l.cell.index h) c.exit_need.ensures)

pub returns-in-Enter-clause-need : goal.returns-in-Enter-clause-need
returns-in-Enter-clause-need c =
    let l = c.args.self.now in
    part_ok l parts.Enter _ _ c.enter_need.result c.in-Enter.is
    (if_ok_map _ _ c.enter_need.result (λ n h. enter_evaluated l _ _ n l.cell.index h) c.enter_need.ensures)

pub returns-in-Process-clause-need : goal.returns-in-Process-clause-need
returns-in-Process-clause-need c =
    part_ok c.args.self.now parts.Process _ _ c.process_need.result c.in-Process.is c.process_need.ensures.need
