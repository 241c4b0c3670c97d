use Rattle.std.proofs.Common.{refl, length-set}
use Rattle.bound_prove.proofs.ColourLemmas.{sets_only, has_row}
use Rattle.bound_prove.proofs.Rows.{get_there}
use Rattle.bound_prove.proofs.colours.Colours.change.Goals as goal

pub returns : goal.returns
returns c =
    let rows = c.args.self.now.rows.items in
    let lt = has_row c.args.self.now c.args.e c.args.part c.args.i c.requires in
    sets_only c.args.self.now _ c.args.e c.args.part c.args.i c.args.colour c.index_mut-row.result.now c.set.new.self
    (get_there rows c.args.e c.index_mut-row.result.now lt c.index_mut-row.ensures.value) refl c.set.ensures
    (length-set rows c.args.e c.set.new.self)
