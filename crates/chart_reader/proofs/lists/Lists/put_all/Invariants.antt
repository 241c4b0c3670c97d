use Rattle.std.proofs.Common.{◌≡◌, map, length}
use Rattle.chart_reader.specs.Items.{item_of, sorted_of, put_all}
use Rattle.chart_reader.proofs.lists.Lists.put_all.Given as goal

-- the items that are left, put in front of those in the lists
abbrev pub invariant-items : goal.invariant-items
invariant-items l =
    put_all (map item_of l.items.items) (sorted_of l.self)
    ≡ put_all (map item_of l.fn.items.items) (sorted_of l.fn.self)

abbrev pub decreases-items : goal.decreases-items
decreases-items l = length l.items.items
