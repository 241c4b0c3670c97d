-- The items of a list of this crate.
use Rattle.std.specs.Prelude.{List as Items}
use Rattle.flow_base.specs.declared.list.List.{List}

-- the items, in order
abbrev pub items_of : {T : Type 0} → List T → Items T
items_of list = list.items.items
