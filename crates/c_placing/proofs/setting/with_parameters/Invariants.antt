use Rattle.std.proofs.Common.{◌≡◌, ◌≤◌, length, take}
use Rattle.flow_base.specs.Lists.{items_of}
use Rattle.c_subset.specs.Lines.{exprs_of}
use Rattle.c_trees.specs.Blocks.{block_of}
use Rattle.c_placing.specs.Placing.{set_parameters}
use Rattle.c_placing.proofs.setting.with_parameters.Given as goal

-- with the arguments that are left the statements are the whole
abbrev pub invariant-each : goal.invariant-each
invariant-each l = record {
  few : length l.left.items ≤ length l.types;
  same : set_parameters l.base 0 (take (length l.left.items) l.types) (exprs_of l.left.items) (block_of l.tree.value)
      ≡ set_parameters l.base 0 l.types (exprs_of (items_of l.fn.args)) (block_of l.fn.rest.value);
}

-- the arguments that are left
abbrev pub decreases-each : goal.decreases-each
decreases-each l = length l.left.items
