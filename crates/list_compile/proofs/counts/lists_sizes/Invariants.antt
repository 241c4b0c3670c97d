use Rattle.std.proofs.Common.{◌+◌}
use Rattle.std.specs.Prelude.{slice_index_or}
use Rattle.flow_base.specs.Lists.{items_of}
use Rattle.list_compile.specs.declared.number_limits.TheConstants.{SIZE_LIMIT}
use Rattle.list_compile.specs.declared.number_offsets.TheConstants.{LISTS_SIZE}
use Rattle.list_compile.specs.Tables.{IsTable}
use Rattle.list_compile.proofs.counts.lists_sizes.Given as goal

-- those before the number are in the table
abbrev pub invariant-loop-state : goal.invariant-loop-state
invariant-loop-state l =
    IsTable (λ s. LISTS_SIZE + slice_index_or (items_of l.outer) s 0 + slice_index_or (items_of l.inner) s 0) l.state
    SIZE_LIMIT (items_of l.sizes)
