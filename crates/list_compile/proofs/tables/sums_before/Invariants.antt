use Rattle.std.proofs.Common.{◌≡◌, ◌*◌, ◌≤◌, ℕ, length}
use Rattle.flow_base.specs.Lists.{items_of}
use Rattle.chart_code.specs.Orders.{sum_to}
use Rattle.list_compile.specs.declared.number_limits.TheConstants.{SIZE_LIMIT, SUM_LIMIT}
use Rattle.list_compile.specs.Tables.{IsTable}
use Rattle.list_compile.proofs.tables.sums_before.Given as goal

-- the sums before the numbers that were passed, and the sum of those
abbrev pub invariant-loop-count : goal.invariant-loop-count
invariant-loop-count l = record {
  sums : (f : ℕ → ℕ) → IsTable f (length (items_of l.counts)) SIZE_LIMIT (items_of l.counts)
      → IsTable (sum_to f) l.count-index SUM_LIMIT (items_of l.sums);
  sum : (f : ℕ → ℕ) → IsTable f (length (items_of l.counts)) SIZE_LIMIT (items_of l.counts)
      → l.sum ≡ sum_to f l.count-index;
  low : l.sum ≤ l.count-index * SIZE_LIMIT;
}
