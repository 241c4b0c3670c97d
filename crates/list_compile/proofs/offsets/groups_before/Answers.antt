use Rattle.std.proofs.Common.{◌+◌, ◌*◌, subst, arith}
use Rattle.std.proofs.lemmas.Result.{IfOk-weaker}
use Rattle.std.specs.Prelude.{slice_index_or}
use Rattle.flow_base.specs.Lists.{items_of}
use Rattle.active_config.specs.Tree.{state_count}
use Rattle.checked_chart.specs.Kept.{chart_of}
use Rattle.chart_code.specs.Places.{group_size}
use Rattle.list_compile.specs.declared.number_limits.TheConstants.{SIZE_LIMIT}
use Rattle.list_compile.specs.declared.number_offsets.TheConstants.{BELOW_SIZE, GROUP_SIZE}
use Rattle.list_compile.specs.Tables.{IsTable}
use Rattle.list_compile.proofs.TableTurns.{table_same, table_sums}
use Rattle.list_compile.proofs.offsets.groups_before.Goals as goal

pub returns : goal.returns
unfolding group_size
returns c =
    let chart = chart_of c.args.chart.now in
    let n = state_count chart.tree in
    let below = c.requires.below in
    let default = c.requires.default in
    let sizes = items_of c.in_ok-sizes.sizes in
    let table =
    table_same (λ s. BELOW_SIZE * slice_index_or (items_of c.args.below.now) s 0 + GROUP_SIZE
    + slice_index_or (items_of c.args.default.now) s 0) (group_size chart) n SIZE_LIMIT sizes
    (λ k h. omega (arith, below.each k h, default.each k h))
    (subst (λ m. IsTable (λ s. BELOW_SIZE * slice_index_or (items_of c.args.below.now) s 0 + GROUP_SIZE
    + slice_index_or (items_of c.args.default.now) s 0) m SIZE_LIMIT sizes) below.long c.in_ok-sizes.ensures) in
    IfOk-weaker c.sums_before.result _ _ (λ sums h. table_sums (group_size chart) n sizes (items_of sums) table h)
    c.sums_before.ensures
