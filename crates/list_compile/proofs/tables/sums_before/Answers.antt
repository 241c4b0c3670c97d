use Rattle.std.proofs.Common.{◌≡◌, ◌+◌, ◌<◌, ◌∙◌, suc, length, slice_index_or, refl, ap, arith}
use Rattle.flow_base.specs.Lists.{items_of}
use Rattle.chart_code.specs.Orders.{sum_to}
use Rattle.chart_code.proofs.Sums.{sum_next}
use Rattle.list_compile.specs.declared.number_limits.TheConstants.{SUM_LIMIT}
use Rattle.list_compile.proofs.TableTurns.{table_none, table_more}
use Rattle.list_compile.proofs.tables.sums_before.Goals as goal

pub loop-count-init : goal.loop-count-init
unfolding sum_to
loop-count-init c = record {
  sums = λ f t. table_none (sum_to f) SUM_LIMIT (items_of c.of-sums.result) (c.of-sums.ensures ∙ c.new.ensures.items);
  sum = λ f t. refl;
  low = omega arith;
}

pub loop-count-preserved : goal.loop-count-preserved
loop-count-preserved c =
    let i = c.loop-count.count-index in
    let xs = items_of c.args.counts.now in
    let inv = c.loop-count.invariant in
    let there : i < length xs =
    omega (arith, c.loop-count-test.true, ap (λ ys. length ys) c.items-count-items.ensures) in
    let same = ap (λ ys. slice_index_or ys i 0) c.items-count-items.ensures in
    let next : suc i ≡ i + 1 = omega arith in
    record {
      sums = λ f t.
          table_more (sum_to f) i (i + 1) SUM_LIMIT c.loop-count.sum (items_of c.loop-count.sums) _ refl (inv.sums f t)
          (inv.sum f t) (omega (arith, inv.low, c.requires.few)) c.in_ok-push.ensures.ok;
      sum = λ f t. omega (arith, inv.sum f t, same, t.each i there, sum_next f i, ap (sum_to f) next);
      low = omega (arith, inv.low, same, c.requires.low i there);
    }

pub returns : goal.returns
returns c =
    let i = c.loop-count.count-index in
    let xs = items_of c.args.counts.now in
    let inv = c.loop-count.invariant in
    let last : suc (length xs) ≡ i + 1 =
    omega (
      arith,
      c.loop-count-test.false,
      c.loop-count.auto.count-index-end,
      ap (λ ys. length ys) c.items-count-items.ensures,
    ) in
    λ f t.
    table_more (sum_to f) i (suc (length xs)) SUM_LIMIT c.loop-count.sum (items_of c.loop-count.sums) _ last
    (inv.sums f t) (inv.sum f t) (omega (arith, inv.low, c.requires.few)) c.in_ok-push-2.ensures.ok
