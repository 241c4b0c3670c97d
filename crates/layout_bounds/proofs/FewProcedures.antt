-- The code of a chart has few procedures, and not too many.
use Rattle.std.proofs.Common.{◌≡◌, ℕ, zero, suc, ◌+◌, ◌*◌, ◌≤◌, false, List, length, refl, arith}
use Rattle.std.specs.Prelude.{nat_lt}
use Rattle.std.specs.List.{list_any}
use Rattle.flow_base.specs.declared.chart_limits.TheConstants.{STATE_DEPTH_LIMIT}
use Rattle.active_config.specs.Tree.{state_count}
use Rattle.checked_chart.specs.declared.parts.ListKind.{ListKind}
use Rattle.checked_chart.specs.declared.parts.ListKind.TheVariants.{Outer, Inner, Default}
use Rattle.checked_chart.specs.Chart.{Chart, list_of, junction, junction_count}
use Rattle.checked_chart.specs.Counts.{transition_count}
use Rattle.checked_chart.specs.Reached.{links_of, weight, ArePairs, PairsBelow, ChartPairs}
use Rattle.checked_chart.specs.Valid.{IsValid}
use Rattle.code_language.specs.declared.limits.TheConstants.{PROC_LIMIT, INSTR_LIMIT}
use Rattle.code_language.specs.Instrs.{Instr}
use Rattle.code_language.specs.WellFormed.{too_many}
use Rattle.chart_code.specs.Bodies.{procedures_of, code_of_chart}
use Rattle.chart_code.specs.Places.{below_total}
use Rattle.chart_code.specs.ReachedJunctions.{has, reached}
use Rattle.chart_code.proofs.Count.{total_is}
use Rattle.chart_code.proofs.Pairs.{reached_pairs}
use Rattle.chart_code.proofs.ReachedLemmas.{are_reached, list_valid}
use Rattle.chart_code.proofs.Whole.{procedures_length}
use Rattle.layout_bounds.specs.FilledBlocks.{filled_blocks}
use Rattle.layout_bounds.proofs.ChildCounts.{below_counts_most}
use Rattle.layout_bounds.proofs.PartCounts.{parts_few, parts_fourfold}
use Rattle.layout_bounds.proofs.CodeLengths.{not_over, neither, code_short}

module _ (c : Chart) (valid : IsValid c) where
  -- no state has more states above it than the limit of depth
  below_few : below_total c ≤ STATE_DEPTH_LIMIT * state_count c.tree
  unfolding below_total
  below_few = below_counts_most c.tree valid.tree STATE_DEPTH_LIMIT valid.limits.depth

  -- how many procedures there are
  pub procedures_few : (pairs : ℕ) → ChartPairs c pairs
      → length (code_of_chart c).procedures.procs
      ≤ 80 * state_count c.tree + pairs + 2 * filled_blocks c + transition_count c + 8
  unfolding code_of_chart
  procedures_few pairs are =
      omega (
        arith,
        procedures_length c,
        total_is c,
        below_few,
        parts_few c valid,
        reached_pairs c valid pairs are,
      )

  -- ---- each chart has a number of pairs

  -- the pairs of a list of a state
  abbrev list_pairs : ℕ → ListKind → ℕ
  list_pairs s kind =
      length (list_of c s kind)
      + weight (has (reached c (list_of c s kind))) (λ j. length (junction c j)) (junction_count c)

  -- they are its pairs
  are_pairs : (s : ℕ) (kind : ListKind) → ArePairs (links_of c) (list_of c s kind) (list_pairs s kind)
  are_pairs s kind = record {
    within = has (reached c (list_of c s kind));
    exact = (are_reached c valid (list_of c s kind) (list_valid c valid s kind)).exact;
    sum = refl;
  }

  -- the pairs of the first states
  pairs_below : (n : ℕ) → (count : ℕ) × PairsBelow (links_of c) n count
  pairs_below zero = (0, refl)
  pairs_below (suc s) =
      let below = pairs_below s in
      let own = list_pairs s Outer + list_pairs s Inner + list_pairs s Default in (
        below.0 + own,
        (
          own,
          below.0,
          record {
            outer = list_pairs s Outer;
            inner = list_pairs s Inner;
            default = list_pairs s Default;
            of_outer = are_pairs s Outer;
            of_inner = are_pairs s Inner;
            of_default = are_pairs s Default;
            sum = refl;
          },
          below.1,
          refl,
        ),
      )

  -- ---- the limits of code

  -- there are not too many procedures
  procedures_within : length (procedures_of c).procs ≤ PROC_LIMIT
  procedures_within =
      let pairs = pairs_below (state_count c.tree) in
      omega (
        arith,
        procedures_length c,
        total_is c,
        below_few,
        parts_fourfold c valid,
        reached_pairs c valid pairs.0 pairs.1,
        valid.limits.pairs pairs.0 pairs.1,
        valid.limits.transitions,
        valid.limits.states,
      )

  -- neither too many procedures nor too many instructions
  pub code_few : too_many (code_of_chart c).procedures.procs ≡ false
  unfolding code_of_chart
  code_few =
      let procs = (procedures_of c).procs in
      neither (nat_lt PROC_LIMIT (length procs))
      (list_any (λ (is : List Instr). nat_lt INSTR_LIMIT (length is)) procs)
      (not_over PROC_LIMIT (length procs) procedures_within) (code_short c valid)
