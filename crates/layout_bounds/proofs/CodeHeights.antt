-- The heights of the procedures of the code of a chart.
use Rattle.std.proofs.Common.{◌≡◌, ℕ, ◌+◌, ◌*◌, ◌≤◌, List, None, arith}
use Rattle.std.specs.Prelude.{slice_index}
use Rattle.flow_base.specs.declared.chart_limits.TheConstants.{STATE_DEPTH_LIMIT}
use Rattle.checked_chart.specs.Chart.{Chart}
use Rattle.checked_chart.specs.Valid.{IsValid}
use Rattle.code_language.specs.declared.fault.CodeKind.TheVariants as kinds
use Rattle.code_language.specs.declared.limits.TheConstants.{HEIGHT_LIMIT}
use Rattle.code_language.specs.Measures.{height_by, heights, greatest}
use Rattle.code_language.specs.WellFormed.{first_over}
use Rattle.code_language.proofs.Greatest.{none_over_greatest}
use Rattle.code_language.proofs.Measures.{height_measure}
use Rattle.chart_code.specs.Keys.{Key}
use Rattle.chart_code.specs.Bodies.{code_of_chart}
use Rattle.chart_code.proofs.StateStands.{StandsAt}
use Rattle.layout_bounds.specs.HeightBounds.{height_bound}
use Rattle.layout_bounds.proofs.KeyBounds.{greatest_most, bound_at, at_key, at_most}
use Rattle.layout_bounds.proofs.KindBounds.{bounded}
use Rattle.layout_bounds.proofs.Ranks.{bound_most}
use Rattle.layout_bounds.proofs.KindHeights.{each_keeps}

module _ (c : Chart) (valid : IsValid c) where
  -- the heights of the procedures
  abbrev hs : List ℕ
  hs = heights (code_of_chart c).procedures.procs

  -- no procedure is higher than what its number says
  at_number : (p : ℕ) → slice_index hs p ≤ bound_at c (height_bound c.tree) p
  unfolding code_of_chart
  at_number p = bounded c (height_bound c.tree) valid height_by height_measure (each_keeps c valid) p

  -- nor than what it is of says
  pub by_kind : (p : ℕ) (key : Key) → StandsAt c p key → slice_index hs p ≤ height_bound c.tree key
  by_kind p key e = omega (arith, at_number p, at_key c (height_bound c.tree) p key e)

  -- nor than five for each level and seven
  pub by_depth : (p : ℕ) → slice_index hs p ≤ 5 * STATE_DEPTH_LIMIT + 7
  by_depth p =
      omega (
        arith,
        at_number p,
        at_most c (height_bound c.tree) (5 * STATE_DEPTH_LIMIT + 7)
            (λ q key e. bound_most c.tree key) p,
      )

  -- so neither is the greatest
  pub greatest_low : greatest hs ≤ 5 * STATE_DEPTH_LIMIT + 7
  greatest_low = greatest_most (5 * STATE_DEPTH_LIMIT + 7) hs by_depth

  -- which is within the limit, so no procedure is too high
  pub none_too_high : first_over HEIGHT_LIMIT kinds.TooHigh 0 hs ≡ None
  none_too_high = none_over_greatest HEIGHT_LIMIT kinds.TooHigh 0 hs (omega (arith, greatest_low))
