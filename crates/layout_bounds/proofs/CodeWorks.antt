-- The works of the procedures of the code of a valid chart.
use Rattle.std.proofs.Common.{◌≡◌, ℕ, suc, ◌+◌, ◌*◌, ◌≤◌, List, [], ◌∷◌, ◌++◌, length, Option, Some}
use Rattle.std.proofs.Common.{None, arith, mul-le-mul_left}
use Rattle.std.specs.Prelude.{slice_index}
use Rattle.active_config.specs.Tree.{state_count}
use Rattle.actions.specs.Exprs.{Expr, Stmt}
use Rattle.checked_chart.specs.Chart.{Chart, Trans}
use Rattle.checked_chart.specs.Counts.{item_count, statement_count}
use Rattle.checked_chart.specs.Valid.{IsValid}
use Rattle.code_language.specs.declared.fault.CodeKind.TheVariants as kinds
use Rattle.code_language.specs.declared.limits.TheConstants.{WORK_LIMIT}
use Rattle.code_language.specs.Measures.{greatest, work_by, works}
use Rattle.code_language.specs.WellFormed.{first_over}
use Rattle.code_language.proofs.Accepted.{none_over}
use Rattle.code_language.proofs.Measures.{work_measure}
use Rattle.chart_code.specs.Bodies.{body, code_of_chart}
use Rattle.chart_code.specs.Keys.{Key}
use Rattle.chart_code.specs.Keys.{guard_keys, condition_keys, action_keys, trans_keys}
use Rattle.chart_code.specs.Places.{numbers}
use Rattle.chart_code.proofs.EachFrom.{EachFrom, from_append}
use Rattle.chart_code.proofs.Every.{Every, every}
use Rattle.chart_code.proofs.StateStands.{StandsAt}
use Rattle.layout_bounds.specs.Works.{StateWorks}
use Rattle.layout_bounds.specs.WorkBounds.{work_bound}
use Rattle.layout_bounds.proofs.StateWorks.{state_works}
use Rattle.layout_bounds.proofs.KeyBounds.{greatest_most, bound_at, at_key, at_most, all_bounded}
use Rattle.layout_bounds.proofs.StateWorkBounds.{Keeps, leave_keeps, exit_keeps, enter_keeps, defaults_keeps, arrive_keeps}
use Rattle.layout_bounds.proofs.StateWorkBounds.{take_keeps, process_keeps}
use Rattle.layout_bounds.proofs.ListWorkBounds.{list_keeps, junction_keeps}
use Rattle.layout_bounds.proofs.GreatestWork.{most, IsCounted, lists_counted, junctions_counted, entry_most, during_most}
use Rattle.layout_bounds.proofs.GreatestWork.{exit_action_most, leave_most, exit_most, enter_most, defaults_most, arrive_most}
use Rattle.layout_bounds.proofs.GreatestWork.{list_most, junction_most, process_most, most_within}

-- ---- numbers

-- a factor of the product
product_with : (a s : ℕ) → 400 * suc s * a ≡ 400 * (a * s) + 400 * a
product_with a s = grind arith

-- what is asked for is within the limit of code
limit_holds : (s i : ℕ) → s ≤ 1024 → i ≤ 20000 → 400 * suc s * suc i ≤ 10000000000
limit_holds s i few items = omega (arith, few, items, mul-le-mul_left (suc i) few, product_with (suc i) s)

module _ (c : Chart) (valid : IsValid c) where
  -- the bounds of the numbers
  abbrev w : ℕ → ℕ
  w = bound_at c (work_bound c)

  -- are those of what stands there
  keeps : Keeps c w
  keeps p key e = omega (arith, at_key c (work_bound c) p key e)

  -- how much work each kind is
  kinds_of : StateWorks c (numbers c) w
  kinds_of = state_works c valid (numbers c) w

  -- ---- each procedure

  -- a procedure keeps its bound, and that isn't too much
  record Good (key : Key) : Type 0 where
    pub keeps_it : work_by w (body c key) ≤ work_bound c key
    pub light : work_bound c key ≤ most c

  -- whatever its number is
  abbrev AtAny : ℕ → Key → Type 0
  AtAny p key = Good key

  -- a guard
  guards : (p : ℕ) (o : Option Expr) → EachFrom AtAny p (guard_keys o)
  guards p None = tt
  guards p (Some e) = (record { keeps_it = omega (arith, kinds_of.guard e); light = omega arith }, tt)

  -- condition actions
  conditions : (p : ℕ) (ss : List Stmt) → length ss ≤ statement_count c → EachFrom AtAny p (condition_keys ss)
  conditions p [] few = tt
  conditions p (s ∷ ss) few = (
    record { keeps_it = kinds_of.block _ (s ∷ ss); light = omega (arith, few) },
    (record { keeps_it = kinds_of.block _ (s ∷ ss); light = omega (arith, few) }, tt),
  )

  -- a transition action
  actions : (p : ℕ) (ss : List Stmt) → length ss ≤ statement_count c → EachFrom AtAny p (action_keys ss)
  actions p [] few = tt
  actions p (s ∷ ss) few = (record { keeps_it = kinds_of.block _ (s ∷ ss); light = omega (arith, few) }, tt)

  -- the parts of a transition
  parts : (t : Trans) (p : ℕ) → IsCounted c t → EachFrom AtAny p (trans_keys t)
  parts t p few =
      let guard = guard_keys t.guard in
      let condition = condition_keys t.condition in
      let action = action_keys t.action in
      from_append AtAny p guard (condition ++ action) (guards p t.guard)
      (from_append AtAny (p + length guard) condition action
      (conditions (p + length guard) t.condition (omega (arith, few)))
      (actions (p + length guard + length condition) t.action (omega (arith, few))))

  -- all kinds
  all_good : Every c (IsCounted c) AtAny
  all_good = record {
    end_mark = record { keeps_it = omega (arith, kinds_of.end_mark); light = omega arith };
    entry = λ s lt. record { keeps_it = kinds_of.block _ _; light = entry_most c valid s lt };
    during = λ s lt. record { keeps_it = kinds_of.block _ _; light = during_most c valid s lt };
    exit_action = λ s lt. record { keeps_it = kinds_of.block _ _; light = exit_action_most c valid s lt };
    lists = λ s kind lt. lists_counted c s kind;
    junctions = λ j lt. junctions_counted c j;
    parts = parts;
    leave = λ s lt. record { keeps_it = leave_keeps c valid w keeps s; light = leave_most c valid s lt };
    exit = λ s lt. record { keeps_it = exit_keeps c valid w keeps s lt; light = exit_most c valid s lt };
    arrive = λ s d lt low high.
        record { keeps_it = arrive_keeps c valid w keeps s d lt; light = arrive_most c valid s lt d };
    search = λ s kind lt.
        record { keeps_it = list_keeps c valid w keeps s kind lt; light = list_most c valid s lt kind };
    junction = λ s kind j lt h.
        record { keeps_it = junction_keeps c valid w keeps s kind lt j h; light = junction_most c valid s lt kind j };
    defaults = λ s lt. record { keeps_it = defaults_keeps c valid w keeps s lt; light = defaults_most c valid s lt };
    take = λ s d lt low high.
        record { keeps_it = take_keeps c valid w keeps s d lt low high; light = omega arith };
    enter = λ s d lt low high.
        record { keeps_it = enter_keeps c valid w keeps s d lt; light = enter_most c valid s lt d };
    process = λ s lt. record { keeps_it = process_keeps c valid w keeps s lt; light = process_most c valid s lt };
  }

  -- what stands at a number is good
  good : (p : ℕ) (key : Key) → StandsAt c p key → Good key
  good p key e = every c valid (IsCounted c) AtAny all_good p key e

  -- ---- the whole

  -- no number has more than the most
  light_at : (p : ℕ) → w p ≤ most c
  light_at p = at_most c (work_bound c) (most c) (λ q key e. (good q key e).light) p

  -- each procedure keeps its bound
  works_bounded : (p : ℕ) → slice_index (works (code_of_chart c).procedures.procs) p ≤ w p
  unfolding code_of_chart
  works_bounded p =
      all_bounded c (work_bound c) work_by work_measure (λ q key e. (good q key e).keeps_it) p

  -- that of what stands there
  pub works_by_kind : (p : ℕ) (key : Key) → StandsAt c p key
      → slice_index (works (code_of_chart c).procedures.procs) p ≤ work_bound c key
  works_by_kind p key e = omega (arith, works_bounded p, keeps p key e)

  -- none has more than is asked for
  pub works_within : (p : ℕ)
      → slice_index (works (code_of_chart c).procedures.procs) p
      ≤ 400 * suc (state_count c.tree) * suc (item_count c)
  works_within p = omega (arith, works_bounded p, light_at p, most_within c valid)

  -- nor has the greatest
  pub greatest_work_within : greatest (works (code_of_chart c).procedures.procs)
      ≤ 400 * suc (state_count c.tree) * suc (item_count c)
  greatest_work_within = greatest_most _ (works (code_of_chart c).procedures.procs) works_within

  -- so none is over the limit of code
  pub no_work_over : first_over WORK_LIMIT kinds.TooMuchWork 0 (works (code_of_chart c).procedures.procs) ≡ None
  no_work_over =
      let limit = limit_holds (state_count c.tree) (item_count c) valid.limits.states valid.limits.items in
      none_over WORK_LIMIT kinds.TooMuchWork 0 (works (code_of_chart c).procedures.procs)
      (λ p. omega (arith, works_within p, limit))
