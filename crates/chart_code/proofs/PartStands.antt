-- Each part of a transition stands at its number.
use Rattle.std.proofs.Common.{ℕ, ◌+◌, ◌*◌, ◌<◌, List, [], ◌∷◌, ◌++◌, length, Option, Some, None, refl, arith}
use Rattle.active_config.specs.Tree.{state_count}
use Rattle.actions.specs.Exprs.{Expr, Stmt}
use Rattle.checked_chart.specs.declared.parts.ListKind.{ListKind}
use Rattle.checked_chart.specs.Chart.{Chart, Trans, list_of, junction, junction_count}
use Rattle.chart_code.specs.Compiled.{GuardBy, PartBy}
use Rattle.chart_code.specs.Numbers.{TransNumbers, first_of_parts, other_parts}
use Rattle.chart_code.specs.Keys.{Key, Guard, ConditionOn, ConditionBare, Action, guard_keys, condition_keys}
use Rattle.chart_code.specs.Keys.{action_keys, trans_keys, parts_keys, layout}
use Rattle.chart_code.specs.Places.{guard_count, block_count, trans_size, if_guard, if_block, trans_numbers}
use Rattle.chart_code.specs.Places.{parts_numbers, parts_at, junction_parts_at, list_numbers}
use Rattle.chart_code.proofs.Segments.{Holds, holds_at, holds_front, holds_back, holds_get, holds_first}
use Rattle.chart_code.proofs.Sizes.{guard_length, condition_length, trans_length}
use Rattle.chart_code.proofs.Regions.{parts_stand, junction_parts_stand}
use Rattle.chart_code.proofs.StateStands.{StandsAt}

-- the parts of a transition stand at these numbers
pub record PartsStand (c : Chart) (t : Trans) (q : TransNumbers) : Type 0 where
  pub guard : GuardBy (λ q e. StandsAt c q (Guard e)) t.guard q.guard
  pub condition_on : PartBy (λ q ss. StandsAt c q (ConditionOn ss)) t.condition q.condition_on
  pub condition_bare : PartBy (λ q ss. StandsAt c q (ConditionBare ss)) t.condition q.condition_bare
  pub action : PartBy (λ q ss. StandsAt c q (Action ss)) t.action q.action

-- those of the transitions of a list
abbrev pub EachStands : Chart → List Trans → List TransNumbers → Type 0
EachStands c [] qs = Unit {0}
EachStands c (t ∷ ts) qs = PartsStand c t (first_of_parts qs) × EachStands c ts (other_parts qs)

module _ (c : Chart) where
  abbrev L : List Key
  L = layout c

  -- a guard
  guard_by : (p : ℕ) (o : Option Expr) → Holds L p (guard_keys o)
      → GuardBy (λ q e. StandsAt c q (Guard e)) o (if_guard o p)
  guard_by p None h = tt
  guard_by p (Some e) h = holds_first L p (Guard e) [] h

  -- a condition action, where the state has to be active
  condition_on_by : (p : ℕ) (ss : List Stmt) → Holds L p (condition_keys ss)
      → PartBy (λ q ss. StandsAt c q (ConditionOn ss)) ss (if_block ss p)
  condition_on_by p [] h = tt
  condition_on_by p (s ∷ ss) h = holds_first L p (ConditionOn (s ∷ ss)) (ConditionBare (s ∷ ss) ∷ []) h

  -- a condition action, where the state has to be bare
  condition_bare_by : (p : ℕ) (ss : List Stmt) → Holds L p (condition_keys ss)
      → PartBy (λ q ss. StandsAt c q (ConditionBare ss)) ss (if_block ss (p + 1))
  condition_bare_by p [] h = tt
  condition_bare_by p (s ∷ ss) h =
      holds_get L p 1 (p + 1) (condition_keys (s ∷ ss)) (ConditionBare (s ∷ ss)) refl h refl

  -- a transition action
  action_by : (p : ℕ) (ss : List Stmt) → Holds L p (action_keys ss)
      → PartBy (λ q ss. StandsAt c q (Action ss)) ss (if_block ss p)
  action_by p [] h = tt
  action_by p (s ∷ ss) h = holds_first L p (Action (s ∷ ss)) [] h

  -- the parts of a transition
  trans_by : (p : ℕ) (t : Trans) → Holds L p (trans_keys t) → PartsStand c t (trans_numbers p t)
  trans_by p t h = record {
    guard = guard_by p t.guard (holds_front L p (guard_keys t.guard) behind_guard h);
    condition_on = condition_on_by (p + guard_count t.guard) t.condition here;
    condition_bare = condition_bare_by (p + guard_count t.guard) t.condition here;
    action =
        action_by (p + guard_count t.guard + 2 * block_count t.condition) t.action
        (holds_at L (p + guard_count t.guard + length (condition_keys t.condition))
        (p + guard_count t.guard + 2 * block_count t.condition) (action_keys t.action)
        (omega (arith, condition_length t.condition))
        (holds_back L (p + guard_count t.guard) (condition_keys t.condition) (action_keys t.action) at_condition));
  }
    where
      behind_guard : List Key
      behind_guard = condition_keys t.condition ++ action_keys t.action

      at_condition : Holds L (p + guard_count t.guard) behind_guard
      at_condition =
          holds_at L (p + length (guard_keys t.guard)) (p + guard_count t.guard) behind_guard
          (omega (arith, guard_length t.guard)) (holds_back L p (guard_keys t.guard) behind_guard h)

      here : Holds L (p + guard_count t.guard) (condition_keys t.condition)
      here = holds_front L (p + guard_count t.guard) (condition_keys t.condition) (action_keys t.action) at_condition

  -- those of the transitions of a list
  parts_by : (p : ℕ) (ts : List Trans) → Holds L p (parts_keys ts) → EachStands c ts (parts_numbers p ts)
  unfolding parts_keys parts_numbers
  parts_by p [] h = tt
  parts_by p (t ∷ ts) h = (
    trans_by p t (holds_front L p (trans_keys t) (parts_keys ts) h),
    parts_by (p + trans_size t) ts
        (holds_at L (p + length (trans_keys t)) (p + trans_size t) (parts_keys ts) (omega (arith, trans_length t))
        (holds_back L p (trans_keys t) (parts_keys ts) h)),
  )

  -- those of a list of a state
  pub list_parts_stand : (s : ℕ) (kind : ListKind) → s < state_count c.tree
      → EachStands c (list_of c s kind) ((list_numbers c).parts s kind)
  unfolding list_numbers
  list_parts_stand s kind lt = parts_by (parts_at c s kind) (list_of c s kind) (parts_stand c s kind lt)

  -- those of a junction's list
  pub junction_list_stands : (j : ℕ) → j < junction_count c
      → EachStands c (junction c j) ((list_numbers c).junction_parts j)
  unfolding list_numbers
  junction_list_stands j lt = parts_by (junction_parts_at c j) (junction c j) (junction_parts_stand c j lt)
