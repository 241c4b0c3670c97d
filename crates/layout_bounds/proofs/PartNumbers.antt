-- The numbers of the parts of transitions are below those of what firings take.
use Rattle.std.proofs.Common.{ℕ, ◌+◌, ◌*◌, ◌<◌, ◌≤◌, List, [], ◌∷◌, Option, Some, None, arith}
use Rattle.std.specs.Prelude.{IfSome}
use Rattle.active_config.specs.Tree.{state_count}
use Rattle.actions.specs.Exprs.{Expr, Stmt}
use Rattle.checked_chart.specs.declared.parts.ListKind.{ListKind}
use Rattle.checked_chart.specs.declared.parts.ListKind.TheVariants.{Outer, Inner, Default}
use Rattle.checked_chart.specs.Chart.{Chart, Trans, list_of, junction, junction_count}
use Rattle.chart_code.specs.Numbers.{TransNumbers, condition_of}
use Rattle.chart_code.specs.Places.{guard_count, block_count, trans_size, parts_size, if_guard, if_block}
use Rattle.chart_code.specs.Places.{trans_numbers, parts_numbers, groups_start, parts_at, junction_parts_at}
use Rattle.chart_code.specs.Places.{list_numbers}
use Rattle.layout_bounds.specs.Calls.{EachTrans}
use Rattle.layout_bounds.proofs.NumberOrder.{parts_low, junction_parts_low}

-- each number of a transition is below b
pub record PartsBelow (b : ℕ) (q : TransNumbers) : Type 0 where
  pub guard : IfSome q.guard (λ i. i < b)
  pub condition_on : IfSome q.condition_on (λ i. i < b)
  pub condition_bare : IfSome q.condition_bare (λ i. i < b)
  pub action : IfSome q.action (λ i. i < b)

-- what is below a number is below a greater one
pub some_below : (a b : ℕ) (o : Option ℕ) → a ≤ b → IfSome o (λ i. i < a) → IfSome o (λ i. i < b)
some_below a b None le h = tt
some_below a b (Some i) le h = omega (arith, h)

-- the condition action of a kind of list
pub condition_below : (b : ℕ) (kind : ListKind) (q : TransNumbers) → PartsBelow b q
    → IfSome (condition_of kind q) (λ i. i < b)
condition_below b Outer q h = h.condition_on
condition_below b Inner q h = h.condition_on
condition_below b Default q h = h.condition_bare

-- a guard
guard_below : (b p : ℕ) (o : Option Expr) → p + guard_count o ≤ b → IfSome (if_guard o p) (λ i. i < b)
guard_below b p None le = tt
guard_below b p (Some e) le = omega arith

-- an action
block_below : (b p : ℕ) (ss : List Stmt) → p + block_count ss ≤ b → IfSome (if_block ss p) (λ i. i < b)
block_below b p [] le = tt
block_below b p (s ∷ ss) le = omega arith

-- the second of two procedures of an action
second_below : (b p : ℕ) (ss : List Stmt) → p + 2 * block_count ss ≤ b → IfSome (if_block ss (p + 1)) (λ i. i < b)
second_below b p [] le = tt
second_below b p (s ∷ ss) le = omega arith

-- a transition
trans_below : (b p : ℕ) (t : Trans) → p + trans_size t ≤ b → PartsBelow b (trans_numbers p t)
unfolding trans_size
trans_below b p t le = record {
  guard = guard_below b p t.guard (omega arith);
  condition_on = block_below b (p + guard_count t.guard) t.condition (omega arith);
  condition_bare = second_below b (p + guard_count t.guard) t.condition (omega arith);
  action = block_below b (p + guard_count t.guard + 2 * block_count t.condition) t.action (omega arith);
}

-- the transitions of a list
each_below : (b p : ℕ) (ts : List Trans) → p + parts_size ts ≤ b
    → EachTrans (λ t q. PartsBelow b q) ts (parts_numbers p ts)
unfolding parts_size parts_numbers
each_below b p [] le = tt
each_below b p (t ∷ ts) le =
    (trans_below b p t (omega arith), each_below b (p + trans_size t) ts (omega arith))

module _ (c : Chart) where
  -- those of a list of a state
  pub list_below : (s : ℕ) (kind : ListKind) → s < state_count c.tree
      → EachTrans (λ t q. PartsBelow (groups_start c) q) (list_of c s kind) ((list_numbers c).parts s kind)
  unfolding list_numbers
  list_below s kind lt = each_below (groups_start c) (parts_at c s kind) (list_of c s kind) (parts_low c s kind lt)

  -- those of a junction's list
  pub junction_below : (j : ℕ) → j < junction_count c
      → EachTrans (λ t q. PartsBelow (groups_start c) q) (junction c j) ((list_numbers c).junction_parts j)
  unfolding list_numbers
  junction_below j lt = each_below (groups_start c) (junction_parts_at c j) (junction c j) (junction_parts_low c j lt)
