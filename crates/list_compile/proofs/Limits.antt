-- How large the numbers of a valid chart are.
use Rattle.std.proofs.Common.{◌≡◌, ℕ, zero, suc, ◌*◌, ◌<◌, ◌≤◌, List, [], ◌∷◌, length, Option, Some, None, refl}
use Rattle.std.proofs.Common.{arith, sum_by}
use Rattle.std.specs.Prelude.{slice_index_or}
use Rattle.std.proofs.lemmas.List.Sums.{sum_by-cons}
use Rattle.flow_base.specs.declared.chart_limits.TheConstants.{STATE_LIMIT, JUNCTION_LIMIT}
use Rattle.active_config.specs.Tree.{Tree, IsTree, state_count}
use Rattle.actions.specs.Exprs.{Expr, Stmt}
use Rattle.checked_chart.specs.declared.parts.ListKind.{ListKind}
use Rattle.checked_chart.specs.declared.parts.ListKind.TheVariants.{Outer, Inner, Default}
use Rattle.checked_chart.specs.Chart.{Chart, Node, Trans, node, no_node, node_list, list_of, junction, junction_count}
use Rattle.checked_chart.specs.Counts.{node_transitions}
use Rattle.checked_chart.specs.Valid.{IsValid, AreTrans}
use Rattle.chart_code.specs.Ends.{below_count}
use Rattle.chart_code.specs.Places.{guard_count, block_count, trans_size, parts_size, reached_count}
use Rattle.chart_code.specs.ReachedJunctions.{reached}
use Rattle.chart_code.proofs.EndsLemmas.{end_is}
use Rattle.chart_code.proofs.Weights.{at_most_all}
use Rattle.chart_code.proofs.ReachedLemmas.{are_reached, list_valid}
use Rattle.list_compile.specs.declared.number_limits.TheConstants.{LIST_PARTS_LIMIT}

-- what stands at a place is one of those that are summed
one_of_sum : {A : Type 0} (f : A → ℕ) (xs : List A) (i : ℕ) (d : A) → f d ≡ 0 → f (slice_index_or xs i d) ≤ sum_by f xs
one_of_sum f [] i d e = omega (arith, e)
one_of_sum f (x ∷ xs) zero d e = omega (arith, sum_by-cons f x xs)
one_of_sum f (x ∷ xs) (suc i) d e = omega (arith, sum_by-cons f x xs, one_of_sum f xs i d e)

-- a transition has at most four parts
guard_low : (o : Option Expr) → guard_count o ≤ 1
guard_low None = omega arith
guard_low (Some e) = omega arith

block_low : (ss : List Stmt) → block_count ss ≤ 1
block_low [] = omega arith
block_low (s ∷ ss) = omega arith

trans_low : (t : Trans) → trans_size t ≤ 4
unfolding trans_size
trans_low t = omega (arith, guard_low t.guard, block_low t.condition, block_low t.action)

-- a list has at most four times as many parts as transitions
parts_low : (ts : List Trans) → parts_size ts ≤ 4 * length ts
unfolding parts_size
parts_low [] = omega arith
parts_low (t ∷ ts) = omega (arith, trans_low t, parts_low ts)

-- one of three lists
kind_low : (n : Node) (kind : ListKind) → length (node_list n kind) ≤ node_transitions n
kind_low n Outer = omega arith
kind_low n Inner = omega arith
kind_low n Default = omega arith

module _ (c : Chart) (valid : IsValid c) where
  -- the parts of a list of a state
  pub list_parts_low : (s : ℕ) (kind : ListKind) → parts_size (list_of c s kind) ≤ LIST_PARTS_LIMIT
  unfolding node no_node
  list_parts_low s kind =
      omega (
        arith,
        parts_low (list_of c s kind),
        kind_low (node c s) kind,
        one_of_sum node_transitions c.nodes s no_node refl,
        valid.limits.transitions,
      )

  -- the parts of the list of a junction
  pub junction_parts_low : (j : ℕ) → parts_size (junction c j) ≤ LIST_PARTS_LIMIT
  unfolding junction
  junction_parts_low j =
      omega (
        arith,
        parts_low (junction c j),
        one_of_sum (λ (ts : List Trans). length ts) c.junctions j [] refl,
        valid.limits.transitions,
      )

  -- how many junctions a list reaches
  pub reached_low : (list : List Trans) → AreTrans c list → length (reached c list) ≤ JUNCTION_LIMIT
  reached_low list are =
      let all = are_reached c valid list are in
      omega (arith, at_most_all (reached c list) (junction_count c) all.once all.within, valid.limits.junctions)

  -- how many junctions a list of a state reaches
  pub reached_count_low : (s : ℕ) (kind : ListKind) → reached_count c s kind ≤ JUNCTION_LIMIT
  unfolding reached_count
  reached_count_low s kind = reached_low (list_of c s kind) (list_valid c valid s kind)

-- how many states are below a state
pub below_low : (t : Tree) → IsTree t → state_count t ≤ STATE_LIMIT → (s : ℕ) → s < state_count t
    → below_count t s ≤ STATE_LIMIT
unfolding below_count
below_low t tree few s lt = omega (arith, (end_is t tree s lt).within, few)
