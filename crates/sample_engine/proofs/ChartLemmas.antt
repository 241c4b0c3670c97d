-- The chart: its tree, and the data of a world that fits it.
use Rattle.std.proofs.Common.{◌≡◌, ℕ, zero, suc, ◌<◌, true, List, [], length, get_or, refl, sym, ap, ◌∙◌, arith}
use Rattle.std.proofs.lemmas.List.{get_or-map, length-map}
use Rattle.fixed_point.specs.declared.scale.Scale.{Scale}
use Rattle.active_config.specs.declared.comp.Comp.TheVariants.{Leaf}
use Rattle.active_config.specs.Tree.{Tree, IsTree, tree_of, state_count, parent_of}
use Rattle.active_config.specs.Tree.{comp_of, is_child, children_below, children_of}
use Rattle.active_config.specs.Marks.{Configuration, no_marks, is_on, can_mark}
use Rattle.actions.specs.declared.names.Sort.{Sort}
use Rattle.actions.specs.declared.names.Sort.TheVariants as sorts
use Rattle.actions.specs.Data.{datum, no_datum}
use Rattle.actions.specs.World.{World, Declaration, of_names}
use Rattle.sample_engine.specs.Chart.{chart_tree, chart_names, FitsChart}

-- ---- the tree

leaf_alone : (s : ℕ) → s < 1 → (comp_of chart_tree s ≡ Leaf) × (children_of chart_tree s ≡ [])
unfolding tree_of comp_of parent_of state_count is_child children_below children_of
leaf_alone zero lt = (refl, refl)
leaf_alone (suc s) lt = absurd (omega arith)

pub chart_is_a_tree : IsTree chart_tree
unfolding tree_of parent_of state_count
chart_is_a_tree = record {
  some = omega arith;
  same_length = refl;
  pre_order = record { root = refl; others = λ s lt. absurd (omega arith) };
  leaves = λ s lt. let alone = leaf_alone s lt in (λ _. alone.1, λ _. alone.0);
}

-- the root can be marked before the start
pub root_can_be_marked : can_mark chart_tree 0 (no_marks chart_tree) ≡ true
unfolding tree_of parent_of state_count no_marks is_on can_mark
root_can_be_marked = refl

-- ---- the data

declared_sort : Sort → Declaration → Sort
declared_sort default d = d.sort

-- both data have numbers of the scale
pub two_data : (scale : Scale) (w : World) → FitsChart scale w → length w.vals ≡ 2
two_data scale w fits = sym (length-map w.vals _) ∙ ap length fits.declared

pub number_sort : (scale : Scale) (w : World) (v : ℕ) → v < 2 → FitsChart scale w
    → (datum w.vals v).sort ≡ sorts.Number scale
unfolding datum
number_sort scale w v lt fits =
    let none : Declaration = record { sort = no_datum.sort; mode = no_datum.mode } in
    let within : v < length w.vals = omega (arith, two_data scale w fits) in
    ap (λ (d : Declaration). d.sort) (sym (get_or-map _ w.vals v no_datum none within) ∙ ap (λ (l : List Declaration). get_or l v none) fits.declared)
    ∙ declared v lt none
  where
    declared : (v : ℕ) → v < 2 → (none : Declaration)
        → (get_or (of_names (chart_names scale)) v none).sort ≡ sorts.Number scale
    declared zero lt none = refl
    declared (suc zero) lt none = refl
    declared (suc (suc v)) lt none = absurd (omega arith)

-- the root can be marked in the world before the start
pub root_can_be_marked_in : (t : Tree) (marks : Configuration) → t ≡ chart_tree → marks ≡ no_marks chart_tree
    → can_mark t 0 marks ≡ true
root_can_be_marked_in t marks tree none =
    ap (λ (x : Tree). can_mark x 0 marks) tree ∙ ap (λ (m : Configuration). can_mark chart_tree 0 m) none
    ∙ root_can_be_marked
