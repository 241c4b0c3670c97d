-- How much work it is to enter a state.
use Rattle.std.proofs.Common.{◌≡◌, ℕ, ◌+◌, ◌≤◌, Bool, true, false, List, [], ◌∷◌, Option, Some, None, refl, arith}
use Rattle.std.specs.Prelude.{◌==◌}
use Rattle.std.specs.List.{AllByRecursion, sum_by}
use Rattle.std.proofs.lemmas.List.Sums.{sum_by-cons}
use Rattle.active_config.specs.declared.comp.Comp.{Comp}
use Rattle.active_config.specs.declared.comp.Comp.TheVariants.{Leaf, Or, And}
use Rattle.active_config.specs.Tree.{parent_of, comp_of, children_of, is_at_or_below}
use Rattle.checked_chart.specs.Chart.{Chart, is_remembered}
use Rattle.checked_chart.specs.Homes.{child_toward, path_in}
use Rattle.checked_chart.specs.Valid.{IsValid}
use Rattle.checked_chart.proofs.Trees.{find_all, toward_is_child}
use Rattle.code_language.specs.Instrs.{Instr}
use Rattle.code_language.specs.Measures.{work_from, lefts, work_by}
use Rattle.chart_code.specs.Kinds.{IsPath}
use Rattle.chart_code.specs.Numbers.{Numbers}
use Rattle.chart_code.specs.StateProcedures.{toward_code, enters_code, parent_test, inside_code, keep_code}
use Rattle.chart_code.specs.StateProcedures.{active_entry_code, entry_code, enter_code}
use Rattle.chart_code.proofs.Enters.{path_at}
use Rattle.layout_bounds.specs.Calls.{ArriveCalls}
use Rattle.layout_bounds.specs.Works.{EnterShares}
use Rattle.layout_bounds.proofs.Children.{on_children, to_defaults, to_child}

-- each share is within a number that the sum of them is within
each_within : (share : ℕ → ℕ) (m : ℕ) (xs : List ℕ) → sum_by share xs ≤ m → AllByRecursion (λ x. share x ≤ m) xs
each_within share m [] low = tt
each_within share m (x ∷ xs) low =
    (omega (arith, sum_by-cons share x xs, low), each_within share m xs (omega (arith, sum_by-cons share x xs, low)))

module _ (c : Chart) (valid : IsValid c) (N : Numbers) (w : ℕ → ℕ) where
  -- along a path
  toward_by : (s d m : ℕ) (here : Bool) (way : Option ℕ) → (here ≡ true → w (N.defaults s) ≤ m)
      → (here ≡ false → (x : ℕ) → way ≡ Some x → w (N.enter x d) ≤ m)
      → work_by w (toward_code N s d here way) ≤ m + 2
  unfolding work_by lefts work_from
  toward_by s d m true way end on = omega (arith, end refl)
  toward_by s d m false None end on = omega arith
  toward_by s d m false (Some x) end on = omega (arith, on refl x refl)

  -- the same from what is called
  pub toward_work : (s d m : ℕ) → ArriveCalls c.tree N (λ q. w q ≤ m) s d
      → work_by w (toward_code N s d (s == d) (child_toward c.tree s d)) ≤ m + 2
  toward_work s d m calls =
      toward_by s d m (s == d) (child_toward c.tree s d) (to_defaults c valid N (λ q. w q ≤ m) s d calls)
      (to_child c valid N (λ q. w q ≤ m) s d calls)

  -- a parent's test
  parent_work : (up : Option ℕ) (rest : List Instr) → work_by w (parent_test c.tree up rest) ≤ work_by w rest + 2
  unfolding work_by lefts work_from
  parent_work None rest = omega arith
  parent_work (Some q) rest = omega arith

  -- what a parent remembers
  keep_work : (on : Bool) (s : ℕ) (rest : List Instr) → work_by w (keep_code on s rest) ≤ work_by w rest + 1
  unfolding work_by lefts work_from
  keep_work true s rest = omega arith
  keep_work false s rest = omega arith

  module _ (share : ℕ → ℕ) where
    -- each child of an AND
    enters_work : (d : ℕ) (xs : List ℕ) → AllByRecursion (λ x. w (N.enter x (path_in c.tree x d)) + 1 ≤ share x) xs
        → work_by w (enters_code N c.tree d xs) ≤ sum_by share xs + 1
    unfolding work_by lefts work_from
    enters_work d [] all = omega arith
    enters_work d (x ∷ xs) all = omega (arith, all.0, enters_work d xs all.1, sum_by-cons share x xs)

    -- the share of the child towards a state is within what all shares are
    toward_share : (s d m x : ℕ) → sum_by share (children_of c.tree s) ≤ m → child_toward c.tree s d ≡ Some x
        → share x ≤ m
    unfolding child_toward
    toward_share s d m x low way =
        (find_all (λ y. is_at_or_below c.tree d y) (λ y. share y ≤ m) (children_of c.tree s) x
        (each_within share m (children_of c.tree s) low) way).1

    -- what is inside
    inside_work : (s d m : ℕ) (o : Comp) → w (N.defaults s) ≤ m → EnterShares c N w share s
        → sum_by share (children_of c.tree s) ≤ m → work_by w (inside_code N c.tree s d o) ≤ m + 2
    unfolding work_by lefts work_from
    inside_work s d m Leaf end shares low = omega arith
    inside_work s d m Or end shares low =
        toward_by s d m (s == d) (child_toward c.tree s d) (λ here. end) (λ other x way.
        let child = toward_is_child c.tree valid.tree s d x way in
        let path : IsPath c.tree x d = record { state = child.1.within; below = child.0 } in
        omega (arith, shares x d child.1.parent path, toward_share s d m x low way))
    inside_work s d m And end shares low =
        omega (
          arith,
          enters_work d (children_of c.tree s)
              (on_children c valid (λ x. w (N.enter x (path_in c.tree x d)) + 1 ≤ share x) s
              (λ x lt up. shares x (path_in c.tree x d) up (path_at c.tree x d (is_at_or_below c.tree d x) refl lt))),
          low,
        )

    -- a state is entered
    pub enter_work : (s d m : ℕ) → w (N.defaults s) ≤ m → EnterShares c N w share s
        → sum_by share (children_of c.tree s) ≤ m
        → work_by w (enter_code N c.tree s d (is_remembered c s)) ≤ w (N.entry s) + m + 11
    unfolding work_by lefts work_from
    enter_work s d m end shares low =
        omega (
          arith,
          parent_work (parent_of c.tree s) (entry_code N c.tree s d (is_remembered c s)),
          keep_work (is_remembered c s) s (active_entry_code N c.tree s d),
          inside_work s d m (comp_of c.tree s) end shares low,
        )
