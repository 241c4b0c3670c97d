-- The bytes of the procedures of states.
use Rattle.std.proofs.Common.{◌≡◌, ℕ, ◌+◌, ◌*◌, ◌≤◌, Bool, true, false, List, [], ◌∷◌, length, reverse, Option}
use Rattle.std.proofs.Common.{Some, None, arith}
use Rattle.std.specs.Prelude.{◌==◌}
use Rattle.std.proofs.lemmas.List.{length-reverse}
use Rattle.active_config.specs.declared.comp.Comp.{Comp}
use Rattle.active_config.specs.declared.comp.Comp.TheVariants.{Leaf, Or, And}
use Rattle.active_config.specs.Tree.{parent_of, comp_of, children_of}
use Rattle.actions.specs.Exprs.{Stmt, Assign, Send, SendTo, Emit}
use Rattle.checked_chart.specs.Chart.{Chart, is_remembered, may_return}
use Rattle.checked_chart.specs.Homes.{child_toward}
use Rattle.checked_chart.specs.Valid.{IsValid}
use Rattle.code_language.specs.Instrs.{Cond, Instr}
use Rattle.chart_code.specs.Numbers.{Numbers}
use Rattle.chart_code.specs.StateProcedures.{block_code, active_code, each_code, leave_code, toward_code}
use Rattle.chart_code.specs.StateProcedures.{enters_code, takes_test, parent_test, inside_code, keep_code}
use Rattle.chart_code.specs.StateProcedures.{active_entry_code, entry_code, enter_code, return_code, search_code}
use Rattle.chart_code.specs.StateProcedures.{defaults_code, arrive_code, active_child_code, regions_code}
use Rattle.chart_code.specs.StateProcedures.{children_code, process_code}
use Rattle.layout_bounds.proofs.Children.{returns_few}
use Rattle.layout_text.specs.Sizes.{cond_limit, lines_limit}

module _ (c : Chart) (valid : IsValid c) (N : Numbers) where
  -- an expression for each statement, and a return
  pub block_lines : (alive : Cond) → cond_limit alive ≤ 40 → (ss : List Stmt)
      → lines_limit (block_code N alive ss) ≤ 2506 * length ss + 40
  block_lines alive h [] = omega arith
  block_lines alive h (Assign v e ∷ ss) = omega (arith, block_lines alive h ss)
  block_lines alive h (Emit e ∷ ss) = omega (arith, block_lines alive h ss)
  block_lines alive h (Send e ∷ ss) = omega (arith, h, block_lines alive h ss)
  block_lines alive h (SendTo e s ∷ ss) = omega (arith, h, block_lines alive h ss)

  -- ---- leaving

  -- three lines for each child of an OR
  active_lines : (proc : ℕ → ℕ) (xs : List ℕ) → lines_limit (active_code proc xs) ≡ 120 * length xs + 40
  active_lines proc [] = omega arith
  active_lines proc (x ∷ xs) = omega (arith, active_lines proc xs)

  -- one for each child of an AND
  each_lines : (proc : ℕ → ℕ) (xs : List ℕ) → lines_limit (each_code proc xs) ≡ 40 * length xs + 40
  each_lines proc [] = omega arith
  each_lines proc (x ∷ xs) = omega (arith, each_lines proc xs)

  -- leaving, by how the state is composed
  pub leave_lines : (s : ℕ) (o : Comp)
      → lines_limit (leave_code N c.tree s o) ≤ 120 * length (children_of c.tree s) + 40
  leave_lines s Leaf = omega arith
  leave_lines s Or = omega (arith, active_lines N.exit (children_of c.tree s))
  leave_lines s And =
      omega (arith, each_lines N.exit (reverse (children_of c.tree s)), length-reverse (children_of c.tree s))

  -- ---- entering

  -- at most a call and a return
  toward_lines : (s d : ℕ) (here : Bool) (way : Option ℕ) → lines_limit (toward_code N s d here way) ≤ 80
  toward_lines s d true way = omega arith
  toward_lines s d false None = omega arith
  toward_lines s d false (Some x) = omega arith

  -- a call for each child, and a return
  enters_lines : (d : ℕ) (xs : List ℕ) → lines_limit (enters_code N c.tree d xs) ≡ 40 * length xs + 40
  enters_lines d [] = omega arith
  enters_lines d (x ∷ xs) = omega (arith, enters_lines d xs)

  -- what is inside
  inside_lines : (s d : ℕ) (o : Comp)
      → lines_limit (inside_code N c.tree s d o) ≤ 40 * length (children_of c.tree s) + 80
  inside_lines s d Leaf = omega arith
  inside_lines s d Or = omega (arith, toward_lines s d (s == d) (child_toward c.tree s d))
  inside_lines s d And = omega (arith, enters_lines d (children_of c.tree s))

  -- a test of a parent
  takes_limit : (p : ℕ) (o : Comp) → cond_limit (takes_test p o) ≤ 40
  takes_limit p Leaf = omega arith
  takes_limit p Or = omega arith
  takes_limit p And = omega arith

  -- where there is one
  parent_lines : (up : Option ℕ) (rest : List Instr) → lines_limit (parent_test c.tree up rest) ≤ lines_limit rest + 120
  parent_lines None rest = omega arith
  parent_lines (Some p) rest = omega (arith, takes_limit p (comp_of c.tree p))

  -- what a parent remembers
  keep_lines : (on : Bool) (s : ℕ) (rest : List Instr) → lines_limit (keep_code on s rest) ≤ lines_limit rest + 40
  keep_lines true s rest = omega arith
  keep_lines false s rest = omega arith

  -- a state is entered
  pub enter_lines : (s d : ℕ)
      → lines_limit (enter_code N c.tree s d (is_remembered c s)) ≤ 40 * length (children_of c.tree s) + 560
  enter_lines s d =
      omega (
        arith,
        parent_lines (parent_of c.tree s) (entry_code N c.tree s d (is_remembered c s)),
        keep_lines (is_remembered c s) s (active_entry_code N c.tree s d),
        inside_lines s d (comp_of c.tree s),
      )

  -- three lines for each child that may be entered again
  return_lines : (xs : List ℕ) (rest : List Instr)
      → lines_limit (return_code N xs rest) ≡ 120 * length xs + lines_limit rest
  return_lines [] rest = omega arith
  return_lines (x ∷ xs) rest = omega (arith, return_lines xs rest)

  -- an OR is entered by default
  pub defaults_lines : (s : ℕ)
      → lines_limit (defaults_code N s (may_return c s)) ≤ 120 * length (children_of c.tree s) + 120
  defaults_lines s = omega (arith, return_lines (may_return c s) (search_code N s), returns_few c valid s)

  -- arriving
  pub arrive_lines : (s d : ℕ) → lines_limit (arrive_code N c.tree s d) ≤ 280
  arrive_lines s d = omega (arith, toward_lines s d (s == d) (child_toward c.tree s d))

  -- ---- processing

  -- five lines for each child of an OR
  active_child_lines : (s : ℕ) (xs : List ℕ) → lines_limit (active_child_code N s xs) ≡ 200 * length xs + 40
  active_child_lines s [] = omega arith
  active_child_lines s (x ∷ xs) = omega (arith, active_child_lines s xs)

  -- five for each child of an AND
  regions_lines : (xs : List ℕ) → lines_limit (regions_code N xs) ≡ 200 * length xs + 40
  regions_lines [] = omega arith
  regions_lines (x ∷ xs) = omega (arith, regions_lines xs)

  -- the children, by how the state is composed
  children_lines : (s : ℕ) (o : Comp)
      → lines_limit (children_code N c.tree s o) ≤ 200 * length (children_of c.tree s) + 40
  children_lines s Leaf = omega arith
  children_lines s Or = omega (arith, active_child_lines s (children_of c.tree s))
  children_lines s And = omega (arith, regions_lines (children_of c.tree s))

  -- a state is processed
  pub process_lines : (s : ℕ) → lines_limit (process_code N c.tree s) ≤ 200 * length (children_of c.tree s) + 560
  process_lines s = omega (arith, children_lines s (comp_of c.tree s))
