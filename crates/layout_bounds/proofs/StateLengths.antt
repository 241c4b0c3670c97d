-- How many instructions the procedures of states have.
use Rattle.std.proofs.Common.{◌≡◌, ℕ, ◌+◌, ◌*◌, ◌<◌, ◌≤◌, Bool, true, false, List, [], ◌∷◌, length, reverse, Option}
use Rattle.std.proofs.Common.{Some, None, refl, arith}
use Rattle.std.specs.Prelude.{◌==◌}
use Rattle.std.proofs.lemmas.List.{length-reverse}
use Rattle.active_config.specs.declared.comp.Comp.{Comp}
use Rattle.active_config.specs.declared.comp.Comp.TheVariants.{Leaf, Or, And}
use Rattle.active_config.specs.Tree.{state_count, parent_of, comp_of, children_of}
use Rattle.actions.specs.Exprs.{Stmt, Assign, Send, SendTo, Emit}
use Rattle.checked_chart.specs.Chart.{Chart, is_remembered, may_return}
use Rattle.checked_chart.specs.Homes.{child_toward}
use Rattle.checked_chart.specs.Valid.{IsValid}
use Rattle.code_language.specs.Instrs.{Cond, Instr}
use Rattle.chart_code.specs.Numbers.{Numbers}
use Rattle.chart_code.specs.StateProcedures.{block_code, active_code, each_code, leave_code, toward_code}
use Rattle.chart_code.specs.StateProcedures.{enters_code}
use Rattle.chart_code.specs.StateProcedures.{parent_test, inside_code, keep_code, active_entry_code, entry_code}
use Rattle.chart_code.specs.StateProcedures.{enter_code, return_code, search_code, defaults_code, arrive_code}
use Rattle.chart_code.specs.StateProcedures.{active_child_code, regions_code, children_code}
use Rattle.layout_bounds.specs.Lengths.{StateLengths}
use Rattle.layout_bounds.proofs.Children.{returns_few}

module _ (c : Chart) (valid : IsValid c) (N : Numbers) where
  -- four instructions for each statement, and a return
  block_length : (alive : Cond) (ss : List Stmt) → length (block_code N alive ss) ≤ 4 * length ss + 1
  block_length alive [] = omega arith
  block_length alive (Assign v e ∷ ss) = omega (arith, block_length alive ss)
  block_length alive (Emit e ∷ ss) = omega (arith, block_length alive ss)
  block_length alive (Send e ∷ ss) = omega (arith, block_length alive ss)
  block_length alive (SendTo e s ∷ ss) = omega (arith, block_length alive ss)

  -- ---- leaving

  -- three for each child of an OR
  active_length : (proc : ℕ → ℕ) (xs : List ℕ) → length (active_code proc xs) ≡ 3 * length xs + 1
  active_length proc [] = omega arith
  active_length proc (x ∷ xs) = omega (arith, active_length proc xs)

  -- one for each child of an AND
  each_length : (proc : ℕ → ℕ) (xs : List ℕ) → length (each_code proc xs) ≡ length xs + 1
  each_length proc [] = omega arith
  each_length proc (x ∷ xs) = omega (arith, each_length proc xs)

  -- leaving, by how the state is composed
  leave_length : (s : ℕ) (o : Comp) → length (leave_code N c.tree s o) ≤ 3 * length (children_of c.tree s) + 1
  leave_length s Leaf = omega arith
  leave_length s Or = omega (arith, active_length N.exit (children_of c.tree s))
  leave_length s And =
      omega (arith, each_length N.exit (reverse (children_of c.tree s)), length-reverse (children_of c.tree s))

  -- ---- entering

  -- at most a call and a return
  toward_length : (s d : ℕ) (here : Bool) (way : Option ℕ) → length (toward_code N s d here way) ≤ 2
  toward_length s d true way = omega arith
  toward_length s d false None = omega arith
  toward_length s d false (Some x) = omega arith

  -- a call for each child, and a return
  enters_length : (d : ℕ) (xs : List ℕ) → length (enters_code N c.tree d xs) ≡ length xs + 1
  enters_length d [] = omega arith
  enters_length d (x ∷ xs) = omega (arith, enters_length d xs)

  -- an OR has a child
  or_some : (s : ℕ) → s < state_count c.tree → comp_of c.tree s ≡ Or → 0 < length (children_of c.tree s)
  or_some s lt or = go (children_of c.tree s) refl
    where
      go : (xs : List ℕ) → children_of c.tree s ≡ xs → 0 < length xs
      go [] e = let leaf = (valid.tree.leaves s lt).1 e in absurd (cc (leaf, or))
      go (x ∷ xs) e = omega arith

  -- what is inside
  inside_length : (s d : ℕ) (o : Comp) → s < state_count c.tree → comp_of c.tree s ≡ o
      → length (inside_code N c.tree s d o) ≤ length (children_of c.tree s) + 1
  inside_length s d Leaf lt e = omega arith
  inside_length s d Or lt e =
      omega (arith, toward_length s d (s == d) (child_toward c.tree s d), or_some s lt e)
  inside_length s d And lt e = omega (arith, enters_length d (children_of c.tree s))

  -- a parent's test
  parent_length : (up : Option ℕ) (rest : List Instr) → length (parent_test c.tree up rest) ≤ length rest + 3
  parent_length None rest = omega arith
  parent_length (Some q) rest = omega arith

  -- what a parent remembers
  keep_length : (on : Bool) (s : ℕ) (rest : List Instr) → length (keep_code on s rest) ≤ length rest + 1
  keep_length true s rest = omega arith
  keep_length false s rest = omega arith

  -- a state is entered
  enter_length : (s d : ℕ) → s < state_count c.tree
      → length (enter_code N c.tree s d (is_remembered c s)) ≤ length (children_of c.tree s) + 13
  enter_length s d lt =
      omega (
        arith,
        parent_length (parent_of c.tree s) (entry_code N c.tree s d (is_remembered c s)),
        keep_length (is_remembered c s) s (active_entry_code N c.tree s d),
        inside_length s d (comp_of c.tree s) lt refl,
      )

  -- three for each child that may be entered again
  return_length : (xs : List ℕ) (rest : List Instr) → length (return_code N xs rest) ≡ 3 * length xs + length rest
  return_length [] rest = omega arith
  return_length (x ∷ xs) rest = omega (arith, return_length xs rest)

  -- an OR is entered by default
  defaults_length : (s : ℕ) → length (defaults_code N s (may_return c s)) ≤ 3 * length (children_of c.tree s) + 3
  defaults_length s = omega (arith, return_length (may_return c s) (search_code N s), returns_few c valid s)

  -- arriving
  arrive_length : (s d : ℕ) → length (arrive_code N c.tree s d) ≤ 7
  arrive_length s d = omega (arith, toward_length s d (s == d) (child_toward c.tree s d))

  -- ---- processing

  -- five for each child of an OR
  active_child_length : (s : ℕ) (xs : List ℕ) → length (active_child_code N s xs) ≡ 5 * length xs + 1
  active_child_length s [] = omega arith
  active_child_length s (x ∷ xs) = omega (arith, active_child_length s xs)

  -- five for each child of an AND
  regions_length : (xs : List ℕ) → length (regions_code N xs) ≡ 5 * length xs + 1
  regions_length [] = omega arith
  regions_length (x ∷ xs) = omega (arith, regions_length xs)

  -- the children, by how the state is composed
  children_length : (s : ℕ) (o : Comp) → length (children_code N c.tree s o) ≤ 5 * length (children_of c.tree s) + 1
  children_length s Leaf = omega arith
  children_length s Or = omega (arith, active_child_length s (children_of c.tree s))
  children_length s And = omega (arith, regions_length (children_of c.tree s))

  -- all of them
  pub state_lengths : StateLengths c N
  state_lengths = record {
    end_mark = refl;
    block = block_length;
    guard = λ e. refl;
    leave = λ s. leave_length s (comp_of c.tree s);
    exit = λ s. refl;
    enter = enter_length;
    defaults = defaults_length;
    arrive = arrive_length;
    take = λ s d. refl;
    process = λ s. omega (arith, children_length s (comp_of c.tree s));
  }
