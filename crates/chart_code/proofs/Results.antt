-- The results that the procedures of states return and test are below any limit that is high enough.
use Rattle.std.proofs.Common.{ℕ, suc, ◌<◌, ◌≤◌, Bool, true, false, List, [], ◌∷◌, ◌++◌, reverse, Option}
use Rattle.std.proofs.Common.{Some, None, arith}
use Rattle.std.specs.Prelude.{◌==◌}
use Rattle.std.specs.List.{AllByRecursion}
use Rattle.active_config.specs.declared.comp.Comp.{Comp}
use Rattle.active_config.specs.declared.comp.Comp.TheVariants.{Leaf, Or, And}
use Rattle.active_config.specs.Tree.{Tree, parent_of, comp_of, children_of}
use Rattle.actions.specs.Exprs.{Stmt, Expr, Assign as Assigns, Send as Sends, SendTo as SendsTo, Emit as Emits}
use Rattle.checked_chart.specs.Homes.{child_toward}
use Rattle.code_language.specs.Instrs.{Cond, On, Bare, OnHome, BareHome, Current}
use Rattle.code_language.specs.Instrs.{Result, Test, Last, Instr, Assign, Emit}
use Rattle.code_language.specs.Instrs.{Mark, Clear, Keep, Unless, Skip, Call, Visit}
use Rattle.code_language.specs.Instrs.{Send, SendTo, Play, Home, Begin, Pass}
use Rattle.code_language.specs.Instrs.{Ret}
use Rattle.chart_code.specs.Numbers.{Numbers}
use Rattle.chart_code.specs.StateProcedures.{block_code, guard_code, active_code, each_code, leave_code}
use Rattle.chart_code.specs.StateProcedures.{exit_code, toward_code, enters_code, takes_test, parent_test}
use Rattle.chart_code.specs.StateProcedures.{inside_code}
use Rattle.chart_code.specs.StateProcedures.{keep_code, active_entry_code, entry_code, enter_code, return_code}
use Rattle.chart_code.specs.StateProcedures.{search_code, defaults_code, arrive_code, take_code}
use Rattle.chart_code.specs.StateProcedures.{active_child_code}
use Rattle.chart_code.specs.StateProcedures.{regions_code, children_code, process_code}

-- a result that a condition tests is below a limit
abbrev pub TestBelow : ℕ → Cond → Type 0
TestBelow limit (On s) = Unit {0}
TestBelow limit (Bare s) = Unit {0}
TestBelow limit OnHome = Unit {0}
TestBelow limit BareHome = Unit {0}
TestBelow limit (Current e) = Unit {0}
TestBelow limit (Result r) = r < limit
TestBelow limit (Test x) = Unit {0}
TestBelow limit (Last s) = Unit {0}

-- a result of an instruction is
abbrev pub ResultBelow : ℕ → Instr → Type 0
ResultBelow limit (Assign v x) = Unit {0}
ResultBelow limit (Emit e) = Unit {0}
ResultBelow limit (Mark s) = Unit {0}
ResultBelow limit (Clear s) = Unit {0}
ResultBelow limit (Keep s) = Unit {0}
ResultBelow limit (Unless k c) = TestBelow limit c
ResultBelow limit (Skip k) = Unit {0}
ResultBelow limit (Call p tag) = Unit {0}
ResultBelow limit (Visit p tag) = Unit {0}
ResultBelow limit (Send e) = Unit {0}
ResultBelow limit (SendTo e s p) = Unit {0}
ResultBelow limit Play = Unit {0}
ResultBelow limit (Home s) = Unit {0}
ResultBelow limit Begin = Unit {0}
ResultBelow limit Pass = Unit {0}
ResultBelow limit (Ret r) = r < limit

-- those of instructions are
abbrev pub ResultsBelow : ℕ → List Instr → Type 0
ResultsBelow limit is = AllByRecursion (ResultBelow limit) is

-- two lists
pub results_append : (limit : ℕ) (xs ys : List Instr) → ResultsBelow limit xs → ResultsBelow limit ys → ResultsBelow limit (xs ++ ys)
results_append limit [] ys h g = g
results_append limit (x ∷ xs) ys h g = (h.0, results_append limit xs ys h.1 g)

module _ (limit : ℕ) (enough : 3 ≤ limit) where
  -- the results that need no state
  pub no : 0 < limit
  no = omega arith

  pub yes : 1 < limit
  yes = omega arith

  pub ended : 2 < limit
  ended = omega arith

  -- a return of 1
  done : ResultsBelow limit (Ret 1 ∷ [])
  done = (yes, tt)

  module _ (t : Tree) (N : Numbers) where
    -- a block
    pub block_results : (alive : Cond) → TestBelow limit alive → (ss : List Stmt) → ResultsBelow limit (block_code N alive ss)
    block_results alive h [] = done
    block_results alive h (Assigns v e ∷ ss) = (tt, block_results alive h ss)
    block_results alive h (Emits e ∷ ss) = (tt, block_results alive h ss)
    block_results alive h (Sends e ∷ ss) = (tt, (h, (tt, (yes, block_results alive h ss))))
    block_results alive h (SendsTo e s ∷ ss) = (tt, (h, (tt, (yes, block_results alive h ss))))

    -- a guard
    pub guard_results : (e : Expr) → ResultsBelow limit (guard_code e)
    guard_results e = (tt, (yes, (no, tt)))

    -- ---- leaving

    active_results : (proc : ℕ → ℕ) (xs : List ℕ) → ResultsBelow limit (active_code proc xs)
    active_results proc [] = done
    active_results proc (x ∷ xs) = (tt, (tt, (yes, active_results proc xs)))

    each_results : (proc : ℕ → ℕ) (xs : List ℕ) → ResultsBelow limit (each_code proc xs)
    each_results proc [] = done
    each_results proc (x ∷ xs) = (tt, each_results proc xs)

    -- the children of a state are left
    pub leave_results : (s : ℕ) (o : Comp) → ResultsBelow limit (leave_code N t s o)
    leave_results s Leaf = done
    leave_results s Or = active_results N.exit (children_of t s)
    leave_results s And = each_results N.exit (reverse (children_of t s))

    -- a state is left
    pub exit_results : (s : ℕ) → ResultsBelow limit (exit_code N s)
    exit_results s = (tt, (tt, (tt, (yes, (tt, (tt, (tt, (yes, (tt, (tt, done))))))))))

    -- ---- entering

    toward_results : (s d : ℕ) (here : Bool) (way : Option ℕ) → ResultsBelow limit (toward_code N s d here way)
    toward_results s d true way = (tt, done)
    toward_results s d false None = done
    toward_results s d false (Some x) = (tt, done)

    enters_results : (d : ℕ) (xs : List ℕ) → ResultsBelow limit (enters_code N t d xs)
    enters_results d [] = done
    enters_results d (x ∷ xs) = (tt, enters_results d xs)

    -- what is inside
    inside_results : (s d : ℕ) (o : Comp) → ResultsBelow limit (inside_code N t s d o)
    inside_results s d Leaf = done
    inside_results s d Or = toward_results s d (s == d) (child_toward t s d)
    inside_results s d And = enters_results d (children_of t s)

    -- a test of a parent tests no result
    takes_result : (p : ℕ) (o : Comp) → TestBelow limit (takes_test p o)
    takes_result p Leaf = tt
    takes_result p Or = tt
    takes_result p And = tt

    parent_results : (up : Option ℕ) (rest : List Instr) → ResultsBelow limit rest → ResultsBelow limit (parent_test t up rest)
    parent_results None rest h = h
    parent_results (Some p) rest h = (takes_result p (comp_of t p), (tt, (yes, h)))

    keep_results : (on : Bool) (s : ℕ) (rest : List Instr) → ResultsBelow limit rest → ResultsBelow limit (keep_code on s rest)
    keep_results true s rest h = (tt, h)
    keep_results false s rest h = h

    -- a state is entered
    pub enter_results : (s d : ℕ) (remembered : Bool) → ResultsBelow limit (enter_code N t s d remembered)
    enter_results s d remembered =
        let active : ResultsBelow limit (active_entry_code N t s d) = (tt, (tt, (tt, (yes, inside_results s d (comp_of t s))))) in
        let entry : ResultsBelow limit (entry_code N t s d remembered) =
        (tt, keep_results remembered s (active_entry_code N t s d) active) in
        (tt, (tt, (yes, parent_results (parent_of t s) (entry_code N t s d remembered) entry)))

    return_results : (xs : List ℕ) (rest : List Instr) → ResultsBelow limit rest → ResultsBelow limit (return_code N xs rest)
    return_results [] rest h = h
    return_results (x ∷ xs) rest h = (tt, (tt, (yes, return_results xs rest h)))

    -- an OR is entered by default
    pub defaults_results : (s : ℕ) (xs : List ℕ) → ResultsBelow limit (defaults_code N s xs)
    defaults_results s xs = (tt, return_results xs (search_code N s) (tt, done))

    -- ---- firing

    -- arriving
    pub arrive_results : (s d : ℕ) → ResultsBelow limit (arrive_code N t s d)
    arrive_results s d = (tt, (tt, (tt, (tt, (yes, toward_results s d (s == d) (child_toward t s d))))))

    -- a firing
    pub take_results : (s d : ℕ) → ResultsBelow limit (take_code N s d)
    take_results s d = (tt, (tt, done))

    -- ---- processing

    active_child_results : (s : ℕ) → suc (suc (suc s)) < limit → (xs : List ℕ) → ResultsBelow limit (active_child_code N s xs)
    active_child_results s h [] = done
    active_child_results s h (x ∷ xs) = (tt, (tt, (h, (yes, (tt, active_child_results s h xs)))))

    regions_results : (xs : List ℕ) → ResultsBelow limit (regions_code N xs)
    regions_results [] = done
    regions_results (x ∷ xs) = (tt, (tt, (yes, (tt, (tt, regions_results xs)))))

    children_results : (s : ℕ) → suc (suc (suc s)) < limit → (o : Comp) → ResultsBelow limit (children_code N t s o)
    children_results s h Leaf = done
    children_results s h Or = active_child_results s h (children_of t s)
    children_results s h And = regions_results (children_of t s)

    -- a state is processed
    pub process_results : (s : ℕ) → suc (suc (suc s)) < limit → ResultsBelow limit (process_code N t s)
    process_results s h =
        let children = children_results s h (comp_of t s) in
        (tt, (tt, (ended, (tt, (tt, (tt, (tt, (tt, (yes, (tt, (ended, (tt, (tt, children)))))))))))))
