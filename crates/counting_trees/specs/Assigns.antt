-- To which names the statements of a chart text assign.
use Rattle.std.specs.Prelude.{ℕ, List}
use Rattle.std.specs.List.{AllByRecursion}
use Rattle.chart_tree.specs.Trees.{Stmt, Assign, Send, Emit, Trans, Junction, Parts, Chart}
use Rattle.chart_places.specs.Placed.{Placed, placed_states}

-- where the statement assigns to a name, it has T
abbrev pub NamesStmt : (List ℕ → Type 0) → Stmt → Type 0
NamesStmt T (Assign name e) = T name.text
NamesStmt T (Send name to) = Unit {0}
NamesStmt T (Emit name) = Unit {0}

-- all names to which a block assigns have T
abbrev pub NamesBlock : (List ℕ → Type 0) → List Stmt → Type 0
NamesBlock T stmts = AllByRecursion (NamesStmt T) stmts

-- all names to which a transition's actions assign
pub record NamesTrans (T : List ℕ → Type 0) (t : Trans) : Type 0 where
  pub cond : NamesBlock T t.cond
  pub act : NamesBlock T t.act

-- all names to which the transitions of a list assign
abbrev pub NamesList : (List ℕ → Type 0) → List Trans → Type 0
NamesList T ts = AllByRecursion (NamesTrans T) ts

-- all names to which a state's actions, its transitions and those of its junctions assign
pub record NamesParts (T : List ℕ → Type 0) (q : Parts) : Type 0 where
  pub entry : NamesBlock T q.entry
  pub during : NamesBlock T q.during
  pub exit : NamesBlock T q.exit
  pub outer : NamesList T q.outer
  pub inner : NamesList T q.inner
  pub default : NamesList T q.default
  pub junctions : AllByRecursion (λ (j : Junction). NamesList T j.list) q.junctions

-- all names to which the statements of a chart text assign have T
abbrev pub AssignsOnly : (List ℕ → Type 0) → Chart → Type 0
AssignsOnly T c = AllByRecursion (λ (x : Placed). NamesParts T x.parts) (placed_states c.root)
