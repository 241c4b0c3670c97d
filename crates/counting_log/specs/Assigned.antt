-- To which data the statements of a chart assign.
use Rattle.std.specs.Prelude.{ℕ, List}
use Rattle.std.specs.List.{AllByRecursion}
use Rattle.actions.specs.Exprs.{Stmt, Assign, Send, SendTo, Emit}
use Rattle.checked_chart.specs.Chart.{Chart, Node, Trans, node, junction}

-- where the statement assigns to a datum, it has Q
abbrev pub OnlyStmt : (ℕ → Type 0) → Stmt → Type 0
OnlyStmt Q (Assign v e) = Q v
OnlyStmt Q (Send e) = Unit {0}
OnlyStmt Q (SendTo e s) = Unit {0}
OnlyStmt Q (Emit e) = Unit {0}

-- all data to which an action assigns have Q
abbrev pub OnlyBlock : (ℕ → Type 0) → List Stmt → Type 0
OnlyBlock Q stmts = AllByRecursion (OnlyStmt Q) stmts

-- all data to which a transition's actions assign
pub record OnlyTrans (Q : ℕ → Type 0) (t : Trans) : Type 0 where
  pub condition : OnlyBlock Q t.condition
  pub action : OnlyBlock Q t.action

-- all data to which the transitions of a list assign
abbrev pub OnlyList : (ℕ → Type 0) → List Trans → Type 0
OnlyList Q ts = AllByRecursion (OnlyTrans Q) ts

-- all data to which a state's actions and transitions assign
pub record OnlyNode (Q : ℕ → Type 0) (n : Node) : Type 0 where
  pub entry : OnlyBlock Q n.entry
  pub during : OnlyBlock Q n.during
  pub exit : OnlyBlock Q n.exit
  pub outer : OnlyList Q n.outer
  pub inner : OnlyList Q n.inner
  pub default : OnlyList Q n.default

-- all data to which the statements of a chart assign have Q
pub record OnlyChart (Q : ℕ → Type 0) (c : Chart) : Type 0 where
  pub nodes : (s : ℕ) → OnlyNode Q (node c s)
  pub junctions : (j : ℕ) → OnlyList Q (junction c j)
