-- Resolved charts, without where they lie in memory.
use Rattle.std.specs.Prelude.{Bool, List, Option}
use Rattle.token_grammar.specs.declared.token.Span.{Span}
use Rattle.chart_tree.specs.declared.name.LitText.{LitText}
use Rattle.chart_tree.specs.declared.expr.UnWord.{UnWord}
use Rattle.chart_tree.specs.declared.expr.BinWord.{BinWord}
use Rattle.chart_tree.specs.declared.sort.InitText.{InitText}
use Rattle.active_config.specs.declared.comp.Comp.{Comp}
use Rattle.active_config.specs.Tree.{Tree}
use Rattle.actions.specs.Names.{Names}
use Rattle.resolved_tree.specs.declared.resolved.Ref.{Ref}
use Rattle.resolved_tree.specs.declared.resolved.ResolvedDest.{ResolvedDest}

-- an expression, with the place of its first token, or of its operator where it has two operands
pub data Expr : Type 0 where
  Lit : LitText → Span → Expr
  Flag : Bool → Span → Expr
  Name : Ref → Expr
  Active : Ref → Span → Expr
  Unary : UnWord → Expr → Span → Expr
  Binary : BinWord → Expr → Expr → Span → Expr

-- a statement
pub data Stmt : Type 0 where
  Assign : Ref → Expr → Stmt
  Send : Ref → Option Ref → Stmt
  Emit : Ref → Stmt

-- a guard, with the place of its bracket
pub record Guard : Type 0 where
  pub expr : Expr
  pub at : Span

-- a transition, with the place of its first token
pub record Trans : Type 0 where
  pub at : Span
  pub event : Option Ref
  pub guard : Option Guard
  pub cond : List Stmt
  pub act : List Stmt
  pub dest : ResolvedDest

-- a junction, with the place of its name
pub record Junction : Type 0 where
  pub at : Span
  pub list : List Trans

-- a state, with the place of its name, its composition word (Leaf where it has neither a word nor children), and the
-- place of the word `history` where that stands
pub record State : Type 0 where
  pub at : Span
  pub word : Comp
  pub history : Option Span
  pub entry : List Stmt
  pub during : List Stmt
  pub exit : List Stmt
  pub outer : List Trans
  pub inner : List Trans
  pub default : List Trans

-- a chart: its tree, what it declares, the first value of each datum, its states in pre-order, and its junctions in
-- the order in which their names stand in the text
pub record Resolved : Type 0 where
  pub tree : Tree
  pub names : Names
  pub inits : List InitText
  pub states : List State
  pub junctions : List Junction
