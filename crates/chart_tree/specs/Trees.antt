-- Trees of chart texts, without where they lie in memory.
use Rattle.std.specs.Prelude.{ℕ, Bool, List, Option}
use Rattle.token_grammar.specs.declared.token.Span.{Span}
use Rattle.chart_tree.specs.declared.name.NameText.{NameText}
use Rattle.chart_tree.specs.declared.name.LitText.{LitText}
use Rattle.chart_tree.specs.declared.expr.UnWord.{UnWord}
use Rattle.chart_tree.specs.declared.expr.BinWord.{BinWord}
use Rattle.chart_tree.specs.declared.state.CompText.{CompText}
use Rattle.chart_tree.specs.declared.chart.EventText.{EventText}
use Rattle.chart_tree.specs.declared.chart.VarWord.{VarWord}
use Rattle.chart_tree.specs.declared.sort.InitText.{InitText}
use Rattle.fixed_point.specs.declared.fitting.Mode.{Mode}

-- the parts of a scale: whether it is signed, its width and its fraction
pub record ScaleParts : Type 0 where
  pub signed : Bool
  pub width : ℕ
  pub frac : ℕ

-- the sort of a datum: which values it may have, and what is done with a number out of range
pub data Sort : Type 0 where
  FlagSort : Sort
  NumberSort : ScaleParts → Mode → Sort

-- the declaration of a datum
pub record Var : Type 0 where
  pub kind : VarWord
  pub name : NameText
  pub sort : Sort
  pub init : InitText

-- the names of a path from the top down
abbrev pub Path : Type 0
Path = List NameText

-- an expression, with the place of its first token, or of its operator where it has two operands
pub data Expr : Type 0 where
  Lit : LitText → Span → Expr
  Flag : Bool → Span → Expr
  Name : NameText → Expr
  Active : Path → Span → Expr
  Unary : UnWord → Expr → Span → Expr
  Binary : BinWord → Expr → Expr → Span → Expr

-- a statement
pub data Stmt : Type 0 where
  Assign : NameText → Expr → Stmt
  Send : NameText → Option Path → Stmt
  Emit : NameText → Stmt

-- where a transition leads
pub data Dest : Type 0 where
  ToState : Path → Dest
  ToJunction : NameText → Dest

-- a guard, with the place of its bracket
pub record Guard : Type 0 where
  pub expr : Expr
  pub at : Span

-- a transition, with the place of its first token
pub record Trans : Type 0 where
  pub at : Span
  pub event : Option NameText
  pub guard : Option Guard
  pub cond : List Stmt
  pub act : List Stmt
  pub dest : Dest

-- a junction
pub record Junction : Type 0 where
  pub name : NameText
  pub list : List Trans

-- what a state has beside its child states, with the place of the word `history` where that stands
pub record Parts : Type 0 where
  pub name : NameText
  pub comp : CompText
  pub entry : List Stmt
  pub during : List Stmt
  pub exit : List Stmt
  pub history : Option Span
  pub outer : List Trans
  pub inner : List Trans
  pub default : List Trans
  pub junctions : List Junction

-- a state with its child states, and states in order
mutual
  pub data State : Type 0 where
    StateOf : Parts → States → State

  pub data States : Type 0 where
    NoState : States
    MoreStates : State → States → States

-- a chart
pub record Chart : Type 0 where
  pub events : List EventText
  pub vars : List Var
  pub root : State
