-- Trees of statechart texts, without where they lie in memory. What isn't said here is as in a chart text.
use Rattle.std.specs.Prelude.{Bool, List, Option}
use Rattle.token_grammar.specs.declared.token.Span.{Span}
use Rattle.chart_tree.specs.declared.name.NameText.{NameText}
use Rattle.chart_tree.specs.declared.name.LitText.{LitText}
use Rattle.chart_tree.specs.declared.expr.UnWord.{UnWord}
use Rattle.chart_tree.specs.declared.expr.BinWord.{BinWord}
use Rattle.chart_tree.specs.declared.state.CompText.{CompText}
use Rattle.chart_tree.specs.declared.chart.VarWord.{VarWord}
use Rattle.chart_tree.specs.declared.sort.InitText.{InitText}
use Rattle.chart_tree.specs.Trees as core
use Rattle.chart_tree.specs.Trees.{Path, Dest}
use Rattle.statechart_tree.specs.declared.expr.TimeWord.{TimeWord}
use Rattle.statechart_tree.specs.declared.declarations.SourceEvent.{SourceEvent}
use Rattle.statechart_tree.specs.declared.declarations.Member.{Member}

-- ---- expressions and statements

mutual
  -- an expression. Count: `temporalCount(E)`; Timed: `after(N, E)` and so on, with the place of the word
  pub data Expr : Type 0 where
    Lit : LitText → Span → Expr
    Flag : Bool → Span → Expr
    Name : Path → Expr
    Active : Path → Span → Expr
    Count : NameText → Span → Expr
    Timed : TimeWord → Expr → NameText → Span → Expr
    Call : NameText → Exprs → Expr
    Unary : UnWord → Expr → Span → Expr
    Binary : BinWord → Expr → Expr → Span → Expr

  -- expressions in order
  pub data Exprs : Type 0 where
    NoExpr : Exprs
    MoreExprs : Expr → Exprs → Exprs

-- a statement. Update: `x += e`, Step: `x++`, each with the place of the operator; Raise: `E;`; Invoke: `f(3);`
pub data Stmt : Type 0 where
  Assign : Path → Expr → Stmt
  Update : Path → BinWord → Expr → Span → Stmt
  Step : Path → BinWord → Span → Stmt
  Send : NameText → Option Path → Stmt
  Emit : NameText → Stmt
  Raise : NameText → Stmt
  Invoke : NameText → Exprs → Stmt

-- ---- transitions and actions

-- the event of a case: any, this one, or `after(N, E)` and so on or `every(N, E)`, with the place of the word
pub data Trigger : Type 0 where
  Always : Trigger
  On : NameText → Trigger
  AtTime : TimeWord → Expr → NameText → Span → Trigger
  Every : Expr → NameText → Span → Trigger

-- a guard, with the place of its bracket
pub record Guard : Type 0 where
  pub expr : Expr
  pub at : Span

-- one of the cases in which a transition is tried
pub record Case : Type 0 where
  pub trigger : Trigger
  pub guard : Option Guard

-- a transition, with the place of its first token
pub record Trans : Type 0 where
  pub at : Span
  pub cases : List Case
  pub cond : List Stmt
  pub act : List Stmt
  pub dest : Dest

-- a junction
pub record Junction : Type 0 where
  pub name : NameText
  pub list : List Trans

-- when an action is done; `on CASES` has the place of the word
pub data ActionWord : Type 0 where
  Entry : ActionWord
  During : ActionWord
  Exit : ActionWord
  OnCases : List Case → Span → ActionWord

-- a block, and the words before it
pub record Action : Type 0 where
  pub words : List ActionWord
  pub block : List Stmt

-- ---- declarations

-- the sort of a datum: one that a chart text has, too, or the numbers of an enumeration
pub data Sort : Type 0 where
  Plain : core.Sort → Sort
  OfEnumeration : NameText → Sort

-- the first value of a datum or the value of a constant: none is written; a number or a flag; that of a constant or an
-- enumerator, with whether a minus sign stands before it, and with the place of the first token
pub data First : Type 0 where
  Missing : First
  Given : InitText → First
  Named : Bool → Path → Span → First

-- the declaration of a datum
pub record Var : Type 0 where
  pub kind : VarWord
  pub name : NameText
  pub sort : Sort
  pub init : First

-- an enumeration
pub record Enumeration : Type 0 where
  pub name : NameText
  pub members : List Member

-- a constant
pub record Constant : Type 0 where
  pub name : NameText
  pub sort : Option Sort
  pub value : First

-- what a function stands for: statements, or a value
pub data Body : Type 0 where
  Block : List Stmt → Body
  Value : Expr → Body

-- a function
pub record Function : Type 0 where
  pub name : NameText
  pub params : List NameText
  pub body : Body

-- ---- states

-- what a state has beside its child states
pub record Parts : Type 0 where
  pub name : NameText
  pub comp : CompText
  pub vars : List Var
  pub actions : List Action
  pub history : Option Span
  pub outer : List Trans
  pub inner : List Trans
  pub default : List Trans
  pub junctions : List Junction

-- a state with its child states, and states in order
mutual
  pub data State : Type 0 where
    StateOf : Parts → States → State

  pub data States : Type 0 where
    NoState : States
    MoreStates : State → States → States

-- a statechart; the data of the root are its own
pub record Statechart : Type 0 where
  pub enumerations : List Enumeration
  pub constants : List Constant
  pub events : List SourceEvent
  pub functions : List Function
  pub root : State
