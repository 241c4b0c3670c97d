-- The conditions that a chart and each of its parts meet where some text spells them.
use Rattle.std.specs.Prelude.{◌≡◌, ℕ, zero, suc, ◌≤◌, Bool, false, IsTrue, List, [], ◌∷◌, length, Option, Some, None}
use Rattle.std.specs.List.{AllByRecursion}
use Rattle.token_grammar.specs.declared.fault.Thing.TheVariants as things
use Rattle.fixed_point.specs.declared.scale.TheConstants.{WIDTH_LIMIT, PLACES_LIMIT}
use Rattle.fixed_point.specs.Reading.{number_read}
use Rattle.chart_lexer.specs.Words.{is_name}
use Rattle.chart_tree.specs.declared.name.NameText.{NameText}
use Rattle.chart_tree.specs.declared.name.LitText.{LitText}
use Rattle.chart_tree.specs.declared.state.CompText.{CompText}
use Rattle.chart_tree.specs.declared.sort.InitText.{InitText}
use Rattle.chart_tree.specs.declared.sort.InitText.TheVariants as inits
use Rattle.chart_tree.specs.declared.chart.EventText.{EventText}
use Rattle.chart_tree.specs.Trees.{ScaleParts, Sort, FlagSort, NumberSort, Var, Path, Expr, Lit, Flag, Name, Active}
use Rattle.chart_tree.specs.Trees.{Unary, Binary, Stmt, Assign, Send, Emit, Dest, ToState, ToJunction, Trans}
use Rattle.chart_tree.specs.Trees.{Junction, Parts, State, StateOf, States, NoState, MoreStates, Chart}
use Rattle.chart_grammar.specs.Limits.{most, usual}
use Rattle.chart_grammar.specs.Words.{lit_of, fault_of_number}
use Rattle.chart_grammar.specs.Declarations.{zero_lit}
use Rattle.chart_grammar.specs.States.{comp_with}
use Rattle.chart_print.specs.Canonical.{parts_in, states_in}
use Rattle.canonical_text.specs.Words.{IsNumber}
use Rattle.canonical_text.specs.Sizes.{operators_in, size_of_chart, IsWithin}

-- a condition on something optional: it holds where the thing is there
abbrev pub IfThere : {X : Type 0} → (X → Type 0) → Option X → Type 0
IfThere has None = Unit {0}
IfThere has (Some x) = has x

-- ---- names and numbers

-- the text is a name
abbrev pub IsNamed : NameText → Type 0
IsNamed name = IsTrue (is_name name.text)

-- the condition of a path: it has at least one name
abbrev pub IsPath : Path → Type 0
IsPath [] = ⊥
IsPath (first ∷ others) = IsNamed first × AllByRecursion IsNamed others

-- a literal that some number without a fault denotes
pub record IsLiteral (lit : LitText) : Type 0 where
  pub text : List ℕ
  pub number : IsNumber text
  pub sound : fault_of_number (number_read text) ≡ None
  pub told : lit ≡ lit_of text

-- a width of at least 1 and at most WIDTH_LIMIT, and a fraction of at most PLACES_LIMIT and at most
-- the width
pub record IsScale (scale : ScaleParts) : Type 0 where
  pub some : 1 ≤ scale.width
  pub narrow : scale.width ≤ WIDTH_LIMIT
  pub short : scale.frac ≤ PLACES_LIMIT
  pub inside : scale.frac ≤ scale.width

-- numbers have a scale
abbrev pub IsSort : Sort → Type 0
IsSort FlagSort = Unit {0}
IsSort (NumberSort scale mode) = IsScale scale

-- ---- expressions

-- the names of an expression are NAMEs, and its numbers have no fault
abbrev pub HasTerms : Expr → Type 0
HasTerms (Lit lit at) = IsLiteral lit
HasTerms (Flag value at) = Unit {0}
HasTerms (Name name) = IsNamed name
HasTerms (Active path at) = IsPath path
HasTerms (Unary word e at) = HasTerms e
HasTerms (Binary word l r at) = HasTerms l × HasTerms r

-- an expression so, with at most OPERATOR_LIMIT operators and opening parentheses in its canonical text
pub record IsExpr (e : Expr) : Type 0 where
  pub terms : HasTerms e
  pub operators : operators_in e ≤ most things.Operators

-- ---- statements and transitions

-- the condition of a statement
abbrev pub IsStmt : Stmt → Type 0
IsStmt (Assign name value) = IsNamed name × IsExpr value
IsStmt (Send name to) = IsNamed name × IfThere IsPath to
IsStmt (Emit name) = IsNamed name

-- the condition of a block, which has at most STATEMENT_LIMIT statements
pub record IsBlock (stmts : List Stmt) : Type 0 where
  pub each : AllByRecursion IsStmt stmts
  pub few : length stmts ≤ most things.Statements

-- the condition of a destination
abbrev pub IsDest : Dest → Type 0
IsDest (ToState path) = IsPath path
IsDest (ToJunction name) = IsNamed name

-- the condition of a transition
pub record IsTrans (trans : Trans) : Type 0 where
  pub event : IfThere IsNamed trans.event
  pub guard : IfThere (λ guard. IsExpr guard.expr) trans.guard
  pub cond : IsBlock trans.cond
  pub act : IsBlock trans.act
  pub dest : IsDest trans.dest

-- the condition of a junction
pub record IsJunction (junction : Junction) : Type 0 where
  pub name : IsNamed junction.name
  pub list : AllByRecursion IsTrans junction.list

-- ---- declarations

-- the condition of a number as a first value: 0 has no minus sign
pub record IsPlain (negative : Bool) (lit : LitText) : Type 0 where
  pub literal : IsLiteral lit
  pub positive : lit.units ≡ 0 → negative ≡ false
  pub bare : lit.units ≡ 0 → lit ≡ zero_lit

-- the condition of a first value
abbrev pub IsInit : InitText → Type 0
IsInit (inits.Number negative lit at) = IsPlain negative lit
IsInit (inits.Flag value at) = Unit {0}

-- the condition of the declaration of a datum
pub record IsVar (var : Var) : Type 0 where
  pub name : IsNamed var.name
  pub sort : IsSort var.sort
  pub init : IsInit var.init

-- ---- states and charts

-- the condition of what a state has beside its child states
pub record IsParts (parts : Parts) : Type 0 where
  pub name : IsNamed parts.name
  pub entry : IsBlock parts.entry
  pub during : IsBlock parts.during
  pub exit : IsBlock parts.exit
  pub outer : AllByRecursion IsTrans parts.outer
  pub inner : AllByRecursion IsTrans parts.inner
  pub default : AllByRecursion IsTrans parts.default
  pub junctions : AllByRecursion IsJunction parts.junctions

-- where there are child states, there is a composition
abbrev pub IsComp : CompText → States → Type 0
IsComp comp states = comp_with comp states ≡ comp

abbrev mutual
  -- a state, with states nested in it `deep` levels at most
  pub IsState : ℕ → State → Type 0
  IsState deep (StateOf parts states) = IsParts parts × IsComp parts.comp states × IsStates deep states

  -- states, nested `deep` levels at most
  pub IsStates : ℕ → States → Type 0
  IsStates deep NoState = Unit {0}
  IsStates zero (MoreStates state others) = ⊥
  IsStates (suc deeper) (MoreStates state others) = IsState deeper state × IsStates (suc deeper) others

-- a chart: it has no exit action and no outer transition, and is within the limits
pub record IsChart (chart : Chart) : Type 0 where
  pub events : AllByRecursion (λ (event : EventText). IsNamed event.name) chart.events
  pub vars : AllByRecursion IsVar chart.vars
  pub parts : IsParts (parts_in chart.root)
  pub comp : IsComp (parts_in chart.root).comp (states_in chart.root)
  pub states : IsStates usual.depth (states_in chart.root)
  pub stays : (parts_in chart.root).exit ≡ []
  pub inside : (parts_in chart.root).outer ≡ []
  pub within : IsWithin (size_of_chart chart)
