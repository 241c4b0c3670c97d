-- Statements without the new words.
use Rattle.std.specs.Prelude.{ℕ, Bool, true, false, List, [], ◌∷◌, bytes_eq, if◌then◌else◌, None}
use Rattle.std.specs.List.{flat_map}
use Rattle.token_grammar.specs.declared.token.Span.{Span}
use Rattle.chart_tree.specs.declared.name.NameText.{NameText}
use Rattle.chart_tree.specs.declared.chart.EventWord.{EventWord}
use Rattle.chart_tree.specs.declared.chart.EventWord.TheVariants as event_words
use Rattle.chart_tree.specs.declared.expr.BinWord.{BinWord}
use Rattle.chart_tree.specs.Trees as core
use Rattle.chart_tree.specs.Trees.{Path}
use Rattle.statechart_tree.specs.declared.declarations.SourceEvent.{SourceEvent}
use Rattle.statechart_tree.specs.Trees.{Stmt, Assign, Update, Step, Send, Emit, Raise, Invoke}
use Rattle.statechart_meaning.specs.Names.{named}
use Rattle.statechart_meaning.specs.Numbers.{number}
use Rattle.statechart_meaning.specs.Scope.{Scope, Meaning, IsArgument, IsDatum, IsValue, IsUnknown, meaning_of, first_name}
use Rattle.statechart_meaning.specs.Expressions.{expand_expr, expand_exprs}

-- the datum that an argument is; one that is none isn't accepted
abbrev pub argument_target : core.Expr → NameText → NameText
argument_target (core.Lit lit at) name = name
argument_target (core.Flag value at) name = name
argument_target (core.Name datum) name = datum
argument_target (core.Active path at) name = name
argument_target (core.Unary word e at) name = name
argument_target (core.Binary word l r at) name = name

-- a name that is assigned: the datum of an argument, or a datum at its place; another name stays as it is
abbrev pub meaning_target : Meaning → NameText → NameText
meaning_target (IsArgument e) name = argument_target e name
meaning_target (IsDatum text) name = named text name.at
meaning_target (IsValue v) name = name
meaning_target IsUnknown name = name

-- a path that is assigned
abbrev pub target : Scope → Path → NameText
target s path = meaning_target (meaning_of s path) (first_name path)

-- the target with the operator and the value
abbrev pub update : NameText → BinWord → core.Expr → Span → core.Stmt
update name word value at = core.Assign name (core.Binary word (core.Name name) value at)

-- whether an event is an output event
abbrev pub is_output_word : EventWord → Bool
is_output_word event_words.Input = false
is_output_word event_words.Local = false
is_output_word event_words.Output = true

-- whether the first event of the name is one
abbrev pub is_output : List SourceEvent → List ℕ → Bool
is_output [] name = false
is_output (e ∷ es) name = if bytes_eq e.name.text name then is_output_word e.kind else is_output es name

-- an output event is emitted, and another one sent
abbrev pub raised : List SourceEvent → NameText → core.Stmt
raised es name = if is_output es name.text then core.Emit name else core.Send name None

-- a statement
abbrev pub expand_stmt : Scope → Stmt → List core.Stmt
expand_stmt s (Assign path e) = core.Assign (target s path) (expand_expr s e) ∷ []
expand_stmt s (Update path word e at) = update (target s path) word (expand_expr s e) at ∷ []
expand_stmt s (Step path word at) = update (target s path) word (core.Lit (number 1) at) at ∷ []
expand_stmt s (Send name to) = core.Send name to ∷ []
expand_stmt s (Emit name) = core.Emit name ∷ []
expand_stmt s (Raise name) = raised s.declared.events name ∷ []
expand_stmt s (Invoke name arguments) = s.calls.block name (expand_exprs s arguments)

-- statements in order
abbrev pub expand_block : Scope → List Stmt → List core.Stmt
expand_block s stmts = flat_map (expand_stmt s) stmts
