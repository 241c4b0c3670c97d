-- The resolved chart of a chart text: the text with each name replaced by its number.
use Rattle.std.specs.Prelude.{◌≡◌, ℕ, suc, pos, List, [], ◌∷◌, map}
use Rattle.actions.specs.declared.names.EventDecl.{EventDecl}
use Rattle.actions.specs.declared.names.EventKind.{EventKind}
use Rattle.actions.specs.declared.names.EventKind.TheVariants as events
use Rattle.actions.specs.declared.names.Sort as declared_sort
use Rattle.actions.specs.declared.names.Sort.TheVariants as sorts
use Rattle.actions.specs.declared.names.Var.{Var}
use Rattle.actions.specs.declared.names.VarKind.{VarKind}
use Rattle.actions.specs.declared.names.VarKind.TheVariants as vars
use Rattle.fixed_point.specs.declared.fitting.Mode.{Mode}
use Rattle.chart_tree.specs.declared.chart.EventText.{EventText}
use Rattle.chart_tree.specs.declared.chart.EventWord.{EventWord}
use Rattle.chart_tree.specs.declared.chart.EventWord.TheVariants as event_words
use Rattle.chart_tree.specs.declared.chart.VarWord.{VarWord}
use Rattle.chart_tree.specs.declared.chart.VarWord.TheVariants as var_words
use Rattle.chart_tree.specs.Trees as trees
use Rattle.chart_tree.specs.Trees.{Sort, FlagSort, NumberSort, Chart}
use Rattle.chart_tree.specs.Views.{parts_of}
use Rattle.checked_chart.specs.Valid.{HasFlagMode}
use Rattle.chart_places.specs.Placed.{Placed, Owned, placed_states, placed_tree, placed_junctions, placed_word}
use Rattle.chart_places.specs.Scopes.{Scopes, scopes_of}
use Rattle.resolved_tree.specs.Resolved as resolved
use Rattle.resolved_tree.specs.Resolved.{Resolved}
use Rattle.chart_scope.specs.Names.{name_faults}
use Rattle.chart_scope.specs.Uses.{resolved_stmt, resolved_trans}

-- ---- declarations

-- the kind of an event that a word names
abbrev pub event_kind : EventWord → EventKind
event_kind event_words.Input = events.Input
event_kind event_words.Local = events.Local
event_kind event_words.Output = events.Output

-- the kind of a datum that a word names
abbrev pub var_kind : VarWord → VarKind
var_kind var_words.Input = vars.Input
var_kind var_words.Output = vars.Output
var_kind var_words.Local = vars.Local

-- the type that a sort and a mode make
abbrev pub type_of : declared_sort.Sort → Mode → Sort
type_of sorts.Flag mode = FlagSort
type_of (sorts.Number scale) mode = NumberSort (parts_of scale) mode

-- a datum is the one that is declared, with 0 for its first value
pub record IsVarOf (v : trees.Var) (d : Var) : Type 0 where
  pub name : d.name ≡ v.name.text
  pub kind : d.kind ≡ var_kind v.kind
  pub type : type_of d.sort d.mode ≡ v.sort
  pub flag : HasFlagMode d
  pub init : d.init ≡ pos 0

-- data are those that are declared
abbrev pub AreVarsOf : List trees.Var → List Var → Type 0
AreVarsOf [] [] = Unit {0}
AreVarsOf [] (d ∷ ds) = ⊥
AreVarsOf (v ∷ vs) [] = ⊥
AreVarsOf (v ∷ vs) (d ∷ ds) = IsVarOf v d × AreVarsOf vs ds

-- an event as declared
abbrev pub event_decl : EventText → EventDecl
event_decl e = record { name = e.name.text; kind = event_kind e.kind }

-- ---- states and junctions

-- state s, with numbers for its names
abbrev pub resolved_state : Scopes → ℕ → Placed → resolved.State
resolved_state p s x = record {
  at = x.parts.name.at;
  word = placed_word x;
  history = x.parts.history;
  entry = map (resolved_stmt p s) x.parts.entry;
  during = map (resolved_stmt p s) x.parts.during;
  exit = map (resolved_stmt p s) x.parts.exit;
  outer = map (resolved_trans p s) x.parts.outer;
  inner = map (resolved_trans p s) x.parts.inner;
  default = map (resolved_trans p s) x.parts.default;
}

-- states, the first of which has number s
abbrev pub resolved_states : Scopes → ℕ → List Placed → List resolved.State
resolved_states p s [] = []
resolved_states p s (x ∷ xs) = resolved_state p s x ∷ resolved_states p (suc s) xs

-- a junction, with numbers for its names
abbrev pub resolved_junction : Scopes → Owned → resolved.Junction
resolved_junction p o = record { at = o.junction.name.at; list = map (resolved_trans p o.owner) o.junction.list }

-- ---- the resolved chart

-- the resolved chart of a chart text
pub record IsResolutionOf (c : Chart) (r : Resolved) : Type 0 where
  pub tree : r.tree ≡ placed_tree (placed_states c.root)
  pub state_names : r.names.states ≡ map (λ (x : Placed). x.parts.name.text) (placed_states c.root)
  pub vars : AreVarsOf c.vars r.names.vars
  pub events : r.names.events ≡ map event_decl c.events
  pub inits : r.inits ≡ map (λ (v : trees.Var). v.init) c.vars
  pub states : r.states ≡ resolved_states (scopes_of c) 0 (placed_states c.root)
  pub junctions : r.junctions ≡ map (resolved_junction (scopes_of c)) (placed_junctions (placed_states c.root))

-- a chart text without faults of names, and its resolved chart
pub record IsResolved (c : Chart) (r : Resolved) : Type 0 where
  pub faultless : name_faults c ≡ []
  pub resolves : IsResolutionOf c r
