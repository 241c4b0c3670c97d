-- A state of the code, seen part by part.
-- `x-seen` says of the field x of a state of the code what it is in the tree that contracts see.
use Rattle.std.proofs.Common.{◌≡◌, ℕ, ◌+◌, List, ◌++◌, map, refl, ap}
use Rattle.std.specs.List.{flat_map}
use Rattle.token_grammar.specs.declared.token.Kind.TheVariants as kinds
use Rattle.flow_base.specs.Lists.{items_of}
use Rattle.chart_tree.specs.declared.state.StateText.{StateText, StateText', Row_of-StateText, end_of-StateText}
use Rattle.chart_tree.specs.declared.state.StateText.{more_of-StateText, out-StateText, outs-StateText'}
use Rattle.chart_tree.specs.declared.state.StateText.{items-the_row-StateText, items_shown-the_row-StateText-0}
use Rattle.chart_tree.specs.Trees.{Parts, State, StateOf}
use Rattle.chart_tree.specs.Views.{block_of, trans_of, junction_of, state_of, states_of}
use Rattle.chart_print.specs.Pieces.{Piece}
use Rattle.chart_print.specs.Canonical.{parts_in, states_in, head_line, parts_pieces, end_line, state_pieces}
use Rattle.chart_print.specs.Canonical.{states_pieces}
use Rattle.chart_print.proofs.Written.{printed}

-- what a state of the code has beside its child states
parts-seen : (s : StateText) → parts_in (state_of s) ≡ record {
  name = (out-StateText s).name;
  comp = (out-StateText s).comp;
  entry = block_of (items_of (out-StateText s).entry);
  during = block_of (items_of (out-StateText s).during);
  exit = block_of (items_of (out-StateText s).exit);
  history = (out-StateText s).history;
  outer = map trans_of (items_of (out-StateText s).outer);
  inner = map trans_of (items_of (out-StateText s).inner);
  default = map trans_of (items_of (out-StateText s).default);
  junctions = map junction_of (items_of (out-StateText s).junctions);
}
parts-seen (StateText' name comp entry during exit history outer inner default junctions shape states) =
    rw (outs-StateText' name comp entry during exit history outer inner default junctions shape states) refl

-- the same, one by one
pub name-seen : (s : StateText) → (parts_in (state_of s)).name ≡ (out-StateText s).name
name-seen s = ap (λ (p : Parts). p.name) (parts-seen s)

pub comp-seen : (s : StateText) → (parts_in (state_of s)).comp ≡ (out-StateText s).comp
comp-seen s = ap (λ (p : Parts). p.comp) (parts-seen s)

pub entry-seen : (s : StateText) → (parts_in (state_of s)).entry ≡ block_of (items_of (out-StateText s).entry)
entry-seen s = ap (λ (p : Parts). p.entry) (parts-seen s)

pub during-seen : (s : StateText) → (parts_in (state_of s)).during ≡ block_of (items_of (out-StateText s).during)
during-seen s = ap (λ (p : Parts). p.during) (parts-seen s)

pub exit-seen : (s : StateText) → (parts_in (state_of s)).exit ≡ block_of (items_of (out-StateText s).exit)
exit-seen s = ap (λ (p : Parts). p.exit) (parts-seen s)

pub history-seen : (s : StateText) → (parts_in (state_of s)).history ≡ (out-StateText s).history
history-seen s = ap (λ (p : Parts). p.history) (parts-seen s)

pub outer-seen : (s : StateText) → (parts_in (state_of s)).outer ≡ map trans_of (items_of (out-StateText s).outer)
outer-seen s = ap (λ (p : Parts). p.outer) (parts-seen s)

pub inner-seen : (s : StateText) → (parts_in (state_of s)).inner ≡ map trans_of (items_of (out-StateText s).inner)
inner-seen s = ap (λ (p : Parts). p.inner) (parts-seen s)

pub default-seen : (s : StateText) → (parts_in (state_of s)).default ≡ map trans_of (items_of (out-StateText s).default)
default-seen s = ap (λ (p : Parts). p.default) (parts-seen s)

pub junctions-seen : (s : StateText)
    → (parts_in (state_of s)).junctions ≡ map junction_of (items_of (out-StateText s).junctions)
junctions-seen s = ap (λ (p : Parts). p.junctions) (parts-seen s)

-- the states of a row, one after the other
states-row : (level : ℕ) (n : _) (row : Row_of-StateText n)
    → states_pieces level (states_of row) ≡ flat_map (state_pieces level) (map state_of (items-the_row-StateText n row))
unfolding states_pieces
states-row level n end_of-StateText = refl
states-row level _ (more_of-StateText {n = n} state others) =
    ap (λ (ps : List Piece). state_pieces level (state_of state) ++ ps) (states-row level n others)

-- the child states of a state of the code
pub states-seen : (level : ℕ) (s : StateText)
    → states_pieces level (states_in (state_of s)) ≡ flat_map (state_pieces level)
    (map state_of (items_of (out-StateText s).states))
states-seen level (StateText' name comp entry during exit history outer inner default junctions shape states) =
    rw (
      outs-StateText' name comp entry during exit history outer inner default junctions shape states,
      items_shown-the_row-StateText-0 shape states,
    )
    (states-row level _ states)

-- a state, part by part
pub state_pieces-parts : (level : ℕ) (s : State) → state_pieces level s
    ≡ head_line level kinds.State (parts_in s).name (parts_in s).comp
    ++ parts_pieces (level + 1) (parts_in s) ++ states_pieces (level + 1) (states_in s) ++ end_line level
unfolding state_pieces
state_pieces-parts level (StateOf parts states) = refl

-- the parts of a state as the code has them
pub ruleset fields = (
  name-seen,
  comp-seen,
  entry-seen,
  during-seen,
  exit-seen,
  history-seen,
  outer-seen,
  inner-seen,
  default-seen,
  junctions-seen,
)

-- what is written of a state
pub ruleset seen = (printed, fields, states-seen, state_pieces-parts)
