-- A state that the code makes of its parts.
use Rattle.std.proofs.Common.{◌≡◌, ◌≤◌, length, arith, rules, List, [], ◌∷◌, map, refl, ap}
use Rattle.flow_base.specs.Lists.{items_of}
use Rattle.chart_tree.specs.declared.state.StateText.{StateText, Row_of-StateText, end_of-StateText}
use Rattle.chart_tree.specs.declared.state.StateText.{more_of-StateText, items-the_row-StateText}
use Rattle.chart_tree.specs.declared.state.StateText.TheOpen.{StateText-F}
use Rattle.chart_tree.specs.declared.state.StateText.TheViews.{roll-StateText, the_lemmas}
use Rattle.chart_tree.specs.declared.state.CompText.TheVariants as comps
use Rattle.chart_grammar.specs.States.{comp_with}
use Rattle.chart_tree.specs.Trees.{MoreStates, StateOf}
use Rattle.chart_tree.specs.Views.{block_of, trans_of, junction_of, state_of, states_of}
use Rattle.chart_reader.specs.Items.{children_of}

-- the child states of a row are those of its items
children_row : (n : _) (k : Row_of-StateText n) → states_of k ≡ children_of (items-the_row-StateText n k)
children_row _ end_of-StateText = refl
children_row _ (more_of-StateText s rest) = ap (MoreStates (state_of s)) (children_row _ rest)

-- a state of its parts is what it is taken apart into
pub rolled : (x : StateText-F StateText) → state_of (roll-StateText x) ≡ StateOf (record {
  name = x.name;
  comp = x.comp;
  entry = block_of (items_of x.entry);
  during = block_of (items_of x.during);
  exit = block_of (items_of x.exit);
  history = x.history;
  outer = map trans_of (items_of x.outer);
  inner = map trans_of (items_of x.inner);
  default = map trans_of (items_of x.default);
  junctions = map junction_of (items_of x.junctions);
}) (children_of (items_of x.states))
rolled x = search (rules, the_lemmas, children_row)

-- no word and some children make an OR
pub some_children : (ss : List StateText) → 1 ≤ length ss → comps.Or ≡ comp_with comps.None (children_of ss)
some_children [] h = absurd (omega arith)
some_children (s ∷ ss) h = refl
