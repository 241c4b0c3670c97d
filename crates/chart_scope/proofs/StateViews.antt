-- A state of the code, seen part by part.
-- `x-seen` says of the field x of a state of the code what it is in the tree that contracts see.
use Rattle.std.proofs.Common.{◌≡◌, map, refl, ap}
use Rattle.flow_base.specs.Lists.{items_of}
use Rattle.chart_tree.specs.declared.state.StateText.{StateText, StateText', out-StateText}
use Rattle.chart_tree.specs.declared.state.StateText.{outs-StateText'}
use Rattle.chart_tree.specs.Trees.{Parts}
use Rattle.chart_tree.specs.Views.{block_of, trans_of, junction_of, state_of}
use Rattle.chart_places.specs.Survey.{parts_in}
use Rattle.chart_places.proofs.SurveyLemmas.{name-seen, comp-seen, children-seen}
use Rattle.chart_scope.proofs.FoundLemmas.{found_steps}

-- what a state of the code has beside its child states
parts-seen : (s : StateText) → parts_in (state_of s) ≡ record {
  name = (out-StateText s).name;
  comp = (out-StateText s).comp;
  entry = block_of (items_of (out-StateText s).entry);
  during = block_of (items_of (out-StateText s).during);
  exit = block_of (items_of (out-StateText s).exit);
  history = (out-StateText s).history;
  outer = map trans_of (items_of (out-StateText s).outer);
  inner = map trans_of (items_of (out-StateText s).inner);
  default = map trans_of (items_of (out-StateText s).default);
  junctions = map junction_of (items_of (out-StateText s).junctions);
}
parts-seen (StateText' name comp entry during exit history outer inner default junctions shape states) =
    rw (outs-StateText' name comp entry during exit history outer inner default junctions shape states) refl

-- these one by one; the name and the word stand with the lemmas of the crate below
pub entry-seen : (s : StateText) → (parts_in (state_of s)).entry ≡ block_of (items_of (out-StateText s).entry)
entry-seen s = ap (λ (p : Parts). p.entry) (parts-seen s)

pub during-seen : (s : StateText) → (parts_in (state_of s)).during ≡ block_of (items_of (out-StateText s).during)
during-seen s = ap (λ (p : Parts). p.during) (parts-seen s)

pub exit-seen : (s : StateText) → (parts_in (state_of s)).exit ≡ block_of (items_of (out-StateText s).exit)
exit-seen s = ap (λ (p : Parts). p.exit) (parts-seen s)

pub history-seen : (s : StateText) → (parts_in (state_of s)).history ≡ (out-StateText s).history
history-seen s = ap (λ (p : Parts). p.history) (parts-seen s)

pub outer-seen : (s : StateText) → (parts_in (state_of s)).outer ≡ map trans_of (items_of (out-StateText s).outer)
outer-seen s = ap (λ (p : Parts). p.outer) (parts-seen s)

pub inner-seen : (s : StateText) → (parts_in (state_of s)).inner ≡ map trans_of (items_of (out-StateText s).inner)
inner-seen s = ap (λ (p : Parts). p.inner) (parts-seen s)

pub default-seen : (s : StateText) → (parts_in (state_of s)).default ≡ map trans_of (items_of (out-StateText s).default)
default-seen s = ap (λ (p : Parts). p.default) (parts-seen s)

-- the name, the word and the child states of a state as the code has them
pub ruleset seen = (found_steps, name-seen, comp-seen, children-seen)
