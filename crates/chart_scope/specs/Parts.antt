-- What a resolved chart has beside the tree of its states.
use Rattle.std.specs.Prelude.{List, ◌++◌, map}
use Rattle.flow_base.specs.Lists.{items_of}
use Rattle.actions.specs.Names.{names_of}
use Rattle.active_config.specs.Tree.{Tree}
use Rattle.chart_tree.specs.declared.first.FaultAt.{FaultAt}
use Rattle.chart_places.specs.Scopes.{Scopes}
use Rattle.resolved_tree.specs.Resolved.{Resolved}
use Rattle.resolved_tree.specs.Views.{state_of, junction_of}
use Rattle.chart_scope.specs.declared.parts.Parts.{Parts}
use Rattle.chart_scope.specs.Names.{doubled_events, doubled_vars, doubled_states, doubled_junctions}

-- the faults of names that stand twice
abbrev pub doubled_names : Scopes → List FaultAt
doubled_names p =
    doubled_events p 0 p.events ++ doubled_vars p 0 p.vars ++ doubled_states p 0 p.states
    ++ doubled_junctions p 0 p.junctions

-- the resolved chart of a tree and all else
abbrev pub with_tree : Tree → Parts → Resolved
with_tree t p = record {
  tree = t;
  names = names_of p.names;
  inits = items_of p.inits;
  states = map state_of (items_of p.states);
  junctions = map junction_of (items_of p.junctions);
}
