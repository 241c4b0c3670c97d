use Rattle.std.proofs.Common.{refl, sym}
use Rattle.chart_scope.proofs.NameLemmas.{twice_found, tree-seen}
use Rattle.chart_scope.proofs.OwnerLemmas.{owners_within, as_many_states}
use Rattle.chart_scope.proofs.parts.names_twice.Goals as goal

-- there are as many states as the tree of the scopes has
pub with_states-requires-clause-all : goal.with_states-requires-clause-all
with_states-requires-clause-all c =
    as_many_states c.args.scopes.now.tree _ c.args.states.now
    (sym (tree-seen c.args.chart.now c.args.scopes.now c.requires.scopes _ refl)) c.requires.states

-- each junction stands in a state
pub with_junctions-requires-clause-owners : goal.with_junctions-requires-clause-owners
with_junctions-requires-clause-owners c =
    owners_within c.args.scopes.now.tree _ c.args.junctions.now
    (sym (tree-seen c.args.chart.now c.args.scopes.now c.requires.scopes _ refl)) c.requires.junctions

-- the fault that was found is the first one
pub returns : goal.returns
returns c =
    twice_found c.args.chart.now c.args.scopes.now c.requires.scopes c.items.result.now c.items-2.result.now
    c.args.states.now c.args.junctions.now _ _ _ _ c.items.ensures c.items-2.ensures
    c.requires.states c.requires.junctions
    c.with_events.ensures c.with_vars.ensures c.with_states.ensures c.with_junctions.ensures
