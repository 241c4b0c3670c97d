use Rattle.std.proofs.Common.{◌≡◌, List, refl, sym, ap, map, ◌∙◌}
use Rattle.chart_tree.specs.declared.chart.VarText.{VarText}
use Rattle.chart_tree.specs.Trees as trees
use Rattle.chart_tree.specs.Views.{chart_of, var_of}
use Rattle.chart_places.specs.Placed.{Placed}
use Rattle.chart_places.specs.Scopes.{Scopes, scopes_of}
use Rattle.chart_places.specs.Survey.{placed_of, owned_of}
use Rattle.resolved_tree.specs.Faults.{first_of}
use Rattle.chart_scope.specs.Names.{name_faults}
use Rattle.chart_scope.specs.Resolution as spec
use Rattle.resolved_tree.proofs.FirstLemmas.{none_found}
use Rattle.chart_scope.proofs.NameLemmas.{chart_found, tree-seen}
use Rattle.chart_scope.proofs.OwnerLemmas.{owners_within, as_many_states}
use Rattle.chart_scope.proofs.parts.resolve_parts.Goals as goal

-- there are as many states as the tree of the scopes has
pub states-requires-clause-all : goal.states-requires-clause-all
states-requires-clause-all c =
    as_many_states c.args.scopes.now.tree _ c.args.states.now
    (sym (tree-seen c.args.chart.now c.args.scopes.now c.requires.scopes _ refl)) c.requires.states

-- each junction stands in a state
pub junctions-requires : goal.junctions-requires
junctions-requires c = record {
  owners = owners_within c.args.scopes.now.tree _ c.args.junctions.now
      (sym (tree-seen c.args.chart.now c.args.scopes.now c.requires.scopes _ refl)) c.requires.junctions;
}

-- the fault that was found is the first one
pub returns-in-Some-clause-refused : goal.returns-in-Some-clause-refused
returns-in-Some-clause-refused c =
    let whole : c.junctions.new.found ≡ first_of (name_faults (chart_of c.args.chart.now)) =
    chart_found c.args.chart.now c.args.scopes.now c.requires.scopes c.args.states.now c.args.junctions.now _ _ _
    c.requires.states c.requires.junctions c.names_twice-found.ensures
    c.in_ok-built_states.ensures.kept c.in_ok-built_junctions.ensures.kept in
    sym whole ∙ c.in-Some.is

-- where none was found the chart is resolved
pub returns-in_ok-names-in-None-clause-resolved : goal.returns-in_ok-names-in-None-clause-resolved
returns-in_ok-names-in-None-clause-resolved c =
    let whole : c.junctions.new.found ≡ first_of (name_faults (chart_of c.args.chart.now)) =
    chart_found c.args.chart.now c.args.scopes.now c.requires.scopes c.args.states.now c.args.junctions.now _ _ _
    c.requires.states c.requires.junctions c.names_twice-found.ensures
    c.in_ok-built_states.ensures.kept c.in_ok-built_junctions.ensures.kept in
    record {
      faultless = none_found (name_faults (chart_of c.args.chart.now)) (sym whole ∙ c.in-None.is);
      resolves = record {
        tree = sym (tree-seen c.args.chart.now c.args.scopes.now c.requires.scopes _ refl);
        state_names = c.in_ok-names-in-None.ensures.states
            ∙ ap (map (λ (x : Placed). x.parts.name.text)) c.requires.states;
        vars = c.in_ok-names-in-None.ensures.vars;
        events = c.in_ok-names-in-None.ensures.events;
        inits = c.in_ok-inits-in-None.ensures
            ∙ ap (λ (vs : List VarText). map (λ (v : trees.Var). v.init) (map var_of vs)) c.items.ensures;
        states = c.in_ok-built_states.ensures.built
            ∙ ap (λ (p : Scopes). spec.resolved_states p 0 (map placed_of c.args.states.now)) c.requires.scopes
            ∙ ap (spec.resolved_states (scopes_of (chart_of c.args.chart.now)) 0) c.requires.states;
        junctions = c.in_ok-built_junctions.ensures.built
            ∙ ap (λ (p : Scopes). map (spec.resolved_junction p) (map owned_of c.args.junctions.now)) c.requires.scopes
            ∙ ap (map (spec.resolved_junction (scopes_of (chart_of c.args.chart.now)))) c.requires.junctions;
      };
    }
