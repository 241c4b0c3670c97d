use Rattle.std.proofs.Common.{◌<◌, ◌≤◌, ℕ, List, None, length, map, ap, ◌∙◌, arith, take_all}
use Rattle.flow_base.specs.Lists.{items_of}
use Rattle.active_config.specs.declared.comp.Comp.TheVariants.{Leaf}
use Rattle.active_config.specs.Tree.{state_count, parent_of, comp_of}
use Rattle.actions.specs.Names.{Names}
use Rattle.code_language.specs.declared.code.RawState.{RawState}
use Rattle.code_language.specs.Code.{tree_of_states}
use Rattle.chart_compile.proofs.Copies.{copied_more, same_tree}
use Rattle.chart_compile.proofs.tables.states.Goals as goal

pub loop-state-preserved : goal.loop-state-preserved
unfolding parent_of comp_of state_count
loop-state-preserved c =
    let t = c.shape-shape.result.now in
    let names = c.items-names.result.now in
    let i = c.loop-state.state in
    let xs = items_of c.loop-state.states in
    let before = c.loop-state.invariant in
    let step = c.in_ok-push.ensures.ok in
    let lt : i < state_count t = omega (arith, c.loop-state-test.true, c.len-state-end.ensures.count) in
    let comps : i < length t.comps = omega (arith, lt, c.len-state-end.ensures.tree.same_length) in
    let named : i < length names =
    omega (
      arith,
      lt,
      ap state_count c.shape-shape.ensures.shape,
      ap (λ (l : List (List ℕ)). length l)
          (c.items-names.ensures ∙ ap (λ (n : Names). n.states) c.names.ensures.names),
      c.names.ensures.valid.state_names,
    ) in
    record {
      parents = ap (map (λ (s : RawState). s.parent)) step
          ∙ copied_more (λ (s : RawState). s.parent) xs _ t.parents i None lt before.parents c.parent.ensures.parent;
      comps = ap (map (λ (s : RawState). s.comp)) step
          ∙ copied_more (λ (s : RawState). s.comp) xs _ t.comps i Leaf comps before.comps c.comp.ensures;
      names = ap (map (λ (s : RawState). s.name)) step
          ∙ copied_more (λ (s : RawState). s.name) xs _ names i c.index-names-state.result named before.names
          (c.in_ok-copied.ensures ∙ c.index-names-state.is);
    }

pub returns-clause-tree : goal.returns-clause-tree
unfolding state_count
returns-clause-tree c =
    let t = c.shape-shape.result.now in
    let i = c.loop-state.state in
    let parents : length t.parents ≤ i = omega (arith, c.loop-state-test.false, c.len-state-end.ensures.count) in
    let comps : length t.comps ≤ i = omega (arith, parents, c.len-state-end.ensures.tree.same_length) in
    same_tree (tree_of_states (items_of c.loop-state.states)) t
    (c.loop-state.invariant.parents ∙ take_all i t.parents parents)
    (c.loop-state.invariant.comps ∙ take_all i t.comps comps) ∙ c.shape-shape.ensures.shape
