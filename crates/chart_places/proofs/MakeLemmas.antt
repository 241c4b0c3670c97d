-- The tables of a chart text are tables, and those of its names.
use Rattle.std.proofs.Common.{◌≡◌, List, [], ◌∷◌, map, refl, ap, ◌∙◌}
use Rattle.std.specs.List.{AllByRecursion}
use Rattle.active_config.specs.Tree.{Tree}
use Rattle.chart_tree.specs.declared.name.NameText.{NameText}
use Rattle.chart_tree.specs.declared.chart.EventText.{EventText}
use Rattle.chart_tree.specs.Trees.{Var, Chart}
use Rattle.chart_places.specs.Placed.{Placed, Owned, placed_states, placed_tree, placed_junctions}
use Rattle.chart_places.specs.Scopes as scopes
use Rattle.chart_places.specs.Scopes.{Scopes, JunctionName, scopes_of}
use Rattle.chart_places.specs.Tables.{Declared, state_name, junction_name, event_name, var_name}
use Rattle.chart_places.specs.Tables.{names_in, junction_entry, scopes_seen, IsOwned, IsFree, AreTables}

map_map : {X Y Z : Type 0} (f : X → Y) (g : Y → Z) (xs : List X) → map g (map f xs) ≡ map (λ x. g (f x)) xs
map_map f g [] = refl
map_map f g (x ∷ xs) = ap (λ ys. g (f x) ∷ ys) (map_map f g xs)

all_map : {X Y : Type 0} (P : Y → Type 0) (f : X → Y) (xs : List X) → ((x : X) → P (f x)) → AllByRecursion P (map f xs)
all_map P f [] h = tt
all_map P f (x ∷ xs) h = (h x, all_map P f xs h)

-- the tables of states, junctions, events and data
pub are_tables : (ps : List Placed) (os : List Owned) (es : List EventText) (vs : List Var)
    → AreTables (placed_tree ps) (map state_name ps) (map junction_name os) (map event_name es) (map var_name vs)
unfolding placed_tree
are_tables ps os es vs = record {
  parents = map_map state_name (λ (d : Declared). d.owner) ps;
  owned = all_map IsOwned junction_name os (λ o. refl);
  free_events = all_map IsFree event_name es (λ e. refl);
  free_vars = all_map IsFree var_name vs (λ v. refl);
}

-- equal tables are seen alike
pub scopes_seen-same : {t u : Tree} {ss sn js jn es en vs vn : List Declared} → t ≡ u → ss ≡ sn → js ≡ jn → es ≡ en
    → vs ≡ vn → scopes_seen t ss js es vs ≡ scopes_seen u sn jn en vn
scopes_seen-same {t} {u} {ss} {sn} {js} {jn} {es} {en} {vs} {vn} tree states junctions events vars =
    ap (λ (x : Tree). scopes_seen x ss js es vs) tree
    ∙ ap (λ (ds : List Declared). scopes_seen u ds js es vs) states
    ∙ ap (λ (ds : List Declared). scopes_seen u sn ds es vs) junctions
    ∙ ap (λ (ds : List Declared). scopes_seen u sn jn ds vs) events
    ∙ ap (λ (ds : List Declared). scopes_seen u sn jn en ds) vars

-- what they are seen as
pub tables-seen : (c : Chart) → scopes_seen (placed_tree (placed_states c.root)) (map state_name (placed_states c.root))
    (map junction_name (placed_junctions (placed_states c.root))) (map event_name c.events) (map var_name c.vars)
    ≡ scopes_of c
unfolding scopes_of
tables-seen c =
    let tree = placed_tree (placed_states c.root) in
    let junctions = map junction_name (placed_junctions (placed_states c.root)) in
    let named = map (λ (p : Placed). p.parts.name) (placed_states c.root) in
    let placed = map scopes.junction_name (placed_junctions (placed_states c.root)) in
    let declared = map (λ (e : EventText). e.name) c.events in
    ap (λ (ns : List NameText). record {
      tree = tree;
      states = ns;
      junctions = map junction_entry junctions;
      events = names_in (map event_name c.events);
      vars = names_in (map var_name c.vars);
    }) (map_map state_name (λ (d : Declared). d.name) (placed_states c.root))
    ∙ ap (λ (js : List JunctionName). record {
      tree = tree;
      states = named;
      junctions = js;
      events = names_in (map event_name c.events);
      vars = names_in (map var_name c.vars);
    }) (map_map junction_name junction_entry (placed_junctions (placed_states c.root)))
    ∙ ap (λ (ns : List NameText). record {
      tree = tree;
      states = named;
      junctions = placed;
      events = ns;
      vars = names_in (map var_name c.vars);
    }) (map_map event_name (λ (d : Declared). d.name) c.events)
    ∙ ap (λ (ns : List NameText). record {
      tree = tree;
      states = named;
      junctions = placed;
      events = declared;
      vars = ns;
    }) (map_map var_name (λ (d : Declared). d.name) c.vars)
