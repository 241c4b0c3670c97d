-- How many states, junctions, transitions and items a resolved chart has: as many as its text.
use Rattle.std.proofs.Common.{◌≡◌, ℕ, suc, ◌+◌, List, [], ◌∷◌, ◌++◌, map, length, sum_by, Option, Some, None, true}
use Rattle.std.proofs.Common.{false, Bool, refl, sym, ap, ◌∙◌, subst, arith, length-append}
use Rattle.std.specs.Prelude.{if◌then◌else◌}
use Rattle.std.proofs.lemmas.List.{length-map}
use Rattle.std.proofs.lemmas.List.Sums.{sum_by-cons, sum_by-append}
use Rattle.chart_tree.specs.Trees.{Trans, Junction, Parts, State, StateOf, States, NoState, MoreStates}
use Rattle.chart_grammar.specs.Limits.{Counts, after_state}
use Rattle.canonical_text.specs.Sizes.{none, ◌⊕◌, sizes, size_of_trans, size_of_junction, size_of_parts}
use Rattle.canonical_text.specs.Sizes.{size_of_state, size_of_states}
use Rattle.canonical_text.proofs.Counts.{AsMany, same_counts, sum-assoc}
use Rattle.checked_chart.specs.Chart as charts
use Rattle.checked_chart.specs.Counts.{trans_statements, node_transitions, node_statements}
use Rattle.resolved_tree.specs.Plain.{plain_stmt, plain_trans, plain_node, plain_list}
use Rattle.resolved_tree.specs.Resolved as resolved
use Rattle.chart_places.specs.Placed.{Placed, Owned, placed_from, placed_below, owned_by, owned_from, is_earlier}
use Rattle.chart_places.specs.Placed.{inserted, in_text_order}
use Rattle.chart_places.specs.Scopes.{Scopes}
use Rattle.chart_scope.specs.Uses.{resolved_stmt, resolved_trans}
use Rattle.chart_scope.specs.Resolution.{resolved_state, resolved_states, resolved_junction}
use Rattle.accepted_charts.proofs.ListLemmas.{length-map_twice}

-- ---- things in the text

-- the statements of a transition
abbrev pub statements_of : Trans → ℕ
statements_of t = length t.cond + length t.act

-- the transitions and the statements of a junction
abbrev pub junction_transitions : Junction → ℕ
junction_transitions j = length j.list

abbrev pub junction_statements : Junction → ℕ
junction_statements j = sum_by statements_of j.list

-- the transitions and the statements of a state, without those of its junctions
abbrev pub parts_transitions : Parts → ℕ
parts_transitions parts = length parts.outer + length parts.inner + length parts.default

abbrev pub parts_statements : Parts → ℕ
parts_statements parts =
    length parts.entry + length parts.during + length parts.exit + sum_by statements_of parts.outer
    + sum_by statements_of parts.inner + sum_by statements_of parts.default

-- counts without data and events
abbrev pub counted : ℕ → ℕ → ℕ → ℕ → Counts
counted s j t i = record { states = s; junctions = j; transitions = t; variables = 0; events = 0; items = i }

-- ---- counts of parts of a text

-- those of a list of transitions
trans_sizes : (ts : List Trans)
    → AsMany (sizes size_of_trans ts) (counted 0 0 (length ts) (length ts + sum_by statements_of ts))
trans_sizes [] = (refl, refl, refl, refl, refl, refl)
trans_sizes (t ∷ ts) =
    let h = trans_sizes ts in
    let sum = sum_by-cons statements_of t ts in
    (omega arith, omega arith, omega arith, omega arith, omega arith, omega arith)

-- those of junctions
junction_sizes : (js : List Junction)
    → AsMany (sizes size_of_junction js) (counted 0 (length js) (sum_by junction_transitions js)
    (length js + sum_by junction_transitions js + sum_by junction_statements js))
junction_sizes [] = (refl, refl, refl, refl, refl, refl)
junction_sizes (j ∷ js) =
    let h = junction_sizes js in
    let list = trans_sizes j.list in
    let sum = sum_by-cons junction_transitions j js in
    let more = sum_by-cons junction_statements j js in
    (omega arith, omega arith, omega arith, omega arith, omega arith, omega arith)

-- those of the parts of a state
parts_sizes : (parts : Parts)
    → AsMany (size_of_parts parts) (counted 0 (length parts.junctions)
    (parts_transitions parts + sum_by junction_transitions parts.junctions)
    (parts_transitions parts + parts_statements parts + length parts.junctions
    + sum_by junction_transitions parts.junctions + sum_by junction_statements parts.junctions))
parts_sizes parts =
    let outer = trans_sizes parts.outer in
    let inner = trans_sizes parts.inner in
    let default = trans_sizes parts.default in
    let js = junction_sizes parts.junctions in
    (omega arith, omega arith, omega arith, omega arith, omega arith, omega arith)

-- ---- the states in one list

-- the counts of a state without its child states
abbrev place_size : Placed → Counts
place_size p = after_state none ⊕ size_of_parts p.parts

none-sum : (n : Counts) → none ⊕ n ≡ n
none-sum n = same_counts _ _ (omega arith)

sizes-append : (ps qs : List Placed) → sizes place_size (ps ++ qs) ≡ sizes place_size ps ⊕ sizes place_size qs
sizes-append [] qs = sym (none-sum (sizes place_size qs))
sizes-append (p ∷ ps) qs =
    ap (λ n. place_size p ⊕ n) (sizes-append ps qs)
    ∙ sym (sum-assoc (place_size p) (sizes place_size ps) (sizes place_size qs))

mutual
  from_sizes : (parent : Option ℕ) (n : ℕ) (x : State) → sizes place_size (placed_from parent n x) ≡ size_of_state x
  from_sizes parent n (StateOf parts below) =
      ap (λ k. (after_state none ⊕ size_of_parts parts) ⊕ k) (below_sizes n (suc n) below)
      ∙ sum-assoc (after_state none) (size_of_parts parts) (size_of_states below)

  below_sizes : (s n : ℕ) (xs : States) → sizes place_size (placed_below s n xs) ≡ size_of_states xs
  below_sizes s n NoState = refl
  below_sizes s n (MoreStates x rest) =
      let l = placed_from (Some s) n x in
      let more = placed_below s (n + length l) rest in
      sizes-append l more ∙ ap (λ k. k ⊕ sizes place_size more) (from_sizes (Some s) n x)
      ∙ ap (λ k. size_of_state x ⊕ k) (below_sizes s (n + length l) rest)

-- ---- junctions in one list

-- a sum over the junctions of one state
sum-owned : (f : Junction → ℕ) (s : ℕ) (js : List Junction)
    → sum_by (λ (o : Owned). f o.junction) (owned_by s js) ≡ sum_by f js
sum-owned f s [] = refl
sum-owned f s (j ∷ js) =
    let o : Owned = record { owner = s; junction = j } in
    let h = sum-owned f s js in
    let here = sum_by-cons (λ (o : Owned). f o.junction) o (owned_by s js) in
    let sum = sum_by-cons f j js in
    omega arith

-- a junction that is put among others
sum-inserted : (f : Owned → ℕ) (o : Owned) (os : List Owned) → sum_by f (inserted o os) ≡ f o + sum_by f os
sum-inserted f o [] = sum_by-cons f o []
sum-inserted f o (x ∷ xs) = at (is_earlier o.junction.name.at x.junction.name.at) (sum-inserted f o xs)
  where
    at : (b : Bool) → sum_by f (inserted o xs) ≡ f o + sum_by f xs
        → sum_by f (if b then o ∷ (x ∷ xs) else x ∷ inserted o xs) ≡ f o + sum_by f (x ∷ xs)
    at true h = sum_by-cons f o (x ∷ xs)
    at false h =
        let here = sum_by-cons f x (inserted o xs) in
        let sum = sum_by-cons f x xs in
        omega arith

sum-order : (f : Owned → ℕ) (done os : List Owned) → sum_by f (in_text_order done os) ≡ sum_by f done + sum_by f os
sum-order f done [] = omega arith
sum-order f done (o ∷ os) =
    let h = sum-order f (inserted o done) os in
    let here = sum-inserted f o done in
    let sum = sum_by-cons f o os in
    omega arith

length-inserted : (o : Owned) (os : List Owned) → length (inserted o os) ≡ suc (length os)
length-inserted o [] = refl
length-inserted o (x ∷ xs) = at (is_earlier o.junction.name.at x.junction.name.at) (length-inserted o xs)
  where
    at : (b : Bool) → length (inserted o xs) ≡ suc (length xs)
        → length (if b then o ∷ (x ∷ xs) else x ∷ inserted o xs) ≡ suc (length (x ∷ xs))
    at true h = refl
    at false h = ap suc h

length-order : (done os : List Owned) → length (in_text_order done os) ≡ length done + length os
length-order done [] = omega arith
length-order done (o ∷ os) =
    let h = length-order (inserted o done) os in
    let here = length-inserted o done in
    omega arith

-- ---- the counts of all states and junctions

-- the transitions and the statements of the states, and of the junctions
abbrev pub states_transitions : List Placed → ℕ
states_transitions ps = sum_by (λ (p : Placed). parts_transitions p.parts) ps

abbrev pub states_statements : List Placed → ℕ
states_statements ps = sum_by (λ (p : Placed). parts_statements p.parts) ps

abbrev pub owned_transitions : List Owned → ℕ
owned_transitions os = sum_by (λ (o : Owned). junction_transitions o.junction) os

abbrev pub owned_statements : List Owned → ℕ
owned_statements os = sum_by (λ (o : Owned). junction_statements o.junction) os

-- the counts of states and junctions in lists
abbrev pub lists_size : List Placed → List Owned → Counts
lists_size ps os =
    counted (length ps) (length os) (states_transitions ps + owned_transitions os)
    (length ps + length os + states_transitions ps + owned_transitions os + states_statements ps + owned_statements os)

placed_sizes : (s : ℕ) (ps : List Placed) → AsMany (sizes place_size ps) (lists_size ps (owned_from s ps))
placed_sizes s [] = (refl, refl, refl, refl, refl, refl)
placed_sizes s (p ∷ ps) =
    let h = placed_sizes (suc s) ps in
    let parts = parts_sizes p.parts in
    let own = owned_by s p.parts.junctions in
    let more = owned_from (suc s) ps in
    let count = length-append own more in
    let own_count : length own ≡ length p.parts.junctions
    = length-map p.parts.junctions (λ (j : Junction). record { owner = s; junction = j }) in
    let own_trans = sum-owned junction_transitions s p.parts.junctions in
    let own_stmts = sum-owned junction_statements s p.parts.junctions in
    let all_trans = sum_by-append (λ (o : Owned). junction_transitions o.junction) own more in
    let all_stmts = sum_by-append (λ (o : Owned). junction_statements o.junction) own more in
    let trans = sum_by-cons (λ (p : Placed). parts_transitions p.parts) p ps in
    let stmts = sum_by-cons (λ (p : Placed). parts_statements p.parts) p ps in
    (omega arith, omega arith, omega arith, omega arith, omega arith, omega arith)

-- the counts of a state of the text are those of its lists
pub state_sizes : (root : State)
    → let ps = placed_from None 0 root in
    AsMany (size_of_state root) (lists_size ps (in_text_order [] (owned_from 0 ps)))
state_sizes root =
    let ps = placed_from None 0 root in
    let os = owned_from 0 ps in
    let h = subst (λ n. AsMany n (lists_size ps os)) (from_sizes None 0 root) (placed_sizes 0 ps) in
    let count = length-order [] os in
    let trans = sum-order (λ (o : Owned). junction_transitions o.junction) [] os in
    let stmts = sum-order (λ (o : Owned). junction_statements o.junction) [] os in
    (omega arith, omega arith, omega arith, omega arith, omega arith, omega arith)

-- ---- the resolved chart

module _ (p : Scopes) where
  -- the statements of transitions
  plain_statements : (s : ℕ) (ts : List Trans)
      → sum_by trans_statements (map plain_trans (map (resolved_trans p s) ts)) ≡ sum_by statements_of ts
  plain_statements s [] = refl
  plain_statements s (t ∷ ts) =
      let h = plain_statements s ts in
      let cond = length-map_twice (resolved_stmt p s) plain_stmt t.cond in
      let act = length-map_twice (resolved_stmt p s) plain_stmt t.act in
      let here = sum_by-cons trans_statements (plain_trans (resolved_trans p s t))
      (map plain_trans (map (resolved_trans p s) ts)) in
      let sum = sum_by-cons statements_of t ts in
      omega arith

  -- the transitions of states
  pub plain_transitions : (s : ℕ) (ps : List Placed)
      → sum_by node_transitions (map plain_node (resolved_states p s ps)) ≡ states_transitions ps
  plain_transitions s [] = refl
  plain_transitions s (x ∷ xs) =
      let h = plain_transitions (suc s) xs in
      let outer = length-map_twice (resolved_trans p s) plain_trans x.parts.outer in
      let inner = length-map_twice (resolved_trans p s) plain_trans x.parts.inner in
      let default = length-map_twice (resolved_trans p s) plain_trans x.parts.default in
      let here = sum_by-cons node_transitions (plain_node (resolved_state p s x))
      (map plain_node (resolved_states p (suc s) xs)) in
      let sum = sum_by-cons (λ (q : Placed). parts_transitions q.parts) x xs in
      omega arith

  -- the statements of states
  pub plain_state_statements : (s : ℕ) (ps : List Placed)
      → sum_by node_statements (map plain_node (resolved_states p s ps)) ≡ states_statements ps
  plain_state_statements s [] = refl
  plain_state_statements s (x ∷ xs) =
      let h = plain_state_statements (suc s) xs in
      let entry = length-map_twice (resolved_stmt p s) plain_stmt x.parts.entry in
      let during = length-map_twice (resolved_stmt p s) plain_stmt x.parts.during in
      let exit = length-map_twice (resolved_stmt p s) plain_stmt x.parts.exit in
      let outer = plain_statements s x.parts.outer in
      let inner = plain_statements s x.parts.inner in
      let default = plain_statements s x.parts.default in
      let here = sum_by-cons node_statements (plain_node (resolved_state p s x))
      (map plain_node (resolved_states p (suc s) xs)) in
      let sum = sum_by-cons (λ (q : Placed). parts_statements q.parts) x xs in
      omega arith

  -- the lists of junctions
  abbrev pub plain_junctions : List Owned → List (List charts.Trans)
  plain_junctions os = map (λ (j : resolved.Junction). plain_list j.list) (map (resolved_junction p) os)

  -- the transitions and the statements of junctions
  pub plain_junction_transitions : (os : List Owned)
      → sum_by (λ (list : List charts.Trans). length list) (plain_junctions os) ≡ owned_transitions os
  plain_junction_transitions [] = refl
  plain_junction_transitions (o ∷ os) =
      let h = plain_junction_transitions os in
      let list = length-map_twice (resolved_trans p o.owner) plain_trans o.junction.list in
      let here = sum_by-cons (λ (list : List charts.Trans). length list) (plain_list (resolved_junction p o).list)
      (plain_junctions os) in
      let sum = sum_by-cons (λ (o : Owned). junction_transitions o.junction) o os in
      omega arith

  pub plain_junction_statements : (os : List Owned)
      → sum_by (sum_by trans_statements) (plain_junctions os) ≡ owned_statements os
  plain_junction_statements [] = refl
  plain_junction_statements (o ∷ os) =
      let h = plain_junction_statements os in
      let list = plain_statements o.owner o.junction.list in
      let here = sum_by-cons (sum_by trans_statements) (plain_list (resolved_junction p o).list) (plain_junctions os) in
      let sum = sum_by-cons (λ (o : Owned). junction_statements o.junction) o os in
      omega arith
