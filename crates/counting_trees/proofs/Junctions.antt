-- The junction at which nothing is found, by its number.
use Rattle.std.proofs.Common.{◌≡◌, ℕ, zero, suc, ◌+◌, List, [], ◌∷◌, ◌++◌, map, Option, Some, None, Bool, true, false}
use Rattle.std.proofs.Common.{refl, sym, ap, ◌∙◌, subst, arith}
use Rattle.std.specs.Prelude.{◌==◌, slice_get, slice_index_or, Contains, if◌then◌else◌}
use Rattle.token_grammar.specs.declared.token.Span.{Span}
use Rattle.chart_tree.specs.declared.name.NameText.{NameText}
use Rattle.chart_tree.specs.Trees as trees
use Rattle.chart_tree.specs.Trees.{State, StateOf, Chart}
use Rattle.active_config.specs.Tree.{ancestors}
use Rattle.checked_chart.specs.declared.parts.Dest.TheVariants.{Junction}
use Rattle.chart_places.specs.Placed.{Owned, owned_by, owned_from, placed_from, placed_below, placed_states, is_earlier, inserted}
use Rattle.chart_places.specs.Placed.{in_text_order, placed_junctions}
use Rattle.chart_places.specs.Scopes.{Scopes, scopes_of, JunctionName, junction_name, junction_named, junction_at, junction_in}
use Rattle.chart_places.specs.Scopes.{or_else}
use Rattle.chart_structure.proofs.LinkLemmas.{stands_at}
use Rattle.chart_structure.proofs.WalkLemmas.{same_of}
use Rattle.resolved_tree.specs.Resolved as resolved
use Rattle.resolved_tree.specs.Plain.{plain_list}
use Rattle.chart_scope.specs.Uses.{resolved_trans, number_or_zero}
use Rattle.chart_scope.specs.Names.{name_faults, unless_own, is_number, doubled_events, doubled_vars, doubled_states}
use Rattle.chart_scope.specs.Names.{doubled_junctions, used_in_states, used_in_junctions}
use Rattle.chart_scope.specs.Resolution.{resolved_junction}
use Rattle.counting_rules.specs.Written.{never}
use Rattle.counting_trees.specs.Counters.{next_name, end_name, next_junction}
use Rattle.counting_trees.specs.Counting.{junctions_in}
use Rattle.counting_trees.proofs.Lists.{no_first, no_rest, Has, has_more, has_left, get_map}
use Rattle.counting_trees.proofs.Nodes.{way_in}

-- ---- in the order of the text

inserted_itself : (o : Owned) (xs : List Owned) → Has (inserted o xs) o
inserted_itself o [] = (0, refl)
inserted_itself o (x ∷ xs) =
    at (is_earlier o.junction.name.at x.junction.name.at) (inserted_itself o xs)
  where
    at : (b : Bool) → Has (inserted o xs) o → Has (if b then o ∷ (x ∷ xs) else x ∷ inserted o xs) o
    at true h = (0, refl)
    at false h = has_more x (inserted o xs) o h

inserted_other : (q : Owned) (xs : List Owned) (o : Owned) → Has xs o → Has (inserted q xs) o
inserted_other q [] o (i, e) = absurd cc
inserted_other q (x ∷ xs) o (zero, e) = at (is_earlier q.junction.name.at x.junction.name.at)
  where
    at : (b : Bool) → Has (if b then q ∷ (x ∷ xs) else x ∷ inserted q xs) o
    at true = (1, e)
    at false = (0, e)
inserted_other q (x ∷ xs) o (suc i, e) =
    at (is_earlier q.junction.name.at x.junction.name.at) (inserted_other q xs o (i, e))
  where
    at : (b : Bool) → Has (inserted q xs) o → Has (if b then q ∷ (x ∷ xs) else x ∷ inserted q xs) o
    at true h = (suc (suc i), e)
    at false h = has_more x (inserted q xs) o h

ordered_done : (done os : List Owned) (o : Owned) → Has done o → Has (in_text_order done os) o
ordered_done done [] o h = h
ordered_done done (q ∷ os) o h = ordered_done (inserted q done) os o (inserted_other q done o h)

ordered_new : (done os : List Owned) (o : Owned) → Has os o → Has (in_text_order done os) o
ordered_new done [] o (i, e) = absurd cc
ordered_new done (q ∷ os) o (zero, e) =
    let same : q ≡ o = cc in
    ordered_done (inserted q done) os o (subst (λ z. Has (inserted q done) z) same (inserted_itself q done))
ordered_new done (q ∷ os) o (suc i, e) = ordered_new (inserted q done) os o (i, e)

-- ---- a junction without a double is found at its own number

own_number : (n : ℕ) (found : Option ℕ) (x : NameText) → unless_own (is_number n found) x ≡ [] → found ≡ Some n
own_number n None x e = absurd cc
own_number n (Some y) x e = at (y == n) refl e
  where
    at : (b : Bool) → (y == n) ≡ b → unless_own b x ≡ [] → Some y ≡ Some n
    at true t e = ap Some (same_of y n t)
    at false t e = absurd cc

pub own_at : (p : Scopes) (n : ℕ) (os : List JunctionName) (i : ℕ) (o : JunctionName) → doubled_junctions p n os ≡ []
    → slice_get os i ≡ Some o → junction_named p o.owner o.name.text ≡ Some (n + i)
own_at p n [] i o none e = absurd cc
own_at p n (x ∷ xs) zero o none e =
    let same : x ≡ o = cc in
    let first = unless_own (is_number n (junction_named p x.owner x.name.text)) x.name in
    let found = own_number n (junction_named p x.owner x.name.text) x.name
    (no_first first (doubled_junctions p (suc n) xs) none) in
    let here : n ≡ n + 0 = omega arith in
    ap (λ (z : JunctionName). junction_named p z.owner z.name.text) (sym same) ∙ found ∙ ap Some here
own_at p n (x ∷ xs) (suc i) o none e =
    let first = unless_own (is_number n (junction_named p x.owner x.name.text)) x.name in
    let next : suc n + i ≡ n + suc i = omega arith in
    own_at p (suc n) xs i o (no_rest first (doubled_junctions p (suc n) xs) none) e ∙ ap Some next

-- a junction of the chart itself is found there
pub found_at : (p : Scopes) (name : List ℕ) (i : ℕ) → junction_named p 0 name ≡ Some i
    → number_or_zero (junction_at p 0 name) ≡ i
unfolding junction_at
found_at p name i e = ap (λ o. number_or_zero (or_else o (junction_in p name (ancestors p.tree 0)))) e

-- no junction stands twice
pub no_double : (c : Chart) → name_faults c ≡ [] → doubled_junctions (scopes_of c) 0 (scopes_of c).junctions ≡ []
unfolding name_faults
no_double c none =
    let p = scopes_of c in
    let d = doubled_events p 0 p.events ++ doubled_vars p 0 p.vars ++ doubled_states p 0 p.states in
    let j = doubled_junctions p 0 p.junctions in
    let us = used_in_states p 0 (placed_states c.root) in
    let uj = used_in_junctions p (placed_junctions (placed_states c.root)) in
    no_rest d j (no_first (d ++ j) us (no_first (d ++ j ++ us) uj none))

-- ---- the junction

abbrev pub of_chart : trees.Junction → Owned
of_chart j = record { owner = 0; junction = j }

owned_first : (x : State) (j : trees.Junction) → Contains (junctions_in x) j
    → Has (owned_from 0 (placed_from None 0 x)) (of_chart j)
owned_first (StateOf p below) j h =
    has_left (owned_by 0 p.junctions) (owned_from 1 (placed_below 0 1 below)) (of_chart j)
    (h.0, get_map of_chart p.junctions h.0 j (stands_at p.junctions j h))

-- where the transition of the junction leads
abbrev pub end_in : Scopes → ℕ
end_in p = number_or_zero (junction_at p 0 end_name)

module _ (t : Chart) (none : name_faults t ≡ []) (at : Span) (there : Contains (junctions_in t.root) (next_junction at)) where
  next_stands : Has (placed_junctions (placed_states t.root)) (of_chart (next_junction at))
  unfolding placed_junctions placed_states
  next_stands = ordered_new [] _ _ (owned_first t.root (next_junction at) there)

  -- its number
  next_number : way_in (scopes_of t) ≡ next_stands.0
  unfolding scopes_of
  next_number =
      let p = scopes_of t in
      let h = next_stands in
      let o = of_chart (next_junction at) in
      let found = own_at p 0 p.junctions h.0 (junction_name o) (no_double t none)
      (get_map junction_name _ h.0 o h.1) in
      let here : 0 + h.0 ≡ h.0 = omega arith in
      found_at p next_name h.0 (found ∙ ap Some here)

  -- the list of a junction of that number
  list_at : (p : Scopes) (js : List Owned) (i : ℕ) (o : Owned) → slice_get js i ≡ Some o
      → slice_index_or (map (λ (j : resolved.Junction). plain_list j.list) (map (resolved_junction p) js)) i []
      ≡ plain_list (map (resolved_trans p o.owner) o.junction.list)
  list_at p [] i o e = absurd cc
  list_at p (x ∷ js) zero o e =
      let same : x ≡ o = cc in ap (λ (z : Owned). plain_list (map (resolved_trans p z.owner) z.junction.list)) same
  list_at p (x ∷ js) (suc i) o e = list_at p js i o e

  -- its only transition is never taken
  pub never_taken : slice_index_or (map (λ (j : resolved.Junction). plain_list j.list)
      (map (resolved_junction (scopes_of t)) (placed_junctions (placed_states t.root)))) (way_in (scopes_of t)) []
      ≡ never (Junction (end_in (scopes_of t))) ∷ []
  never_taken =
      let p = scopes_of t in
      let h = next_stands in
      ap (λ i. slice_index_or (map (λ (j : resolved.Junction). plain_list j.list)
      (map (resolved_junction p) (placed_junctions (placed_states t.root)))) i []) next_number
      ∙ list_at p (placed_junctions (placed_states t.root)) h.0 (of_chart (next_junction at)) h.1
