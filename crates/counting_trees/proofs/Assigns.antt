-- A chart whose text assigns to no counter by its name assigns to none by its number.
use Rattle.std.proofs.Common.{◌≡◌, ◌≢◌, ℕ, zero, suc, ◌≤◌, Bool, true, false, List, [], ◌∷◌, ◌++◌, map, Option, Some, None}
use Rattle.std.proofs.Common.{refl, sym, ap, ◌∙◌, subst, arith}
use Rattle.std.specs.Prelude.{slice_index_or, bytes_eq, if◌then◌else◌}
use Rattle.std.specs.List.{AllByRecursion}
use Rattle.std.proofs.lemmas.Slice.Eq.{bytes_eq-Decides}
use Rattle.token_grammar.specs.declared.token.Span.{Span}
use Rattle.chart_tree.specs.declared.name.NameText.{NameText}
use Rattle.chart_tree.specs.Trees as core
use Rattle.checked_chart.specs.Chart.{Chart, node, junction, no_node}
use Rattle.chart_places.specs.Placed.{Placed, Owned, placed_states, placed_junctions, owned_by, owned_from, inserted}
use Rattle.chart_places.specs.Placed.{in_text_order, is_earlier}
use Rattle.chart_places.specs.Scopes.{Scopes, scopes_of, Meaning, Event, Datum, meaning_of, earlier_declared, number_from, place_of}
use Rattle.resolved_tree.specs.Resolved as resolved
use Rattle.resolved_tree.specs.Plain.{plain_stmt, plain_block, plain_trans, plain_list, plain_node, chart_of}
use Rattle.chart_scope.specs.Uses.{resolved_stmt, resolved_trans, datum_faults, stmt_faults, block_faults, trans_faults, list_faults}
use Rattle.chart_scope.specs.Uses.{expr_faults, trigger_faults, guard_faults, dest_faults, meaning_number}
use Rattle.chart_scope.specs.Names.{name_faults, parts_faults, used_in_states, used_in_junctions, doubled_events, doubled_vars}
use Rattle.chart_scope.specs.Names.{doubled_states, doubled_junctions}
use Rattle.chart_scope.specs.Resolution.{IsResolved, resolved_state, resolved_states, resolved_junction}
use Rattle.counting_log.specs.Assigned.{OnlyStmt, OnlyBlock, OnlyTrans, OnlyList, OnlyNode, OnlyChart}
use Rattle.counting_trees.specs.Assigns.{NamesStmt, NamesBlock, NamesTrans, NamesList, NamesParts, AssignsOnly}
use Rattle.counting_trees.proofs.Lists.{no_first, no_rest}

-- ---- one name for each number

least_number : (m : ℕ) (xs : List NameText) (t : List ℕ) (n : ℕ) → number_from m xs t ≡ Some n → m ≤ n
least_number m [] t n e = absurd cc
least_number m (x ∷ xs) t n e = at (bytes_eq x.text t) e (least_number (suc m) xs t n)
  where
    at : (b : Bool) → (if b then Some m else number_from (suc m) xs t) ≡ Some n
        → (number_from (suc m) xs t ≡ Some n → suc m ≤ n) → m ≤ n
    at true e rest = (let same : m ≡ n = cc in omega arith)
    at false e rest = (let le = rest e in omega arith)

one_text : (m : ℕ) (xs : List NameText) (t u : List ℕ) (n : ℕ) → number_from m xs t ≡ Some n → number_from m xs u ≡ Some n
    → t ≡ u
one_text m [] t u n e f = absurd cc
one_text m (x ∷ xs) t u n e f =
    at (bytes_eq x.text t) (bytes_eq x.text u) refl refl e f (one_text (suc m) xs t u n)
  where
    at : (b a : Bool) → bytes_eq x.text t ≡ b → bytes_eq x.text u ≡ a
        → (if b then Some m else number_from (suc m) xs t) ≡ Some n
        → (if a then Some m else number_from (suc m) xs u) ≡ Some n
        → (number_from (suc m) xs t ≡ Some n → number_from (suc m) xs u ≡ Some n → t ≡ u) → t ≡ u
    at true true p q e f rest = sym ((bytes_eq-Decides x.text t).0 p) ∙ (bytes_eq-Decides x.text u).0 q
    at true false p q e f rest =
        absurd (let le = least_number (suc m) xs u n f in let same : m ≡ n = cc in omega arith)
    at false true p q e f rest =
        absurd (let le = least_number (suc m) xs t n e in let same : m ≡ n = cc in omega arith)
    at false false p q e f rest = rest e f

is_datum : (p : Scopes) (a b : Option ℕ) (n : ℕ) → earlier_declared p a b ≡ Some (Datum n) → b ≡ Some n
is_datum p None None n e = absurd cc
is_datum p None (Some v) n e = cc
is_datum p (Some x) None n e = absurd cc
is_datum p (Some x) (Some v) n e = at (is_earlier (place_of p.vars v) (place_of p.events x)) e
  where
    at : (b : Bool) → (if b then Some (Datum v) else Some (Event x)) ≡ Some (Datum n) → Some v ≡ Some n
    at true e = cc
    at false e = absurd cc

-- names that mean one datum are one name
same_name : (p : Scopes) (t u : List ℕ) (n : ℕ) → meaning_of p t ≡ Some (Datum n) → meaning_of p u ≡ Some (Datum n) → t ≡ u
unfolding meaning_of
same_name p t u n e f = one_text 0 p.vars t u n (is_datum p _ _ n e) (is_datum p _ _ n f)

means_one : (o : Option Meaning) (at : Span) → datum_faults o at ≡ [] → o ≡ Some (Datum (meaning_number o))
means_one None at e = absurd cc
means_one (Some (Event x)) at e = absurd cc
means_one (Some (Datum v)) at e = refl

-- ---- statements

module _ (p : Scopes) (name : List ℕ) (v : ℕ) (is : meaning_of p name ≡ Some (Datum v)) where
  abbrev Other : List ℕ → Type 0
  Other t = t ≢ name

  abbrev Not : ℕ → Type 0
  Not u = u ≢ v

  stmt_only : (s : ℕ) (x : core.Stmt) → NamesStmt Other x → stmt_faults p s x ≡ []
      → OnlyStmt Not (plain_stmt (resolved_stmt p s x))
  stmt_only s (core.Assign n e) other none =
      let means = means_one (meaning_of p n.text) n.at
      (no_first (datum_faults (meaning_of p n.text) n.at) (expr_faults p s e) none) in
      λ same. other (same_name p n.text name v (means ∙ ap (λ m. Some (Datum m)) same) is)
  stmt_only s (core.Send n None) other none = tt
  stmt_only s (core.Send n (Some path)) other none = tt
  stmt_only s (core.Emit n) other none = tt

  block_only : (s : ℕ) (xs : List core.Stmt) → NamesBlock Other xs → block_faults p s xs ≡ []
      → OnlyBlock Not (plain_block (map (resolved_stmt p s) xs))
  block_only s [] other none = tt
  block_only s (x ∷ xs) other none = (
    stmt_only s x other.0 (no_first (stmt_faults p s x) (block_faults p s xs) none),
    block_only s xs other.1 (no_rest (stmt_faults p s x) (block_faults p s xs) none),
  )

  trans_only : (s : ℕ) (t : core.Trans) → NamesTrans Other t → trans_faults p s t ≡ []
      → OnlyTrans Not (plain_trans (resolved_trans p s t))
  trans_only s t other none =
      let e = trigger_faults p t.event in
      let g = guard_faults p s t.guard in
      let c = block_faults p s t.cond in
      let a = block_faults p s t.act in
      let before = no_first (e ++ g ++ c ++ a) (dest_faults p s t.dest) none in
      record {
        condition = block_only s t.cond other.cond (no_rest (e ++ g) c (no_first (e ++ g ++ c) a before));
        action = block_only s t.act other.act (no_rest (e ++ g ++ c) a before);
      }

  list_only : (s : ℕ) (ts : List core.Trans) → NamesList Other ts → list_faults p s ts ≡ []
      → OnlyList Not (plain_list (map (resolved_trans p s) ts))
  list_only s [] other none = tt
  list_only s (t ∷ ts) other none = (
    trans_only s t other.0 (no_first (trans_faults p s t) (list_faults p s ts) none),
    list_only s ts other.1 (no_rest (trans_faults p s t) (list_faults p s ts) none),
  )

  node_only : (s : ℕ) (x : Placed) → NamesParts Other x.parts → parts_faults p s x.parts ≡ []
      → OnlyNode Not (plain_node (resolved_state p s x))
  node_only s x other none =
      let q = x.parts in
      let e = block_faults p s q.entry in
      let d = block_faults p s q.during in
      let g = block_faults p s q.exit in
      let o = list_faults p s q.outer in
      let i = list_faults p s q.inner in
      let f = list_faults p s q.default in
      let five = no_first (e ++ d ++ g ++ o ++ i) f none in
      let four = no_first (e ++ d ++ g ++ o) i five in
      let three = no_first (e ++ d ++ g) o four in
      let two = no_first (e ++ d) g three in
      record {
        entry = block_only s q.entry other.entry (no_first e d two);
        during = block_only s q.during other.during (no_rest e d two);
        exit = block_only s q.exit other.exit (no_rest (e ++ d) g three);
        outer = list_only s q.outer other.outer (no_rest (e ++ d ++ g) o four);
        inner = list_only s q.inner other.inner (no_rest (e ++ d ++ g ++ o) i five);
        default = list_only s q.default other.default (no_rest (e ++ d ++ g ++ o ++ i) f none);
      }

  nodes_only : (n : ℕ) (xs : List Placed) → AllByRecursion (λ (x : Placed). NamesParts Other x.parts) xs
      → used_in_states p n xs ≡ [] → (s : ℕ)
      → OnlyNode Not (slice_index_or (map plain_node (resolved_states p n xs)) s no_node)
  unfolding no_node
  nodes_only n [] other none s =
      record { entry = tt; during = tt; exit = tt; outer = tt; inner = tt; default = tt }
  nodes_only n (x ∷ xs) other none zero =
      node_only n x other.0 (no_first (parts_faults p n x.parts) (used_in_states p (suc n) xs) none)
  nodes_only n (x ∷ xs) other none (suc s) =
      nodes_only (suc n) xs other.1 (no_rest (parts_faults p n x.parts) (used_in_states p (suc n) xs) none) s

  -- ---- junctions

  abbrev OwnedOnly : Owned → Type 0
  OwnedOnly o = NamesList Other o.junction.list

  all_inserted : (o : Owned) (xs : List Owned) → OwnedOnly o → AllByRecursion OwnedOnly xs
      → AllByRecursion OwnedOnly (inserted o xs)
  all_inserted o [] h all = (h, tt)
  all_inserted o (x ∷ xs) h all =
      at (is_earlier o.junction.name.at x.junction.name.at) (all_inserted o xs h all.1)
    where
      at : (b : Bool) → AllByRecursion OwnedOnly (inserted o xs)
          → AllByRecursion OwnedOnly (if b then o ∷ (x ∷ xs) else x ∷ inserted o xs)
      at true rest = (h, all)
      at false rest = (all.0, rest)

  all_ordered : (done os : List Owned) → AllByRecursion OwnedOnly done → AllByRecursion OwnedOnly os
      → AllByRecursion OwnedOnly (in_text_order done os)
  all_ordered done [] h all = h
  all_ordered done (o ∷ os) h all = all_ordered (inserted o done) os (all_inserted o done all.0 h) all.1

  all_both : (xs ys : List Owned) → AllByRecursion OwnedOnly xs → AllByRecursion OwnedOnly ys
      → AllByRecursion OwnedOnly (xs ++ ys)
  all_both [] ys h k = k
  all_both (x ∷ xs) ys h k = (h.0, all_both xs ys h.1 k)

  all_by : (s : ℕ) (js : List core.Junction) → AllByRecursion (λ (j : core.Junction). NamesList Other j.list) js
      → AllByRecursion OwnedOnly (owned_by s js)
  all_by s [] h = tt
  all_by s (j ∷ js) h = (h.0, all_by s js h.1)

  all_owned : (s : ℕ) (xs : List Placed) → AllByRecursion (λ (x : Placed). NamesParts Other x.parts) xs
      → AllByRecursion OwnedOnly (owned_from s xs)
  all_owned s [] h = tt
  all_owned s (x ∷ xs) h =
      all_both (owned_by s x.parts.junctions) (owned_from (suc s) xs) (all_by s x.parts.junctions h.0.junctions)
      (all_owned (suc s) xs h.1)

  junctions_only : (js : List Owned) → AllByRecursion OwnedOnly js → used_in_junctions p js ≡ [] → (j : ℕ)
      → OnlyList Not
      (slice_index_or (map (λ (j : resolved.Junction). plain_list j.list) (map (resolved_junction p) js)) j [])
  junctions_only [] all none j = tt
  junctions_only (o ∷ js) all none zero =
      list_only o.owner o.junction.list all.0
      (no_first (list_faults p o.owner o.junction.list) (used_in_junctions p js) none)
  junctions_only (o ∷ js) all none (suc j) =
      junctions_only js all.1 (no_rest (list_faults p o.owner o.junction.list) (used_in_junctions p js) none) j

  -- all of a chart text
  pub lists_only : (xs : List Placed) → AllByRecursion (λ (x : Placed). NamesParts Other x.parts) xs
      → AllByRecursion OwnedOnly (placed_junctions xs)
  unfolding placed_junctions
  lists_only xs h = all_ordered [] (owned_from 0 xs) tt (all_owned 0 xs h)

-- the faults of the names that are used
module _ (c : core.Chart) (none : name_faults c ≡ []) where
  pub used_none : (used_in_states (scopes_of c) 0 (placed_states c.root) ≡ [])
      × (used_in_junctions (scopes_of c) (placed_junctions (placed_states c.root)) ≡ [])
  unfolding name_faults
  used_none =
      let p = scopes_of c in
      let d = doubled_events p 0 p.events ++ doubled_vars p 0 p.vars ++ doubled_states p 0 p.states
      ++ doubled_junctions p 0 p.junctions in
      let us = used_in_states p 0 (placed_states c.root) in
      let uj = used_in_junctions p (placed_junctions (placed_states c.root)) in
      (no_rest d us (no_first (d ++ us) uj none), no_rest (d ++ us) uj none)

-- where the text assigns to no name of the datum, the chart doesn't assign to the datum
pub chart_only : (tree : core.Chart) (r : resolved.Resolved) (c : Chart) (name : List ℕ) (v : ℕ) → IsResolved tree r
    → c ≡ chart_of r → meaning_of (scopes_of tree) name ≡ Some (Datum v) → AssignsOnly (λ t. t ≢ name) tree
    → OnlyChart (λ u. u ≢ v) c
unfolding chart_of node junction
chart_only tree r c name v h e is other =
    let p = scopes_of tree in
    let used = used_none tree h.faultless in
    let xs = placed_states tree.root in
    record {
      nodes = λ s.
          subst (OnlyNode (λ u. u ≢ v))
          (sym (ap (λ (y : Chart). slice_index_or y.nodes s no_node) e
          ∙ ap (λ (ss : List resolved.State). slice_index_or (map plain_node ss) s no_node) h.resolves.states))
          (nodes_only p name v is 0 xs other used.0 s);
      junctions = λ j.
          subst (OnlyList (λ u. u ≢ v))
          (sym (ap (λ (y : Chart). slice_index_or y.junctions j []) e
          ∙ ap (λ (js : List resolved.Junction). slice_index_or (map (λ (o : resolved.Junction). plain_list o.list) js) j [])
          h.resolves.junctions))
          (junctions_only p name v is (placed_junctions xs) (lists_only p name v is xs other) used.1 j);
    }
