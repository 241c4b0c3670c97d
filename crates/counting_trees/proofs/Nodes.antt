-- What counts in a chart text is what counters are written out as.
use Rattle.std.proofs.Common.{◌≡◌, ℕ, zero, suc, ◌+◌, ◌<◌, List, [], ◌∷◌, ◌++◌, map, length, Some, None, refl, sym, ap, ap₂}
use Rattle.std.proofs.Common.{◌∙◌, arith, pos, false}
use Rattle.std.specs.Prelude.{slice_index_or, bytes_eq}
use Rattle.std.specs.List.{filter, range_with_len}
use Rattle.std.proofs.lemmas.List.{length-map}
use Rattle.std.proofs.lemmas.List.FromFn.{fill_by_all}
use Rattle.fixed_point.specs.declared.num.Num.{Num}
use Rattle.fixed_point.specs.Text.{first_from}
use Rattle.actions.specs.declared.expr.Op.TheVariants as ops
use Rattle.actions.specs.Exprs as plain
use Rattle.chart_tree.specs.declared.name.NameText.{NameText}
use Rattle.chart_tree.specs.Trees as trees
use Rattle.token_grammar.specs.declared.token.Span.{Span}
use Rattle.checked_chart.specs.Chart as charts
use Rattle.checked_chart.specs.Chart.{no_node}
use Rattle.checked_chart.specs.declared.parts.Dest.TheVariants.{Junction}
use Rattle.chart_places.specs.Placed.{Placed}
use Rattle.chart_places.specs.Scopes.{Scopes, junction_at}
use Rattle.resolved_tree.specs.Plain.{signed_literal, plain_stmt, plain_block, plain_trans, plain_list, plain_node}
use Rattle.chart_scope.specs.Uses.{resolved_stmt, resolved_trans, number_or_zero}
use Rattle.chart_scope.specs.Resolution.{resolved_state, resolved_states}
use Rattle.counting_rules.specs.Counters.{of_root}
use Rattle.counting_rules.specs.Written as written
use Rattle.counting_trees.specs.Counters.{Counter, number, next_name, reset_stmt, count_stmt, count_trans}
use Rattle.counting_trees.specs.Counting.{own}
use Rattle.counting_trees.specs.Numbers.{number_of, counted_as}
use Rattle.counting_trees.proofs.Placed.{counted, counted_all, counted-length}

-- ---- literals

pub zero_is : signed_literal false (number 0) ≡ record { mantissa = pos 0; frac = 0 }
unfolding signed_literal first_from
zero_is = refl

one_is : signed_literal false (number 1) ≡ record { mantissa = pos 1; frac = 0 }
unfolding signed_literal first_from
one_is = refl

-- the number of the junction at which nothing is found
abbrev pub way_in : Scopes → ℕ
way_in p = number_or_zero (junction_at p 0 next_name)

-- what a state does, with further statements before its entry action and transitions before its inner list
abbrev pub with_node : List plain.Stmt → List charts.Trans → charts.Node → charts.Node
with_node resets list n = record {
  entry = resets ++ n.entry;
  during = n.during;
  exit = n.exit;
  outer = n.outer;
  inner = list ++ n.inner;
  default = n.default;
  history = n.history;
}

module _ (p : Scopes) where
  -- ---- statements

  reset_plain : (s : ℕ) (k : Counter)
      → plain_stmt (resolved_stmt p s (reset_stmt k)) ≡ written.reset_stmt (number_of p k.name)
  reset_plain s k = ap (λ (l : Num). plain.Assign (number_of p k.name) (plain.Lit l)) zero_is

  count_plain : (s : ℕ) (at : Span) (k : Counter)
      → plain_stmt (resolved_stmt p s (count_stmt at k)) ≡ written.count_stmt (number_of p k.name)
  count_plain s at k =
      let v = number_of p k.name in
      ap (λ (l : Num). plain.Assign v (plain.Bin ops.Add (plain.Read v) (plain.Lit l))) one_is

  resets_plain : (s : ℕ) (ks : List Counter) (q : List trees.Stmt)
      → plain_block (map (resolved_stmt p s) (map reset_stmt ks ++ q))
      ≡ map written.reset_stmt (map (λ (k : Counter). number_of p k.name) ks) ++ plain_block (map (resolved_stmt p s) q)
  resets_plain s [] q = refl
  resets_plain s (k ∷ ks) q = ap₂ (λ x xs. x ∷ xs) (reset_plain s k) (resets_plain s ks q)

  counts_plain : (at : Span) (ks : List Counter) → plain_block (map (resolved_stmt p 0) (map (count_stmt at) ks))
      ≡ map written.count_stmt (map (λ (k : Counter). number_of p k.name) ks)
  counts_plain at [] = refl
  counts_plain at (k ∷ ks) = ap₂ (λ x xs. x ∷ xs) (count_plain 0 at k) (counts_plain at ks)

  -- ---- transitions

  trans_plain : (ks : List Counter) (e : NameText)
      → plain_trans (resolved_trans p 0 (count_trans ks e)) ≡ written.count_trans (way_in p) (counted_as p ks e)
  trans_plain ks e = λ i. record {
    event = Some (number_of p e.text);
    guard = None;
    condition = counts_plain e.at (filter (λ (k : Counter). bytes_eq k.event.text e.text) ks) i;
    action = [];
    dest = Junction (way_in p);
  }

  list_plain : (ks : List Counter) (es : List NameText) (q : List trees.Trans)
      → plain_list (map (resolved_trans p 0) (map (count_trans ks) es ++ q))
      ≡ map (written.count_trans (way_in p)) (map (counted_as p ks) es) ++ plain_list (map (resolved_trans p 0) q)
  list_plain ks [] q = refl
  list_plain ks (e ∷ es) q = ap₂ (λ x xs. x ∷ xs) (trans_plain ks e) (list_plain ks es q)

  -- ---- states

  root_plain : (r ks : List Counter) (es : List NameText) (x : Placed)
      → plain_node (resolved_state p 0 (counted r (map (count_trans ks) es) x))
      ≡ with_node (map written.reset_stmt (map (λ (k : Counter). number_of p k.name) r))
      (map (written.count_trans (way_in p)) (map (counted_as p ks) es)) (plain_node (resolved_state p 0 x))
  root_plain r ks es x = λ i. record (plain_node (resolved_state p 0 x)) {
    entry = resets_plain 0 r x.parts.entry i;
    inner = list_plain ks es x.parts.inner i;
  }

  state_plain : (s : ℕ) (r : List Counter) (x : Placed)
      → plain_node (resolved_state p s (counted r [] x))
      ≡ with_node (map written.reset_stmt (map (λ (k : Counter). number_of p k.name) r)) []
      (plain_node (resolved_state p s x))
  state_plain s r x = λ i. record (plain_node (resolved_state p s x)) {
    entry = resets_plain s r x.parts.entry i;
  }

  -- the numbers of the counters of state s
  abbrev numbers : List (List Counter) → ℕ → List ℕ
  numbers ks s = map (λ (k : Counter). number_of p k.name) (own ks s)

  rest_at : (ks : List (List Counter)) (n : ℕ) (xs : List Placed) (s : ℕ) → s < length xs
      → slice_index_or (map plain_node (resolved_states p n (counted_all ks n [] xs))) s no_node
      ≡ with_node (map written.reset_stmt (numbers ks (n + s))) []
      (slice_index_or (map plain_node (resolved_states p n xs)) s no_node)
  rest_at ks n [] s lt = absurd (omega (arith, lt))
  rest_at ks n (x ∷ xs) zero lt =
      let e : n ≡ n + 0 = omega arith in
      state_plain n (own ks n) x
      ∙ ap (λ m. with_node (map written.reset_stmt (numbers ks m)) [] (plain_node (resolved_state p n x))) e
  rest_at ks n (x ∷ xs) (suc s) lt =
      let e : suc n + s ≡ n + suc s = omega arith in
      rest_at ks (suc n) xs s (omega (arith, lt))
      ∙ ap (λ m. with_node (map written.reset_stmt (numbers ks m)) []
      (slice_index_or (map plain_node (resolved_states p (suc n) xs)) s no_node)) e

  node_at : (ks : List (List Counter)) (all : List Counter) (es : List NameText) (xs : List Placed) (s : ℕ) → s < length xs
      → slice_index_or (map plain_node (resolved_states p 0 (counted_all ks 0 (map (count_trans all) es) xs))) s no_node
      ≡ with_node (map written.reset_stmt (numbers ks s))
      (of_root s (map (written.count_trans (way_in p)) (map (counted_as p all) es)) [])
      (slice_index_or (map plain_node (resolved_states p 0 xs)) s no_node)
  node_at ks all es [] s lt = absurd (omega (arith, lt))
  node_at ks all es (x ∷ xs) zero lt = root_plain (own ks 0) all es x
  node_at ks all es (x ∷ xs) (suc s) lt =
      let e : 1 + s ≡ suc s = omega arith in
      rest_at ks 1 xs s (omega (arith, lt))
      ∙ ap (λ m. with_node (map written.reset_stmt (numbers ks m)) []
      (slice_index_or (map plain_node (resolved_states p 1 xs)) s no_node)) e

  length-resolved : (s : ℕ) (xs : List Placed) → length (resolved_states p s xs) ≡ length xs
  length-resolved s [] = refl
  length-resolved s (x ∷ xs) = ap suc (length-resolved (suc s) xs)

  pub nodes_sized : (xs : List Placed) → length (map plain_node (resolved_states p 0 xs)) ≡ length xs
  nodes_sized xs = length-map (resolved_states p 0 xs) plain_node ∙ length-resolved 0 xs

  -- all nodes
  pub nodes_are : (ks : List (List Counter)) (all : List Counter) (es : List NameText) (xs : List Placed)
      → map plain_node (resolved_states p 0 (counted_all ks 0 (map (count_trans all) es) xs))
      ≡ map (λ s. with_node (map written.reset_stmt (numbers ks s))
      (of_root s (map (written.count_trans (way_in p)) (map (counted_as p all) es)) [])
      (slice_index_or (map plain_node (resolved_states p 0 xs)) s no_node))
      (range_with_len 0 (length (map plain_node (resolved_states p 0 xs))))
  nodes_are ks all es xs =
      fill_by_all (λ s. with_node (map written.reset_stmt (numbers ks s))
      (of_root s (map (written.count_trans (way_in p)) (map (counted_as p all) es)) [])
      (slice_index_or (map plain_node (resolved_states p 0 xs)) s no_node))
      (map plain_node (resolved_states p 0 (counted_all ks 0 (map (count_trans all) es) xs)))
      (length (map plain_node (resolved_states p 0 xs))) no_node
      (nodes_sized (counted_all ks 0 (map (count_trans all) es) xs) ∙ counted-length ks 0 (map (count_trans all) es) xs
      ∙ sym (nodes_sized xs))
      (λ s lt. node_at ks all es xs s (let e = nodes_sized xs in omega (arith, lt, e)))
