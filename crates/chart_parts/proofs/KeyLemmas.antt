-- Each part of a chart has the key of its procedure.
use Rattle.std.proofs.Common.{◌≡◌, ◌∙◌, ℕ, zero, suc, ◌+◌, List, [], ◌∷◌, ◌++◌, length, map, Option, Some, None}
use Rattle.std.proofs.Common.{refl, sym, ap, arith, option_map, option_and_then}
use Rattle.std.specs.Prelude.{slice_get}
use Rattle.std.proofs.lemmas.List.{map-append, length-map}
use Rattle.active_config.specs.Tree.{state_count}
use Rattle.actions.specs.Exprs.{Expr, Stmt}
use Rattle.checked_chart.specs.declared.parts.ListKind.{ListKind}
use Rattle.checked_chart.specs.declared.parts.ListKind.TheVariants.{Outer, Inner, Default}
use Rattle.checked_chart.specs.Chart.{Chart, Trans, list_of, junction_count}
use Rattle.chart_code.specs.Ends.{below_count}
use Rattle.chart_code.specs.Keys as keys
use Rattle.chart_code.specs.Keys.{Key, layout}
use Rattle.chart_code.specs.Orders.{ascending, descending, span}
use Rattle.chart_code.specs.ReachedJunctions.{reached}
use Rattle.chart_parts.specs.PartKeys.{key_of, trans_key, transitions}
use Rattle.chart_parts.specs.Parts.{guard_parts, condition_parts, action_parts, trans_parts, list_parts, block_parts}
use Rattle.chart_parts.specs.Parts.{process_parts, own_parts, state_parts, junction_parts, search_parts, lists_parts}
use Rattle.chart_parts.specs.Parts.{group_parts, parts_of}
use Rattle.chart_parts.specs.declared.part.Owner.{Owner}
use Rattle.chart_parts.specs.declared.part.Owner.TheVariants as owners
use Rattle.chart_parts.specs.declared.part.Part.{Part}
use Rattle.chart_parts.specs.declared.part.Part.TheVariants as parts
use Rattle.chart_parts.specs.declared.part.Toward.TheVariants.{Arrive, Take, Enter}
use Rattle.chart_parts.specs.declared.part.TransPart.TheVariants.{Guard, ConditionOn, ConditionBare, Action}

module _ (c : Chart) where
  -- the parts have these keys, one after the other
  abbrev pub Same : List Part → List Key → Type 0
  Same ps ks = map (key_of c) ps ≡ map (λ k. Some k) ks

  -- parts and then other parts
  pub same_append : (ps qs : List Part) (ks ls : List Key) → Same ps ks → Same qs ls → Same (ps ++ qs) (ks ++ ls)
  same_append ps qs ks ls first second =
      map-append (key_of c) ps qs
      ∙ ap (λ l. l ++ map (key_of c) qs) first ∙ ap (λ l. map (λ k. Some k) ks ++ l) second
      ∙ sym (map-append (λ (k : Key). Some k) ks ls)

  -- a part before others
  pub same_cons : (p : Part) (k : Key) (ps : List Part) (ks : List Key) → key_of c p ≡ Some k → Same ps ks
      → Same (p ∷ ps) (k ∷ ks)
  same_cons p k ps ks first rest = ap (λ x. x ∷ map (key_of c) ps) first ∙ ap (λ l. Some k ∷ l) rest

  -- the parts of each number below n, from 0 up
  pub same_ascending : (f : ℕ → List Part) (g : ℕ → List Key) → ((i : ℕ) → Same (f i) (g i)) → (n : ℕ)
      → Same (ascending f n) (ascending g n)
  unfolding ascending
  same_ascending f g each zero = refl
  same_ascending f g each (suc n) =
      same_append (ascending f n) (f n) (ascending g n) (g n) (same_ascending f g each n) (each n)

  -- and down to 0
  pub same_descending : (f : ℕ → List Part) (g : ℕ → List Key) → ((i : ℕ) → Same (f i) (g i)) → (n : ℕ)
      → Same (descending f n) (descending g n)
  unfolding descending
  same_descending f g each zero = refl
  same_descending f g each (suc n) =
      same_append (f n) (descending f n) (g n) (descending g n) (each n) (same_descending f g each n)

  -- a part for each of n numbers from a on
  pub same_span : (f : ℕ → Part) (g : ℕ → Key) → ((i : ℕ) → key_of c (f i) ≡ Some (g i)) → (a n : ℕ)
      → Same (span f a n) (span g a n)
  unfolding span
  same_span f g each a zero = refl
  same_span f g each a (suc n) =
      same_cons (f a) (g a) (span f (suc a) n) (span g (suc a) n) (each a) (same_span f g each (suc a) n)

  -- a part for each of these numbers
  pub same_map : (f : ℕ → Part) (g : ℕ → Key) → ((i : ℕ) → key_of c (f i) ≡ Some (g i)) → (js : List ℕ)
      → Same (map f js) (map g js)
  same_map f g each [] = refl
  same_map f g each (j ∷ js) = same_cons (f j) (g j) (map f js) (map g js) (each j) (same_map f g each js)

  -- ---- transitions

  module _ (o : Owner) (i : ℕ) (t : Trans) (at : slice_get (transitions c o) i ≡ Some t) where
    -- the guard of the transition at a place
    guard_same : (g : Option Expr) → t.guard ≡ g → Same (guard_parts o i g) (keys.guard_keys g)
    guard_same None e = refl
    guard_same (Some x) e =
        ap (λ s. option_and_then (trans_key Guard) s ∷ []) at ∙ ap (λ g. option_map keys.Guard g ∷ []) e

    -- its condition action
    condition_same : (ss : List Stmt) → t.condition ≡ ss → Same (condition_parts o i ss) (keys.condition_keys ss)
    condition_same [] e = refl
    condition_same (s ∷ ss) e =
        ap (λ x. option_and_then (trans_key ConditionOn) x ∷ option_and_then (trans_key ConditionBare) x ∷ []) at
        ∙ ap (λ l. Some (keys.ConditionOn l) ∷ Some (keys.ConditionBare l) ∷ []) e

    -- its transition action
    action_same : (ss : List Stmt) → t.action ≡ ss → Same (action_parts o i ss) (keys.action_keys ss)
    action_same [] e = refl
    action_same (s ∷ ss) e =
        ap (λ x. option_and_then (trans_key Action) x ∷ []) at ∙ ap (λ l. Some (keys.Action l) ∷ []) e

    -- all of it
    pub trans_same : Same (trans_parts o i t) (keys.trans_keys t)
    trans_same =
        same_append (guard_parts o i t.guard) (condition_parts o i t.condition ++ action_parts o i t.action)
        (keys.guard_keys t.guard) (keys.condition_keys t.condition ++ keys.action_keys t.action)
        (guard_same t.guard refl)
        (same_append (condition_parts o i t.condition) (action_parts o i t.action) (keys.condition_keys t.condition)
        (keys.action_keys t.action) (condition_same t.condition refl) (action_same t.action refl))

  -- transitions of a list, from a place on
  pub list_same : (o : Owner) (i : ℕ) (ts : List Trans)
      → ((k : ℕ) → slice_get (transitions c o) (i + k) ≡ slice_get ts k)
      → Same (list_parts o i ts) (keys.parts_keys ts)
  unfolding list_parts keys.parts_keys
  list_same o i [] each = refl
  list_same o i (t ∷ ts) each =
      let here : i + 0 ≡ i = omega arith in
      same_append (trans_parts o i t) (list_parts o (suc i) ts) (keys.trans_keys t) (keys.parts_keys ts)
      (trans_same o i t (ap (λ k. slice_get (transitions c o) k) (sym here) ∙ each 0))
      (list_same o (suc i) ts (λ k.
      let next : suc i + k ≡ i + suc k = omega arith in
      ap (λ n. slice_get (transitions c o) n) next ∙ each (suc k)))

  -- those of a whole list
  pub whole_list : (o : Owner) → Same (list_parts o 0 (transitions c o)) (keys.parts_keys (transitions c o))
  whole_list o = list_same o 0 (transitions c o) (λ k.
      let same : 0 + k ≡ k = omega arith in ap (λ n. slice_get (transitions c o) n) same)

  -- ---- states

  -- the parts of the lists of a state
  state_same : (s : ℕ) → Same (state_parts c s) (keys.state_parts_keys c s)
  unfolding state_parts keys.state_parts_keys
  state_same s =
      same_append (own_parts c s Outer) (own_parts c s Inner ++ own_parts c s Default)
      (keys.parts_keys (list_of c s Outer))
      (keys.parts_keys (list_of c s Inner) ++ keys.parts_keys (list_of c s Default))
      (whole_list (owners.State s Outer))
      (same_append (own_parts c s Inner) (own_parts c s Default) (keys.parts_keys (list_of c s Inner))
      (keys.parts_keys (list_of c s Default)) (whole_list (owners.State s Inner))
      (whole_list (owners.State s Default)))

  -- a list and what is reached from it
  search_same : (s : ℕ) (kind : ListKind) → Same (search_parts c s kind) (keys.search_keys c s kind)
  unfolding search_parts keys.search_keys
  search_same s kind =
      same_cons (parts.Search s kind) (keys.ListOf s kind)
      (map (λ j. parts.Junction s kind j) (reached c (list_of c s kind)))
      (map (λ j. keys.JunctionOf s kind j) (reached c (list_of c s kind))) refl
      (same_map (λ j. parts.Junction s kind j) (λ j. keys.JunctionOf s kind j) (λ j. refl)
      (reached c (list_of c s kind)))

  -- the outer and the inner list
  lists_same : (s : ℕ) → Same (lists_parts c s) (keys.lists_keys c s)
  unfolding lists_parts keys.lists_keys
  lists_same s =
      same_append (search_parts c s Outer) (search_parts c s Inner) (keys.search_keys c s Outer)
      (keys.search_keys c s Inner) (search_same s Outer) (search_same s Inner)

  -- what a firing in a state takes
  group_same : (s : ℕ) → Same (group_parts c s) (keys.group_keys c s)
  unfolding group_parts keys.group_keys
  group_same s =
      let n = below_count c.tree s in
      let arrivals = span (parts.Way Arrive s) (suc s) n in
      let takes = span (parts.Way Take s) s (suc n) in
      let enters = span (parts.Way Enter s) s (suc n) in
      let rest = parts.Defaults s ∷ parts.Way Arrive s s ∷ (takes ++ enters) in
      let takes' = span (keys.Take s) s (suc n) in
      let enters' = span (keys.Enter s) s (suc n) in
      let rest' = keys.Defaults s ∷ keys.Arrive s s ∷ (takes' ++ enters') in
      let last = same_append takes enters takes' enters'
      (same_span (parts.Way Take s) (keys.Take s) (λ d. refl) s (suc n))
      (same_span (parts.Way Enter s) (keys.Enter s) (λ d. refl) s (suc n)) in
      let after = same_cons (parts.Defaults s) (keys.Defaults s) (parts.Way Arrive s s ∷ (takes ++ enters))
      (keys.Arrive s s ∷ (takes' ++ enters')) refl
      (same_cons (parts.Way Arrive s s) (keys.Arrive s s) (takes ++ enters) (takes' ++ enters') refl last) in
      let tail = same_append arrivals (search_parts c s Default ++ rest) (span (keys.Arrive s) (suc s) n)
      (keys.search_keys c s Default ++ rest')
      (same_span (parts.Way Arrive s) (keys.Arrive s) (λ d. refl) (suc s) n)
      (same_append (search_parts c s Default) rest (keys.search_keys c s Default) rest'
      (search_same s Default) after) in
      same_cons (parts.Leave s) (keys.Leave s) (parts.Exit s ∷ (arrivals ++ (search_parts c s Default ++ rest)))
      (keys.Exit s ∷ (span (keys.Arrive s) (suc s) n ++ (keys.search_keys c s Default ++ rest'))) refl
      (same_cons (parts.Exit s) (keys.Exit s) (arrivals ++ (search_parts c s Default ++ rest))
      (span (keys.Arrive s) (suc s) n ++ (keys.search_keys c s Default ++ rest')) refl tail)

  -- ---- the chart

  -- all parts
  pub all_same : Same (parts_of c) (layout c)
  unfolding parts_of layout
  all_same =
      let n = state_count c.tree in
      let actions = ascending block_parts n in
      let states = ascending (state_parts c) n in
      let junctions = ascending (junction_parts c) (junction_count c) in
      let groups = descending (group_parts c) n in
      let lists = descending (lists_parts c) n in
      let processes = descending process_parts n in
      let actions' = ascending keys.action_keys_of n in
      let states' = ascending (keys.state_parts_keys c) n in
      let junctions' = ascending (keys.junction_parts_keys c) (junction_count c) in
      let groups' = descending (keys.group_keys c) n in
      let lists' = descending (keys.lists_keys c) n in
      let processes' = descending keys.process_keys n in
      let end = same_append lists processes lists' processes'
      (same_descending (lists_parts c) (keys.lists_keys c) lists_same n)
      (same_descending process_parts keys.process_keys (λ s. refl) n) in
      let from_groups = same_append groups (lists ++ processes) groups' (lists' ++ processes')
      (same_descending (group_parts c) (keys.group_keys c) group_same n) end in
      let from_junctions = same_append junctions (groups ++ (lists ++ processes)) junctions'
      (groups' ++ (lists' ++ processes'))
      (same_ascending (junction_parts c) (keys.junction_parts_keys c) (λ j. whole_list (owners.Junction j))
      (junction_count c)) from_groups in
      let from_states = same_append states (junctions ++ (groups ++ (lists ++ processes))) states'
      (junctions' ++ (groups' ++ (lists' ++ processes')))
      (same_ascending (state_parts c) (keys.state_parts_keys c) state_same n) from_junctions in
      same_cons parts.EndMark keys.EndMark (actions ++ (states ++ (junctions ++ (groups ++ (lists ++ processes)))))
      (actions' ++ (states' ++ (junctions' ++ (groups' ++ (lists' ++ processes'))))) refl
      (same_append actions (states ++ (junctions ++ (groups ++ (lists ++ processes)))) actions'
      (states' ++ (junctions' ++ (groups' ++ (lists' ++ processes'))))
      (same_ascending block_parts keys.action_keys_of (λ s. refl) n) from_states)

  -- as many as procedures
  pub as_many : length (parts_of c) ≡ length (layout c)
  as_many = sym (length-map (parts_of c) (key_of c)) ∙ ap length all_same ∙ length-map (layout c) (λ (k : Key). Some k)
