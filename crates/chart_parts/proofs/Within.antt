-- The states of the parts of a valid chart are those of its tree, and their numbers are small.
use Rattle.std.proofs.Common.{◌<◌, ◌≤◌, ℕ, zero, suc, ◌+◌, ◌^◌, length, List, [], ◌∷◌, ◌++◌, map}
use Rattle.std.proofs.Common.{Option, Some, None, arith}
use Rattle.std.specs.List.{AllByRecursion}
use Rattle.active_config.specs.Tree.{state_count}
use Rattle.actions.specs.Exprs.{Expr, Stmt}
use Rattle.checked_chart.specs.declared.parts.ListKind.{ListKind}
use Rattle.checked_chart.specs.declared.parts.ListKind.TheVariants.{Outer, Inner, Default}
use Rattle.checked_chart.specs.Chart.{Chart, Trans, list_of, junction, junction_count}
use Rattle.checked_chart.specs.Valid.{IsValid}
use Rattle.chart_code.specs.Ends.{below_count}
use Rattle.chart_code.specs.Orders.{ascending, descending, span}
use Rattle.chart_code.specs.ReachedJunctions.{reached}
use Rattle.chart_code.proofs.EndsLemmas.{end_is, end_after}
use Rattle.chart_code.proofs.ReachedLemmas.{are_reached, list_valid}
use Rattle.chart_parts.specs.Parts.{guard_parts, condition_parts, action_parts, trans_parts, list_parts, block_parts}
use Rattle.chart_parts.specs.Parts.{process_parts, own_parts, state_parts, junction_parts, search_parts, lists_parts}
use Rattle.chart_parts.specs.Parts.{group_parts, parts_of, IsOwner, IsPart}
use Rattle.chart_parts.specs.declared.part.Owner.{Owner}
use Rattle.chart_parts.specs.declared.part.Owner.TheVariants as owners
use Rattle.chart_parts.specs.declared.part.Part.{Part}
use Rattle.chart_parts.specs.declared.part.Part.TheVariants as parts
use Rattle.chart_parts.specs.declared.part.Toward.{Toward}
use Rattle.chart_parts.specs.declared.part.Toward.TheVariants.{Arrive, Take, Enter}
use Rattle.chart_parts.proofs.Turns.{list_short, junction_short}

-- ---- lists

module _ (P : Part → Type 0) where
  -- what all of two lists have
  all_append : (ps qs : List Part) → AllByRecursion P ps → AllByRecursion P qs → AllByRecursion P (ps ++ qs)
  all_append [] qs a b = b
  all_append (p ∷ ps) qs a b = (a.0, all_append ps qs a.1 b)

  -- the parts of each number below n, from 0 up
  all_ascending : (f : ℕ → List Part) (n : ℕ) → ((i : ℕ) → i < n → AllByRecursion P (f i))
      → AllByRecursion P (ascending f n)
  unfolding ascending
  all_ascending f zero each = tt
  all_ascending f (suc n) each =
      all_append (ascending f n) (f n) (all_ascending f n (λ i lt. each i (omega (arith, lt)))) (each n (omega arith))

  -- and down to 0
  all_descending : (f : ℕ → List Part) (n : ℕ) → ((i : ℕ) → i < n → AllByRecursion P (f i))
      → AllByRecursion P (descending f n)
  unfolding descending
  all_descending f zero each = tt
  all_descending f (suc n) each =
      all_append (f n) (descending f n) (each n (omega arith)) (all_descending f n (λ i lt. each i (omega (arith, lt))))

  -- a part for each of n numbers from a on
  all_span : (f : ℕ → Part) (a n e : ℕ) → a + n ≤ e → ((i : ℕ) → i < e → P (f i)) → AllByRecursion P (span f a n)
  unfolding span
  all_span f a zero e le each = tt
  all_span f a (suc n) e le each =
      (each a (omega (arith, le)), all_span f (suc a) n e (omega (arith, le)) each)

  -- a part for each of these numbers
  all_map : (f : ℕ → Part) (n : ℕ) (js : List ℕ) → AllByRecursion (λ j. j < n) js → ((j : ℕ) → j < n → P (f j))
      → AllByRecursion P (map f js)
  all_map f n [] low each = tt
  all_map f n (j ∷ js) low each = (each j low.0, all_map f n js low.1 each)

module _ (c : Chart) where
  -- the states of all these parts are those of the tree
  abbrev pub Within : List Part → Type 0
  Within ps = AllByRecursion (IsPart c.tree) ps

  -- ---- transitions

  -- a guard
  guard_within : (o : Owner) (i : ℕ) (g : Option Expr) → IsOwner c.tree o × (i < 2 ^ 32) → Within (guard_parts o i g)
  guard_within o i None at = tt
  guard_within o i (Some e) at = (at, tt)

  -- a condition action
  condition_within : (o : Owner) (i : ℕ) (ss : List Stmt) → IsOwner c.tree o × (i < 2 ^ 32)
      → Within (condition_parts o i ss)
  condition_within o i [] at = tt
  condition_within o i (s ∷ ss) at = (at, (at, tt))

  -- a transition action
  action_within : (o : Owner) (i : ℕ) (ss : List Stmt) → IsOwner c.tree o × (i < 2 ^ 32) → Within (action_parts o i ss)
  action_within o i [] at = tt
  action_within o i (s ∷ ss) at = (at, tt)

  -- the parts of the transitions of a list
  list_within : (o : Owner) (i : ℕ) (ts : List Trans) → IsOwner c.tree o → i + length ts ≤ 8192
      → Within (list_parts o i ts)
  unfolding list_parts
  list_within o i [] own few = tt
  list_within o i (t ∷ ts) own few =
      let low : i < 2 ^ 32 = omega (arith, few) in
      all_append (IsPart c.tree) (trans_parts o i t) (list_parts o (suc i) ts)
      (all_append (IsPart c.tree) (guard_parts o i t.guard)
      (condition_parts o i t.condition ++ action_parts o i t.action) (guard_within o i t.guard (own, low))
      (all_append (IsPart c.tree) (condition_parts o i t.condition) (action_parts o i t.action)
      (condition_within o i t.condition (own, low)) (action_within o i t.action (own, low))))
      (list_within o (suc i) ts own (omega (arith, few)))

  -- ---- states

  module _ (valid : IsValid c) where
    -- the parts of a list of a state
    own_within : (s : ℕ) (kind : ListKind) → s < state_count c.tree → Within (own_parts c s kind)
    own_within s kind lt =
        list_within (owners.State s kind) 0 (list_of c s kind) lt (omega (arith, list_short c valid s kind))

    -- those of its three lists
    state_within : (s : ℕ) → s < state_count c.tree → Within (state_parts c s)
    unfolding state_parts
    state_within s lt =
        all_append (IsPart c.tree) (own_parts c s Outer) (own_parts c s Inner ++ own_parts c s Default)
        (own_within s Outer lt)
        (all_append (IsPart c.tree) (own_parts c s Inner) (own_parts c s Default) (own_within s Inner lt)
        (own_within s Default lt))

    -- the parts of the transitions of a junction
    junction_within : (j : ℕ) → j < junction_count c → Within (junction_parts c j)
    junction_within j lt =
        let few = valid.limits.junctions in
        list_within (owners.Junction j) 0 (junction c j) (omega (arith, few)) (omega (arith, junction_short c valid j))

    -- a list and what is reached from it
    search_within : (s : ℕ) (kind : ListKind) → s < state_count c.tree → Within (search_parts c s kind)
    unfolding search_parts
    search_within s kind lt =
        let few = valid.limits.junctions in (
          lt,
          all_map (IsPart c.tree) (λ j. parts.Junction s kind j) (junction_count c) (reached c (list_of c s kind))
              (are_reached c valid (list_of c s kind) (list_valid c valid s kind)).within
              (λ j low. (lt, omega (arith, low, few))),
        )

    -- the outer and the inner list
    lists_within : (s : ℕ) → s < state_count c.tree → Within (lists_parts c s)
    unfolding lists_parts
    lists_within s lt =
        all_append (IsPart c.tree) (search_parts c s Outer) (search_parts c s Inner) (search_within s Outer lt)
        (search_within s Inner lt)

    -- the states at or below a state from one on
    way_within : (way : Toward) (s a n : ℕ) → s < state_count c.tree → a + n ≤ suc s + below_count c.tree s
        → Within (span (parts.Way way s) a n)
    way_within way s a n lt le =
        let after = end_after c.tree valid.tree s lt in
        let end = (end_is c.tree valid.tree s lt).within in
        all_span (IsPart c.tree) (parts.Way way s) a n (state_count c.tree) (omega (arith, le, after, end))
        (λ d low. (lt, low))

    -- what a firing in a state takes
    group_within : (s : ℕ) → s < state_count c.tree → Within (group_parts c s)
    unfolding group_parts
    group_within s lt =
        let n = below_count c.tree s in
        let takes = span (parts.Way Take s) s (suc n) in
        let enters = span (parts.Way Enter s) s (suc n) in (
          lt,
          (
            lt,
            all_append (IsPart c.tree) (span (parts.Way Arrive s) (suc s) n)
                (search_parts c s Default ++ (parts.Defaults s ∷ parts.Way Arrive s s ∷ (takes ++ enters)))
                (way_within Arrive s (suc s) n lt (omega arith))
                (all_append (IsPart c.tree) (search_parts c s Default)
                (parts.Defaults s ∷ parts.Way Arrive s s ∷ (takes ++ enters)) (search_within s Default lt) (
                  lt,
                  (
                    (lt, lt),
                    all_append (IsPart c.tree) takes enters (way_within Take s s (suc n) lt (omega arith))
                        (way_within Enter s s (suc n) lt (omega arith)),
                  ),
                )),
          ),
        )

    -- all parts
    pub all_within : Within (parts_of c)
    unfolding parts_of
    all_within =
        let n = state_count c.tree in
        let states = ascending (state_parts c) n in
        let junctions = ascending (junction_parts c) (junction_count c) in
        let groups = descending (group_parts c) n in
        let lists = descending (lists_parts c) n in
        let processes = descending process_parts n in (
          tt,
          all_append (IsPart c.tree) (ascending block_parts n)
              (states ++ (junctions ++ (groups ++ (lists ++ processes))))
              (all_ascending (IsPart c.tree) block_parts n (λ s lt. (lt, (lt, (lt, tt)))))
              (all_append (IsPart c.tree) states (junctions ++ (groups ++ (lists ++ processes)))
              (all_ascending (IsPart c.tree) (state_parts c) n state_within)
              (all_append (IsPart c.tree) junctions (groups ++ (lists ++ processes))
              (all_ascending (IsPart c.tree) (junction_parts c) (junction_count c)
              junction_within)
              (all_append (IsPart c.tree) groups (lists ++ processes)
              (all_descending (IsPart c.tree) (group_parts c) n group_within)
              (all_append (IsPart c.tree) lists processes
              (all_descending (IsPart c.tree) (lists_parts c) n lists_within)
              (all_descending (IsPart c.tree) process_parts n (λ s lt. (lt, tt))))))),
        )
