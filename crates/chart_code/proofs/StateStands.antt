-- Each procedure of a state stands at its number.
use Rattle.std.proofs.Common.{◌≡◌, ℕ, suc, ◌+◌, ◌-◌, ◌*◌, ◌≤◌, ◌<◌, List, [], ◌∷◌, length, Some, refl, sym}
use Rattle.std.proofs.Common.{ap, subst, arith, ⊎_elim}
use Rattle.std.specs.Prelude.{slice_get}
use Rattle.std.proofs.lemmas.Bool.{cases_lt}
use Rattle.active_config.specs.Tree.{IsTree, state_count}
use Rattle.checked_chart.specs.declared.parts.ListKind.{ListKind}
use Rattle.checked_chart.specs.declared.parts.ListKind.TheVariants.{Outer, Inner, Default}
use Rattle.checked_chart.specs.Chart.{Chart}
use Rattle.chart_code.specs.Numbers.{Numbers}
use Rattle.chart_code.specs.Orders.{span}
use Rattle.chart_code.specs.Ends.{end_of, below_count}
use Rattle.chart_code.specs.Keys.{Key, EndMark, Entry, During, ExitAction, Leave, Exit, Arrive, Defaults, Take, Enter}
use Rattle.chart_code.specs.Keys.{Process, action_keys_of, search_keys, lists_keys, group_keys, layout}
use Rattle.chart_code.specs.Places.{reached_count, group_at, lists_at, list_at, arrive_at, numbers}
use Rattle.chart_code.proofs.Segments.{Holds, holds_at, holds_front, holds_back, holds_get, holds_first, holds_span}
use Rattle.chart_code.proofs.Segments.{span_length}
use Rattle.chart_code.proofs.EndsLemmas.{end_after}
use Rattle.chart_code.proofs.Sizes.{search_length, from_actions, group_enters, group_takes, group_defaults}
use Rattle.chart_code.proofs.Sizes.{group_search, group_arrives}
use Rattle.chart_code.proofs.Regions.{whole, actions_stand, group_stands, lists_stand, process_stands}

-- the key stands at the number
abbrev pub StandsAt : Chart → ℕ → Key → Type 0
StandsAt c p key = slice_get (layout c) p ≡ Some key

module _ (c : Chart) where
  abbrev L : List Key
  L = layout c

  abbrev N : Numbers
  N = numbers c

  -- the end mark
  pub end_mark_stands : StandsAt c N.end_mark EndMark
  unfolding numbers
  end_mark_stands = holds_first L 0 EndMark (from_actions c) (whole c)

  module _ (s : ℕ) (lt : s < state_count c.tree) where
    -- the first of the group, how many states are below, and how many junctions the default list reaches
    abbrev a : ℕ
    a = group_at c s

    abbrev u : ℕ
    u = below_count c.tree s

    abbrev j : ℕ
    j = reached_count c s Default

    -- ---- where the parts of a group stand

    -- leaving and exit
    at_group : Holds L a (Leave s ∷ Exit s ∷ group_arrives c s)
    unfolding group_keys
    at_group = group_stands c s lt

    -- what arrives below the state
    at_arrives : Holds L (a + 2) (group_arrives c s)
    at_arrives =
        holds_at L (a + length (Leave s ∷ Exit s ∷ [])) (a + 2) (group_arrives c s) (omega arith)
        (holds_back L a (Leave s ∷ Exit s ∷ []) (group_arrives c s) at_group)

    -- the default list
    at_search : Holds L (a + 2 + u) (group_search c s)
    at_search =
        holds_at L (a + 2 + length (span (Arrive s) (suc s) u)) (a + 2 + u) (group_search c s)
        (omega (arith, span_length (Arrive s) (suc s) u))
        (holds_back L (a + 2) (span (Arrive s) (suc s) u) (group_search c s) at_arrives)

    -- the defaults, and what arrives at the state itself
    at_defaults : Holds L (a + 3 + u + j) (group_defaults c s)
    at_defaults =
        holds_at L (a + 2 + u + length (search_keys c s Default)) (a + 3 + u + j) (group_defaults c s)
        (omega (arith, search_length c s Default))
        (holds_back L (a + 2 + u) (search_keys c s Default) (group_defaults c s) at_search)

    -- what takes
    at_takes : Holds L (a + 5 + u + j) (group_takes c s)
    at_takes =
        holds_at L (a + 3 + u + j + length (Defaults s ∷ Arrive s s ∷ [])) (a + 5 + u + j) (group_takes c s)
        (omega arith) (holds_back L (a + 3 + u + j) (Defaults s ∷ Arrive s s ∷ []) (group_takes c s) at_defaults)

    -- what enters
    at_enters : Holds L (a + 6 + 2 * u + j) (group_enters c s)
    at_enters =
        holds_at L (a + 5 + u + j + length (span (Take s) s (suc u))) (a + 6 + 2 * u + j) (group_enters c s)
        (omega (arith, span_length (Take s) s (suc u)))
        (holds_back L (a + 5 + u + j) (span (Take s) s (suc u)) (group_enters c s) at_takes)

    -- ---- each procedure

    -- the entry action
    pub entry_stands : StandsAt c (N.entry s) (Entry s)
    unfolding numbers
    entry_stands =
        holds_get L (1 + s * 3) 0 (1 + s * 3) (action_keys_of s) (Entry s) (omega arith) (actions_stand c s lt) refl

    -- the during action
    pub during_stands : StandsAt c (N.during s) (During s)
    unfolding numbers
    during_stands =
        holds_get L (1 + s * 3) 1 (2 + s * 3) (action_keys_of s) (During s) (omega arith) (actions_stand c s lt) refl

    -- the exit action
    pub exit_action_stands : StandsAt c (N.exit_action s) (ExitAction s)
    unfolding numbers
    exit_action_stands =
        holds_get L (1 + s * 3) 2 (3 + s * 3) (action_keys_of s) (ExitAction s) (omega arith)
        (actions_stand c s lt) refl

    -- the children are left
    pub leave_stands : StandsAt c (N.leave s) (Leave s)
    unfolding numbers
    leave_stands = holds_first L a (Leave s) (Exit s ∷ group_arrives c s) at_group

    -- the state is left
    pub exit_stands : StandsAt c (N.exit s) (Exit s)
    unfolding numbers
    exit_stands = holds_get L a 1 (a + 1) (Leave s ∷ Exit s ∷ group_arrives c s) (Exit s) (omega arith) at_group refl

    -- the defaults
    pub defaults_stand : StandsAt c (N.defaults s) (Defaults s)
    unfolding numbers
    defaults_stand = holds_first L (a + 3 + u + j) (Defaults s) (Arrive s s ∷ group_takes c s) at_defaults

    -- the state is processed
    pub processing_stands : StandsAt c (N.process s) (Process s)
    unfolding numbers
    processing_stands = holds_first L _ (Process s) [] (process_stands c s lt)

    -- a list of the state, with the junctions that are reached from it
    pub search_stands : (kind : ListKind) → Holds L (list_at c s kind) (search_keys c s kind)
    unfolding lists_keys
    search_stands Outer =
        holds_front L (lists_at c s) (search_keys c s Outer) (search_keys c s Inner) (lists_stand c s lt)
    search_stands Inner =
        holds_at L (lists_at c s + length (search_keys c s Outer)) (lists_at c s + 1 + reached_count c s Outer)
        (search_keys c s Inner) (omega (arith, search_length c s Outer))
        (holds_back L (lists_at c s) (search_keys c s Outer) (search_keys c s Inner) (lists_stand c s lt))
    search_stands Default = holds_front L (a + 2 + u) (search_keys c s Default) (group_defaults c s) at_search

    -- ---- procedures of a state and one at or below it

    module _ (tree : IsTree c.tree) (d : ℕ) (low : s ≤ d) (high : d < end_of c.tree s) where
      -- how far the second one is after the first one
      near : d - s < suc u
      near = omega (arith, end_after c.tree tree s lt)

      -- a firing with that destination
      pub take_stands : StandsAt c (N.take s d) (Take s d)
      unfolding numbers
      take_stands =
          holds_span L (Take s) s (d - s) d (a + 5 + u + j + (d - s)) (a + 5 + u + j) (omega arith) (suc u) near refl
          (holds_front L (a + 5 + u + j) (span (Take s) s (suc u)) (group_enters c s) at_takes)

      -- entry on the path to it
      pub enter_stands : StandsAt c (N.enter s d) (Enter s d)
      unfolding numbers
      enter_stands =
          holds_span L (Enter s) s (d - s) d (a + 6 + 2 * u + j + (d - s)) (a + 6 + 2 * u + j) (omega arith) (suc u)
          near refl at_enters

      -- arrival at the state itself
      arrive_here : d ≤ s → StandsAt c (N.arrive s d) (Arrive s d)
      unfolding numbers
      arrive_here le =
          let same : s ≡ d = omega arith in
          let z : d - s ≡ 0 = omega arith in
          let n : a + 3 + u + j + 1 ≡ arrive_at c s (d - s) = omega (arith, ap (arrive_at c s) z) in
          subst (λ x. slice_get L (arrive_at c s (d - s)) ≡ Some (Arrive s x)) same
          (holds_get L (a + 3 + u + j) 1 (arrive_at c s (d - s)) (group_defaults c s) (Arrive s s) n at_defaults refl)

      -- arrival below it
      arrive_below : s < d → StandsAt c (N.arrive s d) (Arrive s d)
      unfolding numbers
      arrive_below less =
          let z : d - s ≡ suc (d - suc s) = omega arith in
          let n : a + 2 + (d - suc s) ≡ arrive_at c s (d - s) = sym (ap (arrive_at c s) z) in
          holds_span L (Arrive s) (suc s) (d - suc s) d (arrive_at c s (d - s)) (a + 2) (omega arith) u
          (omega (arith, end_after c.tree tree s lt)) n
          (holds_front L (a + 2) (span (Arrive s) (suc s) u) (group_search c s) at_arrives)

      -- arrival
      pub arrive_stands : StandsAt c (N.arrive s d) (Arrive s d)
      arrive_stands = ⊎_elim arrive_below arrive_here (cases_lt s d)
