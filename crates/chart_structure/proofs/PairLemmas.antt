-- Every net and every chart has a number of pairs, and one alone.
use Rattle.std.proofs.Common.{◌≡◌, ℕ, zero, suc, ◌+◌, ◌<◌, Bool, true, false, ◌||◌, nat_eq, List, [], ◌∷◌, length, Some}
use Rattle.std.proofs.Common.{refl, ap, ◌∙◌, subst, arith, ⊎_elim}
use Rattle.std.specs.Prelude.{slice_get}
use Rattle.std.proofs.Math.ListN.{get_or-eq_default}
use Rattle.std.proofs.lemmas.Bool.{cases_lt, or_left, or_right}
use Rattle.active_config.specs.Tree.{state_count}
use Rattle.checked_chart.specs.declared.parts.Dest.{Dest}
use Rattle.checked_chart.specs.declared.parts.Dest.TheVariants.{State, Junction}
use Rattle.checked_chart.specs.declared.parts.ListKind.TheVariants.{Outer, Inner, Default}
use Rattle.checked_chart.specs.Chart.{Chart}
use Rattle.checked_chart.specs.Reached.{LeadsTo, Reached, Directly, Through, weight, ArePairs, StatePairs, PairsBelow}
use Rattle.checked_chart.specs.Reached.{ChartPairs}
use Rattle.chart_structure.specs.declared.net.Arrow.{Arrow}
use Rattle.chart_structure.specs.Net.{Net, JunctionNode, no_junction, list_of, junction_count, junction_list}
use Rattle.chart_structure.specs.Reached.{links_of, NetPairs}
use Rattle.chart_structure.specs.Charts.{net_of_chart}
use Rattle.chart_structure.proofs.LeastLemmas.{eq_same, eq_is, Least, least}
use Rattle.chart_structure.proofs.PassLemmas.{below_same}
use Rattle.chart_structure.proofs.ChartLemmas.{pairs_back, pairs_on}
use Rattle.chart_structure.proofs.LinkLemmas.{stands_at}

-- ---- where a list leads

-- whether a destination is the junction
abbrev is_to : Dest → ℕ → Bool
is_to (State s) j = false
is_to (Junction k) j = nat_eq k j

-- whether a transition of the list leads to the junction
abbrev pub leads : List Arrow → ℕ → Bool
leads [] j = false
leads (x ∷ xs) j = is_to x.to j || leads xs j

-- a destination that passes the test
is_junction : (d : Dest) (j : ℕ) → is_to d j ≡ true → d ≡ Junction j
is_junction (State s) j h = absurd (cc h)
is_junction (Junction k) j h = ap Junction (eq_is k j h)

-- a list that passes the test leads there
pub leads_to : (n : Net) (list : List Arrow) (j : ℕ) → leads list j ≡ true → LeadsTo (links_of n) list j
leads_to n [] j h = absurd (cc h)
leads_to n (x ∷ xs) j h = at (is_to x.to j) refl h (leads_to n xs j)
  where
    at : (b : Bool) → is_to x.to j ≡ b → (b || leads xs j) ≡ true → (leads xs j ≡ true → LeadsTo (links_of n) xs j)
        → LeadsTo (links_of n) (x ∷ xs) j
    at true e h rest = record { trans = x; within = (0, omega arith, refl); leads = is_junction x.to j e }
    at false e h rest =
        let r = rest h in
        record {
          trans = r.trans;
          within = (suc r.within.0, omega (arith, r.within.1), r.within.2);
          leads = r.leads;
        }

-- a list leads where one of its transitions does
leads_at : (list : List Arrow) (i j : ℕ) (a : Arrow) → slice_get list i ≡ Some a → a.to ≡ Junction j
    → leads list j ≡ true
leads_at [] i j a e t = absurd cc
leads_at (x ∷ xs) zero j a e t =
    let same : x ≡ a = cc in
    let to : x.to ≡ Junction j = ap (λ (y : Arrow). y.to) same ∙ t in
    or_left (is_to x.to j) (leads xs j) (ap (λ d. is_to d j) to ∙ eq_same j)
leads_at (x ∷ xs) (suc i) j a e t = or_right (is_to x.to j) (leads xs j) (leads_at xs i j a e t)

-- and so passes the test
pub leads_test : (n : Net) (list : List Arrow) (j : ℕ) → LeadsTo (links_of n) list j → leads list j ≡ true
leads_test n list j l = leads_at list l.within.0 j l.trans (stands_at list l.trans l.within) l.leads

module _ (n : Net) where
  -- what leads anywhere is a junction
  from_junction : (k j : ℕ) → leads (junction_list n k) j ≡ true → k < junction_count n
  unfolding junction_list junction_count
  from_junction k j h = ⊎_elim (λ lt. lt)
      (λ le. let e = get_or-eq_default n.junctions no_junction le in
      let none : leads no_junction.list j ≡ true = subst (λ (p : JunctionNode). leads p.list j ≡ true) e h in
      absurd (cc none))
      (cases_lt k (length n.junctions))

  -- ---- what is reached from a list

  -- the set of the junctions that are reached
  pub found : (list : List Arrow)
      → Least (junction_count n) (leads list) (λ k. leads (junction_list n k)) (Reached (links_of n) list)
  found list = least (junction_count n) (leads list) (λ k. leads (junction_list n k)) (Reached (links_of n) list)
      (λ j h. Directly j (leads_to n list j h))
      (λ k j r h. Through k j r (leads_to n (junction_list n k) j h))
      from_junction

  -- has each of them
  pub has_reached : (list : List Arrow) (j : ℕ) → Reached (links_of n) list j → (found list).within j ≡ true
  has_reached list _ (Directly j l) = (found list).begins j (leads_test n list j l)
  has_reached list _ (Through k j r l) =
      (found list).goes_on k j (has_reached list k r) (leads_test n (junction_list n k) j l)

  -- ---- the number of pairs

  -- of a list
  list_pairs : (list : List Arrow) → (count : ℕ) × ArePairs (links_of n) list count
  list_pairs list = (
    length list + weight (found list).within (λ j. length (junction_list n j)) (junction_count n),
    record {
      within = (found list).within;
      exact = λ j. ((found list).sound j, has_reached list j);
      sum = refl;
    },
  )

  -- of the lists of a state
  state_pairs : (s : ℕ) → (count : ℕ) × StatePairs (links_of n) s count
  state_pairs s =
      let outer = list_pairs (list_of n s Outer) in
      let inner = list_pairs (list_of n s Inner) in
      let default = list_pairs (list_of n s Default) in (
        outer.0 + inner.0 + default.0,
        record {
          outer = outer.0;
          inner = inner.0;
          default = default.0;
          of_outer = outer.1;
          of_inner = inner.1;
          of_default = default.1;
          sum = refl;
        },
      )

  -- of the first states
  pairs_below : (s : ℕ) → (count : ℕ) × PairsBelow (links_of n) s count
  pairs_below zero = (0, refl)
  pairs_below (suc s) =
      let own = state_pairs s in
      let below = pairs_below s in
      (below.0 + own.0, (own.0, below.0, own.1, below.1, refl))

  -- of the net, which has no other one
  pub one_number_of_net : (count : ℕ) × NetPairs n count × ((other : ℕ) → NetPairs n other → other ≡ count)
  one_number_of_net =
      let all = pairs_below (state_count n.tree) in
      (all.0, all.1, λ other are. below_same n (state_count n.tree) other all.0 are all.1)

-- the number of pairs of a chart is that of its net
pub one_number_of_chart : (c : Chart)
    → (count : ℕ) × ChartPairs c count × ((other : ℕ) → ChartPairs c other → other ≡ count)
one_number_of_chart c =
    let of_net = one_number_of_net (net_of_chart c) in (
      of_net.0,
      pairs_back c of_net.0 of_net.1,
      λ other are. of_net.2 other (pairs_on c other are),
    )
