-- The listed junctions are those that are reached.
use Rattle.std.proofs.Common.{◌≡◌, ℕ, zero, suc, ◌+◌, ◌<◌, ◌≤◌, Bool, true, false, List, [], ◌∷◌, length, refl}
use Rattle.std.proofs.Common.{ap, ◌∙◌, subst, arith}
use Rattle.std.specs.Prelude.{slice_index_or, nat_eq, ◌||◌}
use Rattle.std.specs.List.{AllByRecursion}
use Rattle.checked_chart.specs.declared.parts.Dest.{Dest}
use Rattle.checked_chart.specs.declared.parts.Dest.TheVariants.{State, Junction}
use Rattle.checked_chart.specs.declared.parts.ListKind.{ListKind}
use Rattle.checked_chart.specs.declared.parts.ListKind.TheVariants.{Outer, Inner, Default}
use Rattle.checked_chart.specs.Chart.{Chart, Trans, list_of, junction, junction_count}
use Rattle.checked_chart.specs.Reached.{links_of, LeadsTo, Reached, Directly, Through}
use Rattle.checked_chart.specs.Valid.{IsValid, IsDest, AreTrans}
use Rattle.checked_chart.proofs.PartsLemmas.{node_valid, junction_valid}
use Rattle.chart_code.specs.ReachedJunctions.{has, place_of, sum_over, with_junction, junctions_to, reached}
use Rattle.chart_code.specs.ReachedJunctions.{AreReached}
use Rattle.chart_code.proofs.Members.{eq_same, all_has, place_get}
use Rattle.chart_code.proofs.Spreads.{Leads, ReachedFrom, reaches, all_below}

-- ---- what lists lead to

-- all junctions to which a list leads have what each that it leads to has
all_to : (c : Chart) (P : ℕ → Type 0) (ts : List Trans) → ((j : ℕ) → LeadsTo (links_of c) ts j → P j)
    → AllByRecursion P (junctions_to ts)
unfolding junctions_to
all_to c P [] h = tt
all_to c P (t ∷ ts) h = at t.dest refl (all_to c P ts (λ j l. h j (record {
  trans = l.trans;
  within = (suc l.within.0, omega (arith, l.within.1), l.within.2);
  leads = l.leads;
})))
  where
    at : (d : Dest) → t.dest ≡ d → AllByRecursion P (junctions_to ts)
        → AllByRecursion P (with_junction d (junctions_to ts))
    at (State d) e rest = rest
    at (Junction j) e rest = (h j (record { trans = t; within = (0, omega arith, refl); leads = e }), rest)

-- a junction to which the transition at a place leads is among them
has_to : (ts : List Trans) (k : ℕ) (t : Trans) (j : ℕ) → k < length ts → slice_index_or ts k t ≡ t
    → t.dest ≡ Junction j → has (junctions_to ts) j ≡ true
unfolding junctions_to has
has_to [] k t j lt e d = absurd (omega arith)
has_to (x ∷ ts) zero t j lt e d =
    let q : x.dest ≡ Junction j = ap (λ (y : Trans). y.dest) e ∙ d in
    ap (λ y. has (with_junction y (junctions_to ts)) j) q ∙ ap (λ b. b || has (junctions_to ts) j) (eq_same j)
has_to (x ∷ ts) (suc k) t j lt e d = at x.dest (has_to ts k t j (omega arith) e d)
  where
    or_true : (a b : Bool) → b ≡ true → (a || b) ≡ true
    or_true true b h = refl
    or_true false b h = h

    at : (y : Dest) → has (junctions_to ts) j ≡ true → has (with_junction y (junctions_to ts)) j ≡ true
    at (State s) h = h
    at (Junction i) h = or_true (nat_eq i j) (has (junctions_to ts) j) h

-- a junction to which a list leads is among them
leads_has : (c : Chart) (ts : List Trans) (j : ℕ) → LeadsTo (links_of c) ts j → has (junctions_to ts) j ≡ true
leads_has c ts j l = has_to ts l.within.0 l.trans j l.within.1 l.within.2 l.leads

-- transitions of a chart lead to junctions of the chart
leads_within : (c : Chart) (ts : List Trans) → AreTrans c ts → (j : ℕ) → LeadsTo (links_of c) ts j
    → j < junction_count c
leads_within c ts are j l = at ts l.within.0 are l.within.1 l.within.2
  where
    at : (ts : List Trans) (k : ℕ) → AreTrans c ts → k < length ts → slice_index_or ts k l.trans ≡ l.trans
        → j < junction_count c
    at [] k are lt e = absurd (omega arith)
    at (x ∷ ts) zero are lt e =
        let q : x.dest ≡ Junction j = ap (λ (y : Trans). y.dest) e ∙ l.leads in subst (IsDest c) q are.0.dest
    at (x ∷ ts) (suc k) are lt e = at ts k are.1 (omega arith) e

-- ---- what is reached

module _ (c : Chart) (valid : IsValid c) (list : List Trans) (are : AreTrans c list) where
  -- what is reached is a junction of the chart
  pub reached_within : (j : ℕ) → Reached (links_of c) list j → j < junction_count c
  reached_within j (Directly _ l) = leads_within c list are j l
  reached_within j (Through k _ r l) = leads_within c (junction c k) (junction_valid c valid k) j l

  -- junctions lead on to what is reached
  leads_on : Leads (λ j. junctions_to (junction c j)) (junction_count c) (Reached (links_of c) list)
  leads_on = record {
    on = λ k r. all_to c (Reached (links_of c) list) (junction c k) (λ j l. Through k j r l);
    below = λ j r. reached_within j r;
  }

  -- what is found from the list
  found : ReachedFrom (λ j. junctions_to (junction c j)) (junction_count c) (Reached (links_of c) list) leads_on
      (junctions_to list) (reached c list)
  unfolding reached
  found = reaches (λ j. junctions_to (junction c j)) (junction_count c) (Reached (links_of c) list) leads_on
      (junctions_to list) (all_to c (Reached (links_of c) list) list (λ j l. Directly j l))

  -- what is reached is found
  pub has_reached : (j : ℕ) → Reached (links_of c) list j → has (reached c list) j ≡ true
  has_reached j (Directly _ l) = found.starts j (leads_has c list j l)
  has_reached j (Through k _ r l) =
      found.closed (place_of (reached c list) k) k j (place_get (reached c list) k (has_reached k r))
      (leads_has c (junction c k) j l)

  -- the listed junctions are those that are reached
  pub are_reached : AreReached c list (reached c list)
  are_reached = record {
    exact = λ j. (
      λ h. all_has (Reached (links_of c) list) (reached c list) j found.keeps.each h,
      λ r. has_reached j r,
    );
    once = found.keeps.once;
    within = all_below (λ j. junctions_to (junction c j)) (junction_count c) (Reached (links_of c) list) leads_on
        (reached c list) found.keeps.each;
  }

  -- there are no more of them than transitions on the way to them
  pub reached_few : length (reached c list)
      ≤ length (junctions_to list) + sum_over (λ j. length (junctions_to (junction c j))) (reached c list)
  reached_few = found.few

-- the lists of a state have transitions of the chart
pub list_valid : (c : Chart) → IsValid c → (s : ℕ) (kind : ListKind) → AreTrans c (list_of c s kind)
list_valid c valid s Outer = (node_valid c valid s).outer
list_valid c valid s Inner = (node_valid c valid s).inner
list_valid c valid s Default = (node_valid c valid s).default
