-- What the procedures of lists and of junctions call has lower numbers, and what they note and visit is among all.
use Rattle.std.proofs.Common.{◌≡◌, ℕ, suc, ◌-◌, ◌<◌, ◌≤◌, List, [], ◌∷◌, ap, arith}
use Rattle.std.specs.Prelude.{IfSome}
use Rattle.std.proofs.lemmas.Bool.Decides.{nat_tests}
use Rattle.std.proofs.lemmas.Option.{slice_get_within}
use Rattle.active_config.specs.Tree.{state_count}
use Rattle.checked_chart.specs.declared.parts.Dest.{Dest}
use Rattle.checked_chart.specs.declared.parts.Dest.TheVariants.{State, Junction}
use Rattle.checked_chart.specs.declared.parts.ListKind.{ListKind}
use Rattle.checked_chart.specs.declared.parts.ListKind.TheVariants.{Outer, Inner, Default}
use Rattle.checked_chart.specs.Chart.{Chart, Trans, list_of, junction}
use Rattle.checked_chart.specs.Homes.{home_of}
use Rattle.checked_chart.specs.Reached.{links_of, Reached}
use Rattle.checked_chart.specs.Valid.{IsValid}
use Rattle.chart_code.specs.Kinds.{IsDestination}
use Rattle.chart_code.specs.ListProcedures.{Search, context_of, search_of}
use Rattle.chart_code.specs.Numbers.{Numbers, TransNumbers, ListNumbers, other_parts}
use Rattle.chart_code.proofs.Known.{Meaning, DestBy, EachBy, meaning_of}
use Rattle.chart_code.proofs.Validity.{list_by, junction_by}
use Rattle.chart_code.specs.Bodies.{procedures_of}
use Rattle.chart_code.specs.ReachedJunctions.{place_of, reached}
use Rattle.chart_code.specs.Places.{reached_count, groups_start, total, arrive_at, numbers, list_numbers}
use Rattle.chart_code.proofs.Members.{place_get}
use Rattle.chart_code.proofs.ReachedLemmas.{has_reached, reached_within, list_valid}
use Rattle.chart_code.proofs.Whole.{lists_compiled}
use Rattle.layout_bounds.specs.Calls.{EachTrans, FiringCalls, ListCalls, JunctionVisits, ListNames}
use Rattle.layout_bounds.proofs.NumberOrder.{lists_from, list_from, list_end, near, take_low}
use Rattle.layout_bounds.proofs.PartNumbers.{PartsBelow, some_below, condition_below, list_below, junction_below}

module _ (c : Chart) (valid : IsValid c) where
  abbrev N : Numbers
  N = numbers c

  abbrev M : ListNumbers
  M = list_numbers c

  -- the firings of a list have lower numbers than the list
  fire_low : (s : ℕ) (kind : ListKind) (d : ℕ) → IsDestination c.tree s kind d
      → (context_of N c.tree s kind).fire d < N.search s kind
  unfolding numbers
  fire_low s Outer d is = omega (arith, take_low c valid (home_of c.tree s Outer d) d is.path, lists_from c s)
  fire_low s Inner d is = omega (arith, take_low c valid s d is.path, lists_from c s)
  fire_low s Default d is =
      let close = near c valid s d is.path in
      let other : s < d = let le = close.0 in let ne = is.below in grind (arith, nat_tests) in
      let z : d - s ≡ suc (d - suc s) = omega arith in
      omega (arith, close.1, ap (arrive_at c s) z)

  module _ (s : ℕ) (kind : ListKind) (lt : s < state_count c.tree) where
    -- the transitions of the list, and the junctions that it comes to
    abbrev list : List Trans
    list = list_of c s kind

    abbrev Comes : ℕ → Type 0
    Comes = Reached (links_of c) list

    abbrev S : Search
    S = search_of N M c.tree s kind

    abbrev P : Meaning
    P = meaning_of c.tree (procedures_of c) N s kind Comes

    -- a junction's place
    place_within : (j : ℕ) → Comes j → place_of (reached c list) j < reached_count c s kind
    unfolding reached_count
    place_within j r =
        slice_get_within (reached c list) (place_of (reached c list) j) j
        (place_get (reached c list) j (has_reached c valid list (list_valid c valid s kind) j r))

    -- a junction's procedure is among all
    pub junction_there : (j : ℕ) → Comes j → M.junction s kind j < total c
    unfolding list_numbers
    junction_there j r = omega (arith, place_within j r, list_end c s kind lt)

    module _ (p : ℕ) (le : N.search s kind ≤ p) (from : groups_start c ≤ p) where
      -- where a transition leads
      firing_calls : (d : Dest) → DestBy P.dest P.junction d → FiringCalls S (λ q. q < p) d
      firing_calls (State d) h = omega (arith, fire_low s kind d h, le)
      firing_calls (Junction j) h = tt

      -- what transitions call
      calls : (ts : List Trans) (qs : List TransNumbers) → EachBy P kind ts qs
          → EachTrans (λ t q. PartsBelow (groups_start c) q) ts qs → ListCalls S (λ q. q < p) ts qs
      calls [] qs h k = tt
      calls (t ∷ ts) qs h k = (
        record {
          guard = some_below (groups_start c) p _ from k.0.guard;
          condition = some_below (groups_start c) p _ from (condition_below (groups_start c) kind _ k.0);
          firing = firing_calls t.dest h.0.dest;
        },
        calls ts (other_parts qs) h.1 k.1,
      )

    -- where a transition leads
    visits : (d : Dest) → DestBy P.dest P.junction d → JunctionVisits S (λ q. q < total c) d
    visits (State d) h = tt
    visits (Junction j) h = junction_there j h

    -- what transitions name
    names : (ts : List Trans) (qs : List TransNumbers) → EachBy P kind ts qs
        → EachTrans (λ t q. PartsBelow (groups_start c) q) ts qs → ListNames S (λ q. q < total c) ts qs
    names [] qs h k = tt
    names (t ∷ ts) qs h k = (
      record {
        action = some_below (groups_start c) (total c) _ all k.0.action;
        junction = visits t.dest h.0.dest;
      },
      names ts (other_parts qs) h.1 k.1,
    )
      where
        all : groups_start c ≤ total c
        all = omega (arith, list_from c s kind lt, list_end c s kind lt)

    -- ---- the list

    -- what is known of it
    list_facts : EachBy P kind list (M.parts s kind)
    list_facts = list_by c valid (procedures_of c) N M s kind lt ((lists_compiled c valid).by s kind lt)

    -- what it calls
    pub list_calls : ListCalls S (λ q. q < N.search s kind) list (M.parts s kind)
    unfolding numbers
    list_calls =
        calls (N.search s kind) (omega arith) (list_from c s kind lt) list (M.parts s kind) list_facts
        (list_below c s kind lt)

    -- what it names
    pub list_names : ListNames S (λ q. q < total c) list (M.parts s kind)
    list_names = names list (M.parts s kind) list_facts (list_below c s kind lt)

    -- ---- a junction that is reached from it

    module _ (j : ℕ) (r : Comes j) where
      -- what is known of it
      junction_facts : EachBy P kind (junction c j) (M.junction_parts j)
      junction_facts =
          (junction_by c valid (procedures_of c) N M s kind lt ((lists_compiled c valid).by s kind lt) j r).parts

      -- the numbers of its parts
      parts : EachTrans (λ t q. PartsBelow (groups_start c) q) (junction c j) (M.junction_parts j)
      parts = junction_below c j (reached_within c valid list (list_valid c valid s kind) j r)

      -- what it calls
      pub junction_calls : ListCalls S (λ q. q < M.junction s kind j) (junction c j) (M.junction_parts j)
      unfolding numbers list_numbers
      junction_calls =
          calls (M.junction s kind j) (omega arith) (omega (arith, list_from c s kind lt)) (junction c j)
          (M.junction_parts j) junction_facts parts

      -- what it names
      pub junction_names : ListNames S (λ q. q < total c) (junction c j) (M.junction_parts j)
      junction_names = names (junction c j) (M.junction_parts j) junction_facts parts

      -- the end mark stands first
      end_mark_low : N.end_mark < M.junction s kind j
      unfolding numbers list_numbers
      end_mark_low = omega arith

      -- where it ends
      pub junction_ends : IfSome S.end (λ q. q < M.junction s kind j)
      junction_ends = at kind
        where
          at : (k : ListKind) → IfSome (context_of N c.tree s k).end (λ q. q < M.junction s kind j)
          at Outer = end_mark_low
          at Inner = end_mark_low
          at Default = tt
