-- The procedures of lists and junctions keep to the work of their kinds, where those that they call keep to theirs.
use Rattle.std.proofs.Common.{◌≡◌, ℕ, ◌+◌, ◌*◌, ◌<◌, ◌≤◌, Bool, true, List, [], ◌∷◌, length, Option, Some}
use Rattle.std.proofs.Common.{None, ap, arith}
use Rattle.std.specs.Prelude.{IfSome, if◌then◌else◌}
use Rattle.std.proofs.lemmas.List.Sums.{sum_by-cons}
use Rattle.active_config.specs.Tree.{state_count}
use Rattle.actions.specs.Exprs.{Expr, Stmt}
use Rattle.checked_chart.specs.declared.parts.ListKind.{ListKind}
use Rattle.checked_chart.specs.declared.parts.ListKind.TheVariants.{Outer, Inner, Default}
use Rattle.checked_chart.specs.Chart.{Chart, Trans, list_of, junction}
use Rattle.checked_chart.specs.Valid.{IsValid}
use Rattle.code_language.specs.Measures.{work_by}
use Rattle.chart_code.specs.Compiled.{GuardBy, PartBy}
use Rattle.chart_code.specs.Kinds.{IsDestination}
use Rattle.chart_code.specs.ListProcedures.{Search, context_of, search_of}
use Rattle.chart_code.specs.Numbers.{Numbers, TransNumbers, ListNumbers, condition_of, first_of_parts}
use Rattle.chart_code.specs.Numbers.{other_parts}
use Rattle.chart_code.specs.Bodies.{body}
use Rattle.chart_code.specs.Keys.{EndMark, Guard, ConditionOn, ConditionBare, ListOf, JunctionOf}
use Rattle.chart_code.specs.Places.{numbers, list_numbers}
use Rattle.chart_code.specs.ReachedJunctions.{has, reached}
use Rattle.chart_code.proofs.PartStands.{PartsStand, EachStands, list_parts_stand, junction_list_stands}
use Rattle.chart_code.proofs.ReachedLemmas.{reached_within, list_valid}
use Rattle.chart_code.proofs.StateStands.{StandsAt, end_mark_stands}
use Rattle.layout_bounds.specs.Works.{work_if, tests_work, ListWorks}
use Rattle.layout_bounds.specs.WorkBounds.{test_work, tests_of, enters_below, defaults_work, found_work}
use Rattle.layout_bounds.specs.WorkBounds.{work_bound}
use Rattle.layout_bounds.proofs.ListWorks.{list_works}
use Rattle.layout_bounds.proofs.CalledKeys.{fire_key, fire_stands, is_reached, list_fires, junction_fires}
use Rattle.layout_bounds.proofs.WorkShares.{test_is, firing_is}
use Rattle.layout_bounds.proofs.StateWorkBounds.{Keeps}

module _ (c : Chart) (valid : IsValid c) (w : ℕ → ℕ) (keeps : Keeps c w) where
  abbrev N : Numbers
  N = numbers c

  abbrev M : ListNumbers
  M = list_numbers c

  -- how much work each kind is, by what it calls
  kinds : ListWorks w
  kinds = list_works w

  -- ---- guards and condition actions

  -- a guard
  guard_if : (o : Option Expr) (q : Option ℕ) → GuardBy (λ q e. StandsAt c q (Guard e)) o q → work_if w q ≤ 2
  guard_if None None h = omega arith
  guard_if None (Some q) h = absurd h
  guard_if (Some e) None h = omega arith
  guard_if (Some e) (Some q) h = keeps q (Guard e) h

  -- a condition action, where the state has to be active
  condition_on_if : (ss : List Stmt) (q : Option ℕ) → PartBy (λ q ss. StandsAt c q (ConditionOn ss)) ss q
      → work_if w q ≤ 3 * length ss + 1
  condition_on_if [] None h = omega arith
  condition_on_if [] (Some q) h = absurd h
  condition_on_if (s ∷ ss) None h = absurd h
  condition_on_if (s ∷ ss) (Some q) h = keeps q (ConditionOn (s ∷ ss)) h

  -- a condition action, where the state has to be bare
  condition_bare_if : (ss : List Stmt) (q : Option ℕ) → PartBy (λ q ss. StandsAt c q (ConditionBare ss)) ss q
      → work_if w q ≤ 3 * length ss + 1
  condition_bare_if [] None h = omega arith
  condition_bare_if [] (Some q) h = absurd h
  condition_bare_if (s ∷ ss) None h = absurd h
  condition_bare_if (s ∷ ss) (Some q) h = keeps q (ConditionBare (s ∷ ss)) h

  -- for each kind of list
  condition_if : (kind : ListKind) (t : Trans) (q : TransNumbers) → PartsStand c t q
      → work_if w (condition_of kind q) ≤ 3 * length t.condition + 1
  condition_if Outer t q h = condition_on_if t.condition q.condition_on h.condition_on
  condition_if Inner t q h = condition_on_if t.condition q.condition_on h.condition_on
  condition_if Default t q h = condition_bare_if t.condition q.condition_bare h.condition_bare

  -- all tests of a list, with eight instructions for each transition
  tests_within : (S : Search) (ts : List Trans) (qs : List TransNumbers) → EachStands c ts qs
      → 8 * length ts + tests_work S w ts qs ≤ tests_of ts
  unfolding tests_work
  tests_within S [] qs h = omega arith
  tests_within S (t ∷ ts) qs h =
      omega (
        arith,
        guard_if t.guard (first_of_parts qs).guard h.0.guard,
        condition_if S.kind t (first_of_parts qs) h.0,
        tests_within S ts (other_parts qs) h.1,
        sum_by-cons test_work t ts,
        test_is t,
      )

  -- ---- what a list leads to

  -- what a list calls for a destination has no more work than the list may come to
  fire_within : (s : ℕ) (kind : ListKind) (d : ℕ) → IsDestination c.tree s kind d
      → work_bound c (fire_key c.tree s kind d) ≤ found_work c s kind
  fire_within s Outer d to = omega arith
  fire_within s Inner d to = omega arith
  fire_within s Default d to =
      let inside : Bool → ℕ = λ here. if here then defaults_work c s else enters_below c s in
      omega (arith, ap inside to.below)

  -- so each firing is within it
  fires : (s : ℕ) (kind : ListKind) (d : ℕ) → IsDestination c.tree s kind d
      → w ((context_of N c.tree s kind).fire d) ≤ found_work c s kind
  fires s kind d to =
      omega (
        arith,
        keeps ((context_of N c.tree s kind).fire d) (fire_key c.tree s kind d) (fire_stands c valid s kind d to),
        fire_within s kind d to,
      )

  -- so is the end mark
  ends : (s : ℕ) (kind : ListKind) → IfSome (context_of N c.tree s kind).end (λ q. w q ≤ found_work c s kind)
  ends s Outer = omega (arith, keeps N.end_mark EndMark (end_mark_stands c), firing_is c)
  ends s Inner = omega (arith, keeps N.end_mark EndMark (end_mark_stands c), firing_is c)
  ends s Default = tt

  module _ (s : ℕ) (kind : ListKind) (lt : s < state_count c.tree) where
    -- what the procedures of the list share
    abbrev S : Search
    S = search_of N M c.tree s kind

    -- what each firing of the list is within
    abbrev Within : ℕ → Type 0
    Within q = w q ≤ found_work c s kind

    -- a list
    pub list_keeps : work_by w (body c (ListOf s kind)) ≤ work_bound c (ListOf s kind)
    list_keeps =
        let ts = list_of c s kind in
        let qs = M.parts s kind in
        omega (
          arith,
          kinds.list S ts qs (found_work c s kind) (list_fires c valid s kind lt Within (fires s kind)),
          tests_within S ts qs (list_parts_stand c s kind lt),
        )

    -- a junction that is reached from it
    pub junction_keeps : (j : ℕ) → has (reached c (list_of c s kind)) j ≡ true
        → work_by w (body c (JunctionOf s kind j)) ≤ work_bound c (JunctionOf s kind j)
    junction_keeps j h =
        let ts = junction c j in
        let qs = M.junction_parts j in
        let r = is_reached c valid s kind j h in
        let low = reached_within c valid (list_of c s kind) (list_valid c valid s kind) j r in
        omega (
          arith,
          kinds.junction S ts qs (found_work c s kind)
              (junction_fires c valid s kind lt Within (fires s kind) j r) (ends s kind),
          tests_within S ts qs (junction_list_stands c j low),
        )
