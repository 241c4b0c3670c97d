-- How much work the procedures of lists are.
use Rattle.std.proofs.Common.{◌≡◌, ℕ, ◌+◌, ◌*◌, ◌≤◌, List, [], ◌∷◌, ◌++◌, length, Option, Some, None, refl}
use Rattle.std.proofs.Common.{arith}
use Rattle.std.specs.Prelude.{slice_index, IfSome}
use Rattle.checked_chart.specs.declared.parts.Dest.{Dest}
use Rattle.checked_chart.specs.declared.parts.Dest.TheVariants.{State, Junction}
use Rattle.checked_chart.specs.Chart.{Trans, life_of}
use Rattle.code_language.specs.Instrs.{Cond, Instr, Begin}
use Rattle.code_language.specs.Measures.{work_from, lefts, work_by}
use Rattle.chart_code.specs.ListProcedures.{Search, dest_code, condition_code, guarded_code, event_code}
use Rattle.chart_code.specs.ListProcedures.{lead_code, trans_code, list_code, empty_code, junction_code}
use Rattle.chart_code.specs.Numbers.{TransNumbers, condition_of, first_of_parts, other_parts}
use Rattle.chart_code.specs.StateProcedures.{life_test}
use Rattle.layout_bounds.specs.Calls.{FiringCalls}
use Rattle.layout_bounds.specs.Works.{work_if, tests_work, FiringsWithin, ListWorks}

module _ (w : ℕ → ℕ) where
  -- what is left after instructions that are passed over
  lefts_behind : (body rest : List Instr)
      → slice_index (lefts w (body ++ rest)) (length body) ≡ slice_index (lefts w rest) 0
  unfolding lefts
  lefts_behind [] rest = refl
  lefts_behind (x ∷ body) rest = lefts_behind body rest

  module _ (m n : ℕ) where
    -- where a transition leads
    dest_work : (S : Search) (tag : Option ℕ) (d : Dest) (rest : List Instr) → FiringCalls S (λ q. w q ≤ m) d
        → work_by w rest ≤ n + m → work_by w (dest_code S tag d ++ rest) ≤ n + m + 2
    unfolding work_by lefts work_from
    dest_work S tag (State d) rest calls low = omega (arith, calls)
    dest_work S tag (Junction j) rest calls low = omega (arith, low)

  -- its condition action
  condition_work : (alive : Cond) (o : Option ℕ) (body rest : List Instr)
      → work_by w (condition_code alive o body ++ rest) ≤ work_by w (body ++ rest) + work_if w o + 3
  unfolding work_by lefts work_from
  condition_work alive None body rest = omega arith
  condition_work alive (Some q) body rest = omega arith

  -- its guard
  guarded_work : (o : Option ℕ) (body rest : List Instr) (most : ℕ) → work_by w (body ++ rest) ≤ most
      → work_by w rest ≤ most → work_by w (guarded_code o body ++ rest) ≤ most + work_if w o + 2
  unfolding work_by lefts work_from
  guarded_work None body rest most here behind = omega (arith, here)
  guarded_work (Some q) body rest most here behind =
      omega (arith, here, behind, lefts_behind body rest)

  -- its trigger
  event_work : (o : Option ℕ) (body rest : List Instr) (most : ℕ) → work_by w (body ++ rest) ≤ most
      → work_by w rest ≤ most → work_by w (event_code o body ++ rest) ≤ most + 1
  unfolding work_by lefts work_from
  event_work None body rest most here behind = omega (arith, here)
  event_work (Some e) body rest most here behind =
      omega (arith, here, behind, lefts_behind body rest)

  -- a transition
  trans_work : (m n : ℕ) (S : Search) (t : Trans) (q : TransNumbers) (rest : List Instr)
      → FiringCalls S (λ q. w q ≤ m) t.dest → work_by w rest ≤ n + m
      → work_by w (trans_code S t q ++ rest) ≤ work_if w q.guard + work_if w (condition_of S.kind q) + n + m + 8
  trans_work m n S t q rest calls low =
      let dest = dest_code S q.action t.dest in
      let lead = lead_code S t q in
      let guarded = guarded_code q.guard lead in
      let led = condition_work (life_test (life_of S.state S.kind)) (condition_of S.kind q) dest rest in
      let sent = dest_work m n S q.action t.dest rest calls low in
      let most_led = n + m + 5 + work_if w (condition_of S.kind q) in
      let guards = guarded_work q.guard lead rest most_led (omega (arith, led, sent)) (omega (arith, low)) in
      let events = event_work t.event guarded rest (most_led + work_if w q.guard + 2) (omega (arith, guards))
      (omega (arith, low)) in
      omega (arith, events)

  -- a list without its beginning
  list_work : (m : ℕ) (S : Search) (ts : List Trans) (qs : List TransNumbers) → FiringsWithin S w m ts qs
      → work_by w (list_code S ts qs) ≤ (8 * length ts + 1 + tests_work S w ts qs) + m
  unfolding tests_work work_by lefts work_from
  list_work m S [] qs within = omega arith
  list_work m S (t ∷ ts) qs within =
      omega (
        arith,
        trans_work m (8 * length ts + 1 + tests_work S w ts (other_parts qs)) S t (first_of_parts qs)
            (list_code S ts (other_parts qs)) within.0 (list_work m S ts (other_parts qs) within.1),
      )

  -- a list
  begun_work : (S : Search) (ts : List Trans) (qs : List TransNumbers) (m : ℕ) → FiringsWithin S w m ts qs
      → work_by w (Begin ∷ list_code S ts qs) ≤ 8 * length ts + tests_work S w ts qs + m + 2
  unfolding work_by lefts work_from
  begun_work S ts qs m within = omega (arith, list_work m S ts qs within)

  -- an empty junction
  empty_work : (o : Option ℕ) (m : ℕ) → IfSome o (λ q. w q ≤ m) → work_by w (empty_code o) ≤ m + 3
  unfolding work_by lefts work_from
  empty_work None m end = omega arith
  empty_work (Some q) m end = omega (arith, end)

  -- a junction
  junction_work : (S : Search) (ts : List Trans) (qs : List TransNumbers) (m : ℕ) → FiringsWithin S w m ts qs
      → IfSome S.end (λ q. w q ≤ m)
      → work_by w (junction_code S ts qs) ≤ 8 * length ts + tests_work S w ts qs + m + 3
  unfolding tests_work
  junction_work S [] qs m within end = omega (arith, empty_work S.end m end)
  junction_work S (t ∷ ts) qs m within end = omega (arith, list_work m S (t ∷ ts) qs within)

  -- both
  pub list_works : ListWorks w
  list_works = record { list = begun_work; junction = junction_work }
