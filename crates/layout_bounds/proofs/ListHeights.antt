-- How high the procedures of lists are.
use Rattle.std.proofs.Common.{ℕ, ◌<◌, ◌≤◌, List, [], ◌∷◌, ◌++◌, Option, Some, None, arith}
use Rattle.std.specs.Prelude.{IfSome}
use Rattle.checked_chart.specs.declared.parts.Dest.{Dest}
use Rattle.checked_chart.specs.declared.parts.Dest.TheVariants.{State, Junction}
use Rattle.checked_chart.specs.Chart.{Trans, life_of}
use Rattle.code_language.specs.Instrs.{Cond, Instr, Begin}
use Rattle.code_language.specs.Measures.{rise, height_by}
use Rattle.chart_code.specs.ListProcedures.{Search, dest_code, condition_code, guarded_code, event_code}
use Rattle.chart_code.specs.ListProcedures.{lead_code, trans_code, list_code, empty_code, junction_code}
use Rattle.chart_code.specs.Numbers.{TransNumbers, condition_of, first_of_parts, other_parts}
use Rattle.chart_code.specs.StateProcedures.{life_test}
use Rattle.layout_bounds.specs.Calls.{FiringCalls, TransCalls, ListCalls}
use Rattle.layout_bounds.specs.Heights.{ListHeights}

module _ (h : ℕ → ℕ) (m : ℕ) where
  -- where a transition leads
  dest_height : (S : Search) (tag : Option ℕ) (d : Dest) (rest : List Instr) → FiringCalls S (λ q. h q < m) d
      → height_by h rest ≤ m → height_by h (dest_code S tag d ++ rest) ≤ m
  unfolding height_by rise
  dest_height S tag (State d) rest calls low = omega (arith, calls, low)
  dest_height S tag (Junction j) rest calls low = omega (arith, low)

  -- its condition action
  condition_height : (alive : Cond) (o : Option ℕ) (body rest : List Instr) → IfSome o (λ q. h q < m)
      → height_by h (body ++ rest) ≤ m → height_by h (condition_code alive o body ++ rest) ≤ m
  unfolding height_by rise
  condition_height alive None body rest calls low = low
  condition_height alive (Some q) body rest calls low = omega (arith, calls, low)

  -- its guard
  guarded_height : (o : Option ℕ) (body rest : List Instr) → IfSome o (λ q. h q < m)
      → height_by h (body ++ rest) ≤ m → height_by h (guarded_code o body ++ rest) ≤ m
  unfolding height_by rise
  guarded_height None body rest calls low = low
  guarded_height (Some q) body rest calls low = omega (arith, calls, low)

  -- its trigger
  event_height : (o : Option ℕ) (body rest : List Instr) → height_by h (body ++ rest) ≤ m
      → height_by h (event_code o body ++ rest) ≤ m
  unfolding height_by rise
  event_height None body rest low = low
  event_height (Some e) body rest low = omega (arith, low)

  -- a transition
  trans_height : (S : Search) (t : Trans) (q : TransNumbers) (rest : List Instr) → TransCalls S (λ q. h q < m) t q
      → height_by h rest ≤ m → height_by h (trans_code S t q ++ rest) ≤ m
  trans_height S t q rest calls low =
      let dest = dest_code S q.action t.dest in
      let lead = lead_code S t q in
      event_height t.event (guarded_code q.guard lead) rest (guarded_height q.guard lead rest calls.guard
      (condition_height (life_test (life_of S.state S.kind)) (condition_of S.kind q) dest rest calls.condition
      (dest_height S q.action t.dest rest calls.firing low)))

  -- a list without its beginning
  list_height : (S : Search) (ts : List Trans) (qs : List TransNumbers) → ListCalls S (λ q. h q < m) ts qs
      → height_by h (list_code S ts qs) ≤ m
  unfolding height_by rise
  list_height S [] qs calls = omega arith
  list_height S (t ∷ ts) qs calls =
      trans_height S t (first_of_parts qs) (list_code S ts (other_parts qs)) calls.0
      (list_height S ts (other_parts qs) calls.1)

  -- a list
  begun_height : (S : Search) (ts : List Trans) (qs : List TransNumbers) → ListCalls S (λ q. h q < m) ts qs
      → height_by h (Begin ∷ list_code S ts qs) ≤ m
  unfolding height_by rise
  begun_height S ts qs calls = omega (arith, list_height S ts qs calls)

  -- an empty junction
  empty_height : (o : Option ℕ) → IfSome o (λ q. h q < m) → height_by h (empty_code o) ≤ m
  unfolding height_by rise
  empty_height None calls = omega arith
  empty_height (Some q) calls = omega (arith, calls)

  -- a junction
  junction_height : (S : Search) (ts : List Trans) (qs : List TransNumbers) → ListCalls S (λ q. h q < m) ts qs
      → IfSome S.end (λ q. h q < m) → height_by h (junction_code S ts qs) ≤ m
  junction_height S [] qs calls end = empty_height S.end end
  junction_height S (t ∷ ts) qs calls end = list_height S (t ∷ ts) qs calls

-- both
pub list_heights : (h : ℕ → ℕ) → ListHeights h
list_heights h = record {
  list = λ S ts qs m. begun_height h m S ts qs;
  junction = λ S ts qs m. junction_height h m S ts qs;
}
