-- How many instructions the procedures of lists have.
use Rattle.std.proofs.Common.{◌≡◌, ℕ, ◌+◌, ◌*◌, ◌≤◌, List, [], ◌∷◌, length, Option, Some, None, refl, arith}
use Rattle.std.proofs.Common.{length-append}
use Rattle.checked_chart.specs.declared.parts.Dest.{Dest}
use Rattle.checked_chart.specs.declared.parts.Dest.TheVariants.{State, Junction}
use Rattle.checked_chart.specs.Chart.{Trans, life_of}
use Rattle.code_language.specs.Instrs.{Cond, Instr}
use Rattle.chart_code.specs.ListProcedures.{Search, dest_code, condition_code, guarded_code, event_code}
use Rattle.chart_code.specs.ListProcedures.{lead_code, trans_code, list_code, empty_code, junction_code}
use Rattle.chart_code.specs.Numbers.{TransNumbers, condition_of, first_of_parts, other_parts}
use Rattle.chart_code.specs.StateProcedures.{life_test}
use Rattle.layout_bounds.specs.Lengths.{ListLengths}

-- where a transition leads
dest_length : (S : Search) (tag : Option ℕ) (d : Dest) → length (dest_code S tag d) ≡ 2
dest_length S tag (State d) = refl
dest_length S tag (Junction j) = refl

-- its condition action
condition_length : (alive : Cond) (o : Option ℕ) (body : List Instr)
    → length (condition_code alive o body) ≤ length body + 4
condition_length alive None body = omega arith
condition_length alive (Some q) body = omega arith

-- its guard
guarded_length : (o : Option ℕ) (body : List Instr) → length (guarded_code o body) ≤ length body + 2
guarded_length None body = omega arith
guarded_length (Some q) body = omega arith

-- its trigger
event_length : (o : Option ℕ) (body : List Instr) → length (event_code o body) ≤ length body + 1
event_length None body = omega arith
event_length (Some e) body = omega arith

-- a transition
trans_length : (S : Search) (t : Trans) (q : TransNumbers) → length (trans_code S t q) ≤ 9
trans_length S t q =
    let dest = dest_code S q.action t.dest in
    let lead = lead_code S t q in
    omega (
      arith,
      dest_length S q.action t.dest,
      condition_length (life_test (life_of S.state S.kind)) (condition_of S.kind q) dest,
      guarded_length q.guard lead,
      event_length t.event (guarded_code q.guard lead),
    )

-- a list without its beginning
list_length : (S : Search) (ts : List Trans) (qs : List TransNumbers) → length (list_code S ts qs) ≤ 9 * length ts + 1
list_length S [] qs = omega arith
list_length S (t ∷ ts) qs =
    let first = trans_code S t (first_of_parts qs) in
    let rest = list_code S ts (other_parts qs) in
    omega (
      arith,
      length-append first rest,
      trans_length S t (first_of_parts qs),
      list_length S ts (other_parts qs),
    )

-- an empty junction
empty_length : (o : Option ℕ) → length (empty_code o) ≤ 3
empty_length None = omega arith
empty_length (Some q) = omega arith

-- a junction
junction_length : (S : Search) (ts : List Trans) (qs : List TransNumbers)
    → length (junction_code S ts qs) ≤ 9 * length ts + 3
junction_length S [] qs = omega (arith, empty_length S.end)
junction_length S (t ∷ ts) qs = omega (arith, list_length S (t ∷ ts) qs)

-- both
pub list_lengths : ListLengths
list_lengths = record { list = λ S ts qs. omega (arith, list_length S ts qs); junction = junction_length }
