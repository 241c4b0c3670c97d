-- The bytes of the procedures of lists.
use Rattle.std.proofs.Common.{◌≡◌, ℕ, ◌+◌, ◌*◌, ◌≤◌, List, [], ◌∷◌, length, Option, Some, None, arith}
use Rattle.checked_chart.specs.declared.parts.Dest.{Dest}
use Rattle.checked_chart.specs.declared.parts.Dest.TheVariants.{State, Junction}
use Rattle.checked_chart.specs.declared.parts.ListKind.{ListKind}
use Rattle.checked_chart.specs.declared.parts.ListKind.TheVariants.{Outer, Inner, Default}
use Rattle.checked_chart.specs.Chart.{Trans, life_of}
use Rattle.code_language.specs.Instrs.{Cond, Instr, Begin}
use Rattle.chart_code.specs.ListProcedures.{Search, dest_code, condition_code, guarded_code, event_code}
use Rattle.chart_code.specs.ListProcedures.{lead_code, trans_code, list_code, empty_code, junction_code}
use Rattle.chart_code.specs.Numbers.{TransNumbers, condition_of, first_of_parts, other_parts}
use Rattle.chart_code.specs.StateProcedures.{life_test}
use Rattle.layout_text.specs.Sizes.{cond_limit, lines_limit}
use Rattle.layout_text.proofs.Procedures.{lines_append}

-- the test of a life has no expression
life_limit : (s : ℕ) (kind : ListKind) → cond_limit (life_test (life_of s kind)) ≤ 40
life_limit s Outer = omega arith
life_limit s Inner = omega arith
life_limit s Default = omega arith

-- where a transition leads
dest_lines : (S : Search) (tag : Option ℕ) (d : Dest) → lines_limit (dest_code S tag d) ≡ 80
dest_lines S tag (State d) = omega arith
dest_lines S tag (Junction j) = omega arith

-- its condition action
condition_lines : (alive : Cond) → cond_limit alive ≤ 40 → (o : Option ℕ) (rest : List Instr)
    → lines_limit (condition_code alive o rest) ≤ lines_limit rest + 160
condition_lines alive h None rest = omega arith
condition_lines alive h (Some q) rest = omega (arith, h)

-- its guard
guarded_lines : (o : Option ℕ) (rest : List Instr) → lines_limit (guarded_code o rest) ≤ lines_limit rest + 80
guarded_lines None rest = omega arith
guarded_lines (Some q) rest = omega arith

-- its trigger
event_lines : (o : Option ℕ) (rest : List Instr) → lines_limit (event_code o rest) ≤ lines_limit rest + 40
event_lines None rest = omega arith
event_lines (Some e) rest = omega arith

-- a transition
trans_lines : (S : Search) (t : Trans) (q : TransNumbers) → lines_limit (trans_code S t q) ≤ 360
trans_lines S t q =
    let alive = life_test (life_of S.state S.kind) in
    let dest = dest_code S q.action t.dest in
    let lead = lead_code S t q in
    omega (
      arith,
      dest_lines S q.action t.dest,
      condition_lines alive (life_limit S.state S.kind) (condition_of S.kind q) dest,
      guarded_lines q.guard lead,
      event_lines t.event (guarded_code q.guard lead),
    )

-- a list without its beginning
inner_lines : (S : Search) (ts : List Trans) (qs : List TransNumbers)
    → lines_limit (list_code S ts qs) ≤ 360 * length ts + 40
inner_lines S [] qs = omega arith
inner_lines S (t ∷ ts) qs =
    let first = trans_code S t (first_of_parts qs) in
    let rest = list_code S ts (other_parts qs) in
    omega (
      arith,
      lines_append first rest,
      trans_lines S t (first_of_parts qs),
      inner_lines S ts (other_parts qs),
    )

-- a list
pub list_lines : (S : Search) (ts : List Trans) (qs : List TransNumbers)
    → lines_limit (Begin ∷ list_code S ts qs) ≤ 360 * length ts + 80
list_lines S ts qs = omega (arith, inner_lines S ts qs)

-- an empty junction
empty_lines : (o : Option ℕ) → lines_limit (empty_code o) ≤ 120
empty_lines None = omega arith
empty_lines (Some q) = omega arith

-- a junction
pub junction_lines : (S : Search) (ts : List Trans) (qs : List TransNumbers)
    → lines_limit (junction_code S ts qs) ≤ 360 * length ts + 120
junction_lines S [] qs = omega (arith, empty_lines S.end)
junction_lines S (t ∷ ts) qs = omega (arith, inner_lines S (t ∷ ts) qs)
