-- The procedures of lists are sound.
use Rattle.std.proofs.Common.{ℕ, ◌<◌, List, [], ◌∷◌, ◌++◌, length, Option, Some, None, arith}
use Rattle.std.proofs.Common.{length-append}
use Rattle.std.specs.Prelude.{IfSome}
use Rattle.actions.specs.World.{Life}
use Rattle.checked_chart.specs.declared.parts.Dest.{Dest}
use Rattle.checked_chart.specs.declared.parts.Dest.TheVariants.{State, Junction}
use Rattle.checked_chart.specs.Chart.{Chart, Trans, life_of}
use Rattle.checked_chart.specs.Valid.{IsValid, IsTrans, AreTrans, HasTrigger}
use Rattle.code_language.specs.Instrs.{Instr}
use Rattle.code_language.specs.Instrs as instrs
use Rattle.code_language.specs.Sound.{IsProc}
use Rattle.code_language.specs.WellFormed.{Known}
use Rattle.chart_code.specs.ListProcedures.{Search, dest_code, condition_code, guarded_code, event_code}
use Rattle.chart_code.specs.ListProcedures.{lead_code, trans_code, list_code, empty_code, junction_code}
use Rattle.chart_code.specs.Numbers.{TransNumbers, condition_of, first_of_parts, other_parts}
use Rattle.chart_code.specs.StateProcedures.{life_test}
use Rattle.layout_bounds.specs.Calls.{FiringCalls, TransCalls, ListCalls, JunctionVisits, TransNames, ListNames}
use Rattle.layout_bounds.specs.Sound.{known, SoundLists}
use Rattle.layout_bounds.proofs.Instructions.{some, ret_alone, ret, pass, begin, unless, call_noting, call, visit}
use Rattle.layout_bounds.proofs.Expressions.{trigger_is}
use Rattle.layout_bounds.proofs.Conditions.{life_is, result_is, require_is}

module _ (c : Chart) (valid : IsValid c) (n p : ℕ) (there : p < n) where
  -- what the code knows
  abbrev K : Known
  K = known c n

  -- fewer instructions than are followed by others
  fewer : (body rest : List Instr) → 0 < length rest → length body < length (body ++ rest)
  fewer body rest lt = omega (arith, length-append body rest, lt)

  -- ---- the parts of a transition, from its end to its beginning, in front of a procedure

  -- where it leads
  dest_is : (S : Search) (tag : Option ℕ) (d : Dest) (rest : List Instr) → FiringCalls S (λ q. q < p) d
      → JunctionVisits S (λ q. q < n) d → IfSome tag (λ q. q < n) → IsProc K p rest
      → IsProc K p (dest_code S tag d ++ rest)
  dest_is S tag (State d) rest calls visits named h = call_noting (S.fire d) tag there calls named (ret (S.result d) h)
  dest_is S tag (Junction j) rest calls visits named h = visit (S.junction j) tag visits named (pass h)

  -- its condition action
  condition_is : (life : Life) (o : Option ℕ) (body rest : List Instr) → IfSome o (λ q. q < p)
      → IsProc K p (body ++ rest) → IsProc K p (condition_code (life_test life) o body ++ rest)
  condition_is life None body rest calls h = h
  condition_is life (Some q) body rest calls h =
      call q there calls (require_is (life_test life) (life_is K life) h)

  -- its guard
  guarded_is : (o : Option ℕ) (body rest : List Instr) → IfSome o (λ q. q < p) → 0 < length rest
      → IsProc K p (body ++ rest) → IsProc K p (guarded_code o body ++ rest)
  guarded_is None body rest calls lt h = h
  guarded_is (Some q) body rest calls lt h =
      call q there calls (unless (length body) (instrs.Result 1) (result_is K 1) (fewer body rest lt) h)

  -- its trigger
  event_is : (o : Option ℕ) (body rest : List Instr) → HasTrigger c o → 0 < length rest
      → IsProc K p (body ++ rest) → IsProc K p (event_code o body ++ rest)
  event_is None body rest is lt h = h
  event_is (Some e) body rest is lt h =
      unless (length body) (instrs.Current e) (trigger_is c n valid.state_names e is) (fewer body rest lt) h

  -- a transition
  trans_is : (S : Search) (t : Trans) (q : TransNumbers) (rest : List Instr) → IsTrans c t
      → TransCalls S (λ q. q < p) t q → TransNames S (λ q. q < n) t q → IsProc K p rest
      → IsProc K p (trans_code S t q ++ rest)
  trans_is S t q rest is calls names h =
      let dest = dest_code S q.action t.dest in
      let lead = lead_code S t q in
      let guarded = guarded_code q.guard lead in
      let led = condition_is (life_of S.state S.kind) (condition_of S.kind q) dest rest calls.condition
      (dest_is S q.action t.dest rest calls.firing names.junction names.action h) in
      event_is t.event guarded rest is.event (some h) (guarded_is q.guard lead rest calls.guard (some h) led)

  -- ---- lists

  -- transitions in order
  list_is : (S : Search) (ts : List Trans) (qs : List TransNumbers) → AreTrans c ts
      → ListCalls S (λ q. q < p) ts qs → ListNames S (λ q. q < n) ts qs → IsProc K p (list_code S ts qs)
  list_is S [] qs are calls names = ret_alone K p 0
  list_is S (t ∷ ts) qs are calls names =
      trans_is S t (first_of_parts qs) (list_code S ts (other_parts qs)) are.0 calls.0 names.0
      (list_is S ts (other_parts qs) are.1 calls.1 names.1)

  -- an empty junction
  empty_is : (o : Option ℕ) → IfSome o (λ q. q < p) → IsProc K p (empty_code o)
  empty_is None calls = ret_alone K p 0
  empty_is (Some q) calls = call q there calls (pass (ret_alone K p 0))

  -- a junction
  junction_is : (S : Search) (ts : List Trans) (qs : List TransNumbers) → AreTrans c ts
      → ListCalls S (λ q. q < p) ts qs → ListNames S (λ q. q < n) ts qs → IfSome S.end (λ q. q < p)
      → IsProc K p (junction_code S ts qs)
  junction_is S [] qs are calls names end = empty_is S.end end
  junction_is S (t ∷ ts) qs are calls names end = list_is S (t ∷ ts) qs are calls names

  -- all of them
  pub sound_lists : SoundLists c n p
  sound_lists = record {
    list = λ S ts qs are calls names. begin (list_is S ts qs are calls names);
    junction = junction_is;
  }
