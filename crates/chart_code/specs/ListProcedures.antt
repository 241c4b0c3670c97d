-- The instructions of the procedures of a list and of the junctions that are reached from it.
use Rattle.std.specs.Prelude.{ℕ, List, [], ◌∷◌, ◌++◌, length, Option, Some, None}
use Rattle.active_config.specs.Tree.{Tree}
use Rattle.checked_chart.specs.declared.parts.Dest.{Dest}
use Rattle.checked_chart.specs.declared.parts.Dest.TheVariants.{State, Junction}
use Rattle.checked_chart.specs.declared.parts.ListKind.{ListKind}
use Rattle.checked_chart.specs.declared.parts.ListKind.TheVariants.{Outer, Inner, Default}
use Rattle.checked_chart.specs.Chart.{Trans, life_of}
use Rattle.checked_chart.specs.Homes.{home_of}
use Rattle.sos_rules.specs.Parts.{Out}
use Rattle.code_language.specs.Instrs.{Cond, Instr}
use Rattle.code_language.specs.Instrs as instrs
use Rattle.chart_code.specs.Numbers.{Numbers, TransNumbers, ListNumbers, condition_of, first_of_parts}
use Rattle.chart_code.specs.Numbers.{other_parts}
use Rattle.chart_code.specs.StateProcedures.{went_result, require, life_test}

-- what a list leads to: the procedure of a firing with a destination, and that of an empty junction, if there is one
pub record Context : Type 0 where
  pub fire : ℕ → ℕ
  pub end : Option ℕ

-- an outer or an inner list takes a firing; a default list arrives in its state, and comes to no empty junction
abbrev pub context_of : Numbers → Tree → ℕ → ListKind → Context
context_of N t s Outer = record { fire = λ d. N.take (home_of t s Outer d) d; end = Some N.end_mark }
context_of N t s Inner = record { fire = λ d. N.take s d; end = Some N.end_mark }
context_of N t s Default = record { fire = λ d. N.arrive s d; end = None }

-- what a search returns after a firing: for an outer list a number of its home, else 1
abbrev pub fired_result : Tree → ℕ → ListKind → ℕ → ℕ
fired_result t s Outer d = went_result (Out (home_of t s Outer d))
fired_result t s Inner d = 1
fired_result t s Default d = 1

-- what the procedures of one list and of its junctions share
pub record Search : Type 0 where
  pub state : ℕ
  pub kind : ListKind
  pub fire : ℕ → ℕ
  pub result : ℕ → ℕ
  pub end : Option ℕ
  pub junction : ℕ → ℕ

-- what they share for a list of a chart
abbrev pub search_of : Numbers → ListNumbers → Tree → ℕ → ListKind → Search
search_of N M t s kind = record {
  state = s;
  kind = kind;
  fire = (context_of N t s kind).fire;
  result = fired_result t s kind;
  end = (context_of N t s kind).end;
  junction = M.junction s kind;
}

-- ---- the instructions of a transition, from its end to its beginning

-- where it leads: a firing, whose result is that of the list, or a visit of a junction; its action is noted
abbrev pub dest_code : Search → Option ℕ → Dest → List Instr
dest_code S tag (State d) = instrs.Call (S.fire d) tag ∷ instrs.Ret (S.result d) ∷ []
dest_code S tag (Junction j) = instrs.Visit (S.junction j) tag ∷ instrs.Pass ∷ []

-- its condition action, after which the life is tested
abbrev pub condition_code : Cond → Option ℕ → List Instr → List Instr
condition_code alive None body = body
condition_code alive (Some q) body = instrs.Call q None ∷ require alive body

-- its guard: where it isn't true, what follows is passed over
abbrev pub guarded_code : Option ℕ → List Instr → List Instr
guarded_code None body = body
guarded_code (Some q) body = instrs.Call q None ∷ instrs.Unless (length body) (instrs.Result 1) ∷ body

-- its trigger: where the event isn't the current one, what follows is passed over
abbrev pub event_code : Option ℕ → List Instr → List Instr
event_code None body = body
event_code (Some e) body = instrs.Unless (length body) (instrs.Current e) ∷ body

-- after the tests
abbrev pub lead_code : Search → Trans → TransNumbers → List Instr
lead_code S t q =
    condition_code (life_test (life_of S.state S.kind)) (condition_of S.kind q) (dest_code S q.action t.dest)

-- a transition
abbrev pub trans_code : Search → Trans → TransNumbers → List Instr
trans_code S t q = event_code t.event (guarded_code q.guard (lead_code S t q))

-- ---- the instructions of a list

-- transitions in order; where none of them found anything the result is 0
abbrev pub list_code : Search → List Trans → List TransNumbers → List Instr
list_code S [] qs = instrs.Ret 0 ∷ []
list_code S (t ∷ ts) qs = trans_code S t (first_of_parts qs) ++ list_code S ts (other_parts qs)

-- at an empty junction the search ends
abbrev pub empty_code : Option ℕ → List Instr
empty_code None = instrs.Ret 0 ∷ []
empty_code (Some e) = instrs.Call e None ∷ instrs.Pass ∷ instrs.Ret 0 ∷ []

-- a junction's list
abbrev pub junction_code : Search → List Trans → List TransNumbers → List Instr
junction_code S [] qs = empty_code S.end
junction_code S (t ∷ ts) qs = list_code S (t ∷ ts) qs
