-- Limits of a chart text: which token is one too many.
use Rattle.std.specs.Prelude.{◌≡◌, ℕ, ◌+◌, ◌<◌, nat_lt, nat_le, Bool, true, false, Option, Some, None, if◌then◌else◌}
use Rattle.flow_base.specs.declared.chart_limits.TheConstants.{STATE_DEPTH_LIMIT, STATE_LIMIT, JUNCTION_LIMIT}
use Rattle.flow_base.specs.declared.chart_limits.TheConstants.{TRANSITION_LIMIT, VARIABLE_LIMIT, EVENT_LIMIT}
use Rattle.flow_base.specs.declared.chart_limits.TheConstants.{STATEMENT_LIMIT, OPERATOR_LIMIT, ITEM_LIMIT}
use Rattle.token_grammar.specs.declared.fault.TokenFault.{TokenFault}
use Rattle.token_grammar.specs.declared.fault.TokenFault.TheVariants as faults
use Rattle.token_grammar.specs.declared.fault.Thing.{Thing}
use Rattle.token_grammar.specs.declared.fault.Thing.TheVariants as things

-- the rank of a fault: of two faults of one token the one of lower rank is named
abbrev pub rank : TokenFault → ℕ
rank faults.Expected = 0
rank faults.LiteralTooLong = 1
rank faults.LiteralNotBinary = 2
rank faults.NestTooDeep = 3
rank (faults.TooMany things.States) = 4
rank (faults.TooMany things.Junctions) = 5
rank (faults.TooMany things.Transitions) = 6
rank (faults.TooMany things.Variables) = 7
rank (faults.TooMany things.Events) = 8
rank (faults.TooMany things.Statements) = 9
rank (faults.TooMany things.Operators) = 10
rank (faults.TooMany things.Items) = 11

-- how deep states and expressions may be nested, and the rank from which on limits are lifted
pub record Limits : Type 0 where
  pub depth : ℕ
  pub nesting : ℕ
  pub lifted_from : ℕ

-- the limits of the language, none of them lifted. Nested operators are operators of one
-- expression, so their limit is that of operators
abbrev pub usual : Limits
usual = record { depth = STATE_DEPTH_LIMIT; nesting = OPERATOR_LIMIT; lifted_from = 12 }

-- whether the limit of a fault is lifted
abbrev pub is_lifted : Limits → TokenFault → Bool
is_lifted l fault = nat_le l.lifted_from (rank fault)

-- how many of a thing there may be
abbrev pub most : Thing → ℕ
most things.States = STATE_LIMIT
most things.Junctions = JUNCTION_LIMIT
most things.Transitions = TRANSITION_LIMIT
most things.Variables = VARIABLE_LIMIT
most things.Events = EVENT_LIMIT
most things.Statements = STATEMENT_LIMIT
most things.Operators = OPERATOR_LIMIT
most things.Items = ITEM_LIMIT

-- a fault, unless its limit is lifted
abbrev pub unless_lifted : Limits → Option TokenFault → Option TokenFault
unless_lifted l None = None
unless_lifted l (Some fault) = if is_lifted l fault then None else Some fault

-- the fault of one more of a thing of which there are `count`
abbrev pub one_more : Limits → Thing → ℕ → Option TokenFault
one_more l thing count =
    if nat_lt count (most thing) then None else unless_lifted l (Some (faults.TooMany thing))

-- the first of two faults
abbrev pub first_of : Option TokenFault → Option TokenFault → Option TokenFault
first_of None later = later
first_of (Some fault) later = Some fault

-- how many things have begun so far
pub record Counts : Type 0 where
  pub states : ℕ
  pub junctions : ℕ
  pub transitions : ℕ
  pub variables : ℕ
  pub events : ℕ
  pub items : ℕ

-- a value, and how many things have begun up to its end
pub record Counted (X : Type 0) : Type 0 where
  pub value : X
  pub counts : Counts

-- the counts after one more state, which is also one more item
abbrev pub after_state : Counts → Counts
after_state n = record n { states = n.states + 1; items = n.items + 1 }

-- the counts after one more junction, which is also one more item
abbrev pub after_junction : Counts → Counts
after_junction n = record n { junctions = n.junctions + 1; items = n.items + 1 }

-- the counts after one more transition, which is also one more item
abbrev pub after_transition : Counts → Counts
after_transition n = record n { transitions = n.transitions + 1; items = n.items + 1 }

-- the counts after one more datum, which is also one more item
abbrev pub after_variable : Counts → Counts
after_variable n = record n { variables = n.variables + 1; items = n.items + 1 }

-- the counts after one more event, which is also one more item
abbrev pub after_event : Counts → Counts
after_event n = record n { events = n.events + 1; items = n.items + 1 }

-- the fault of one more of a thing where there are `count`, which is one more item too
abbrev pub one_more_item : Limits → Thing → ℕ → Counts → Option TokenFault
one_more_item l thing count n = first_of (one_more l thing count) (one_more l things.Items n.items)

-- the fault of one more state
abbrev pub state_refused : Limits → Counts → Option TokenFault
state_refused l n = one_more_item l things.States n.states n

-- the fault of one more junction
abbrev pub junction_refused : Limits → Counts → Option TokenFault
junction_refused l n = one_more_item l things.Junctions n.junctions n

-- the fault of one more transition
abbrev pub transition_refused : Limits → Counts → Option TokenFault
transition_refused l n = one_more_item l things.Transitions n.transitions n

-- the fault of one more datum
abbrev pub variable_refused : Limits → Counts → Option TokenFault
variable_refused l n = one_more_item l things.Variables n.variables n

-- the fault of one more event
abbrev pub event_refused : Limits → Counts → Option TokenFault
event_refused l n = one_more_item l things.Events n.events n

-- the fault of one more statement in a block that has `before` of them
abbrev pub statement_refused : Limits → ℕ → Counts → Option TokenFault
statement_refused l before n = one_more_item l things.Statements before n

-- ---- lifted limits

-- the faults of rank k and above
abbrev pub lifts_from : ℕ → TokenFault → Bool
lifts_from k fault = nat_le k (rank fault)

-- a bound on nesting is the usual one, or a greater one where it is lifted
abbrev pub LiftedBound : Bool → ℕ → ℕ → Type 0
LiftedBound true most bound = most < bound
LiftedBound false most bound = bound ≡ most

-- the limits of rank k and above are lifted, and the others are the usual ones
pub record LiftedFrom (k : ℕ) (l : Limits) : Type 0 where
  pub from : l.lifted_from ≡ k
  pub depth : LiftedBound (lifts_from k faults.NestTooDeep) usual.depth l.depth
  pub nesting
      : LiftedBound (lifts_from k (faults.TooMany things.Operators)) usual.nesting l.nesting
