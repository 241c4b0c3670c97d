-- Where there is room for one more of a thing, and where there was.
-- `had_x_room` says what was so where one more x wasn't refused, and `x_room` that one more isn't where that is so.
use Rattle.std.proofs.Common.{◌≡◌, ℕ, ◌<◌, None, arith}
use Rattle.flow_base.specs.declared.chart_limits.TheConstants.{STATE_LIMIT, JUNCTION_LIMIT, TRANSITION_LIMIT}
use Rattle.flow_base.specs.declared.chart_limits.TheConstants.{VARIABLE_LIMIT, EVENT_LIMIT, STATEMENT_LIMIT, ITEM_LIMIT}
use Rattle.chart_grammar.specs.Limits.{Counts, usual, statement_refused, state_refused, transition_refused}
use Rattle.chart_grammar.specs.Limits.{junction_refused, event_refused, variable_refused, after_state}
use Rattle.chart_grammar.specs.Limits.{after_transition, after_junction, after_event, after_variable}
use Rattle.canonical_text.specs.Sizes.{IsWithin}

-- ---- where one more wasn't refused

pub had_statement_room : (before : ℕ) (n : Counts) → statement_refused usual before n ≡ None
    → (before < STATEMENT_LIMIT) × (n.items < ITEM_LIMIT)
had_statement_room before n h = grind arith

had_state_room : (n : Counts) → state_refused usual n ≡ None → (n.states < STATE_LIMIT) × (n.items < ITEM_LIMIT)
had_state_room n h = grind arith

had_transition_room : (n : Counts) → transition_refused usual n ≡ None
    → (n.transitions < TRANSITION_LIMIT) × (n.items < ITEM_LIMIT)
had_transition_room n h = grind arith

had_junction_room : (n : Counts) → junction_refused usual n ≡ None
    → (n.junctions < JUNCTION_LIMIT) × (n.items < ITEM_LIMIT)
had_junction_room n h = grind arith

had_event_room : (n : Counts) → event_refused usual n ≡ None → (n.events < EVENT_LIMIT) × (n.items < ITEM_LIMIT)
had_event_room n h = grind arith

had_variable_room : (n : Counts) → variable_refused usual n ≡ None
    → (n.variables < VARIABLE_LIMIT) × (n.items < ITEM_LIMIT)
had_variable_room n h = grind arith

-- so one more of it is within the limits
pub state_within : (n : Counts) → state_refused usual n ≡ None → IsWithin n → IsWithin (after_state n)
state_within n h w = let room = had_state_room n h in omega arith

pub transition_within : (n : Counts) → transition_refused usual n ≡ None → IsWithin n → IsWithin (after_transition n)
transition_within n h w = let room = had_transition_room n h in omega arith

pub junction_within : (n : Counts) → junction_refused usual n ≡ None → IsWithin n → IsWithin (after_junction n)
junction_within n h w = let room = had_junction_room n h in omega arith

pub event_within : (n : Counts) → event_refused usual n ≡ None → IsWithin n → IsWithin (after_event n)
event_within n h w = let room = had_event_room n h in omega arith

pub variable_within : (n : Counts) → variable_refused usual n ≡ None → IsWithin n → IsWithin (after_variable n)
variable_within n h w = let room = had_variable_room n h in omega arith

-- ---- where there is room for one more, it isn't refused

pub statement_room : (before : ℕ) (n : Counts) → before < STATEMENT_LIMIT → n.items < ITEM_LIMIT
    → statement_refused usual before n ≡ None
statement_room before n few room = grind arith

pub state_room : (n : Counts) → IsWithin (after_state n) → state_refused usual n ≡ None
state_room n w = free n (omega arith) (omega arith)
  where
    free : (n : Counts) → n.states < STATE_LIMIT → n.items < ITEM_LIMIT → state_refused usual n ≡ None
    free n few items = grind arith

pub transition_room : (n : Counts) → IsWithin (after_transition n) → transition_refused usual n ≡ None
transition_room n w = free n (omega arith) (omega arith)
  where
    free : (n : Counts) → n.transitions < TRANSITION_LIMIT → n.items < ITEM_LIMIT → transition_refused usual n ≡ None
    free n few items = grind arith

pub junction_room : (n : Counts) → IsWithin (after_junction n) → junction_refused usual n ≡ None
junction_room n w = free n (omega arith) (omega arith)
  where
    free : (n : Counts) → n.junctions < JUNCTION_LIMIT → n.items < ITEM_LIMIT → junction_refused usual n ≡ None
    free n few items = grind arith

pub event_room : (n : Counts) → IsWithin (after_event n) → event_refused usual n ≡ None
event_room n w = free n (omega arith) (omega arith)
  where
    free : (n : Counts) → n.events < EVENT_LIMIT → n.items < ITEM_LIMIT → event_refused usual n ≡ None
    free n few items = grind arith

pub variable_room : (n : Counts) → IsWithin (after_variable n) → variable_refused usual n ≡ None
variable_room n w = free n (omega arith) (omega arith)
  where
    free : (n : Counts) → n.variables < VARIABLE_LIMIT → n.items < ITEM_LIMIT → variable_refused usual n ≡ None
    free n few items = grind arith
