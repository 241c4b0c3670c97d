-- The trace of a net's run, and how the run ended.
use Rattle.std.specs.Prelude.{◌≡◌, ℕ, ◌+◌, List, [], ◌∷◌, ◌++◌, length, codes, decimal, Option, Some, None}
use Rattle.std.specs.Prelude.{slice_index_or}
use Rattle.flow_base.specs.declared.fault.Fault.{Fault}
use Rattle.actions.specs.Names.{Names}
use Rattle.actions.specs.Runs.{EventWithInputs, Moment}
use Rattle.actions.specs.declared.event.Event.{Event}
use Rattle.actions.specs.declared.event.Event.TheVariants as events
use Rattle.trace_text.specs.Trace.{full_word, line_with, result_word}
use Rattle.chart_net.specs.Nets.{Net, NetWorld}
use Rattle.chart_net.specs.NetRuns.{NetStep, Starts, Gives, Takes, Outcome, Moved, WasEmpty, NetMoment, NetRuns}

-- the result of a moment of a chart: its fault, or the route that was full, or `ok`
abbrev pub moment_word : Names → Option Fault → Option ℕ → List ℕ
moment_word n (Some fault) full = result_word n (Some fault)
moment_word n None (Some r) = full_word r
moment_word n None None = result_word n None

-- the event of a moment: the start where nothing was given
abbrev pub event_at : Option EventWithInputs → Event
event_at None = events.Start
event_at (Some given) = given.event

-- The line of a moment of a chart: the number of the step, the chart's name, and the line of its own trace, whose
-- index counts the events that it took.
abbrev pub chart_line : Net → ℕ → ℕ → ℕ → Event → Moment → Option ℕ → List ℕ
chart_line net p c index event m full =
    decimal p ++ codes " " ++ slice_index_or net.names c [] ++ codes " "
    ++ line_with (net.trees c) (net.declared c) m.world index event (moment_word (net.declared c) m.fault full)

-- the line of a step that found nothing to take
abbrev pub empty_line : ℕ → ℕ → List ℕ
empty_line p r = decimal p ++ codes " empty " ++ decimal r ++ codes "\n"

-- the line of an outcome, where the net is so after it
abbrev pub outcome_line : Net → ℕ → NetWorld → Outcome → List ℕ
outcome_line net p after (Moved c given m full) = chart_line net p c (length (after.charts c).took) (event_at given) m
    full
outcome_line net p after (WasEmpty r) = empty_line p r

-- the number of a step after that of the last one: the starts all have 0
abbrev pub number_after : ℕ → NetStep → ℕ
number_after p (Starts c) = p
number_after p (Gives c given) = p + 1
number_after p (Takes r) = p + 1

-- the lines of moments, where the last step before them has that number
abbrev pub lines_from : Net → ℕ → List NetMoment → List ℕ
lines_from net p [] = []
lines_from net p (m ∷ moments) =
    outcome_line net (number_after p m.step) m.after m.outcome ++ lines_from net (number_after p m.step) moments

-- The trace of a run.
abbrev pub net_trace : Net → List NetMoment → List ℕ
net_trace net moments = lines_from net 0 moments

-- ---- how a run ended

-- why a run ended before its schedule: a chart's fault, a route that was full, or one that was empty
pub data Why : Type 0 where
  ByFault : ℕ → Fault → Why
  ByFull : ℕ → Why
  ByEmpty : ℕ → Why

-- the number of the step that ended a run, and why
pub record RunEnd : Type 0 where
  pub number : ℕ
  pub why : Why

-- why a moment of a chart ended the run, if it did
abbrev pub why_moved : ℕ → Option Fault → Option ℕ → Option Why
why_moved c (Some fault) full = Some (ByFault c fault)
why_moved c None (Some r) = Some (ByFull r)
why_moved c None None = None

-- why an outcome ended the run, if it did
abbrev pub why_ended : Outcome → Option Why
why_ended (Moved c given m full) = why_moved c m.fault full
why_ended (WasEmpty r) = Some (ByEmpty r)

-- the end of a run at a step, or else a later one
abbrev pub end_or : ℕ → Option Why → Option RunEnd → Option RunEnd
end_or p None later = later
end_or p (Some why) later = Some (record { number = p; why = why })

-- how the run ended, where the last step before these moments has that number
abbrev pub end_from : ℕ → List NetMoment → Option RunEnd
end_from p [] = None
end_from p (m ∷ moments) = end_or (number_after p m.step) (why_ended m.outcome)
    (end_from (number_after p m.step) moments)

-- there is a run over the steps of a schedule with that trace, which ended so
pub record NetRan (net : Net) (schedule : List NetStep) (text : List ℕ) (end : Option RunEnd) : Type 0 where
  pub moments : List NetMoment
  pub runs : NetRuns net schedule moments
  pub traced : text ≡ net_trace net moments
  pub ended : end_from 0 moments ≡ end
