-- What one step of a net does in the code.
use Rattle.std.specs.Prelude.{◌≡◌, ℕ, ◌+◌, ◌<◌, nat_le, Bool, true, false, List, [], ◌++◌, length, codes, decimal}
use Rattle.std.specs.Prelude.{Option, Some, None, Result, Ok, Err, slice_get}
use Rattle.flow_base.specs.declared.fault.Fault.{Fault}
use Rattle.actions.specs.Runs.{CanBeGiven, EventWithInputs}
use Rattle.actions.specs.World.{World}
use Rattle.actions.specs.declared.engine.Engine.{Ghosts as Engine}
use Rattle.actions.specs.declared.engine.Halt.{Halt}
use Rattle.actions.specs.declared.engine.Halt.TheVariants as halts
use Rattle.actions.specs.declared.event.Event.{Event}
use Rattle.trace_text.specs.Trace.{line_with}
use Rattle.event_file.specs.declared.fault.LineFault.{LineFault}
use Rattle.event_file.specs.declared.limits.TheConstants.{FILE_EVENT_LIMIT}
use Rattle.chart_net.specs.Causes.{is_memory}
use Rattle.chart_net.specs.Holding.{Sent}
use Rattle.chart_net.specs.Nets.{Net, NetWorld, RouteState}
use Rattle.chart_net.specs.NetRuns.{NetStep, Gives, Takes, NetMoment, Does}
use Rattle.chart_net.specs.NetTraces.{Why, ByFault, ByFull, ByEmpty, chart_line, moment_word, outcome_line, why_ended}
use Rattle.chart_net.specs.NetTraces.{why_moved}
use Rattle.chart_net.specs.Rings.{Queue}
use Rattle.chart_net.specs.Seats.{names_at}
use Rattle.chart_net.specs.Sending.{sends}
use Rattle.chart_net.specs.declared.driver.NetEnd.{NetEnd}
use Rattle.chart_net.specs.declared.driver.NetEnd.TheVariants as ends
use Rattle.chart_net.specs.declared.net.Net.{Net as Parts}
use Rattle.chart_net.specs.declared.schedule.ScheduleStep.{ScheduleStep}
use Rattle.chart_net.specs.declared.schedule.ScheduleStep.TheVariants as steps
use Rattle.chart_net.specs.declared.seat.Seat.{Seat}

-- the answer for a run that ended so
abbrev pub answer_for : ℕ → Why → NetEnd
answer_for p (ByFault c fault) = ends.Fault p c fault
answer_for p (ByFull r) = ends.Full p r
answer_for p (ByEmpty r) = ends.Empty p r

-- the answer where that ended the run, or nothing did
abbrev pub answer_by : ℕ → Option Why → Result (Unit {0}) NetEnd
answer_by p None = Ok tt
answer_by p (Some why) = Err (answer_for p why)

-- the answer after a line was put, where a write failed or not
abbrev pub answer_after : Bool → ℕ → Option Why → Result (Unit {0}) NetEnd
answer_after true p why = Err ends.Write
answer_after false p why = answer_by p why

-- The step did what it does, to a net that stands for the world before it, and its line was put.
pub record StepDone (net : Net) (now : NetWorld) (step : NetStep) (p : ℕ) (stands : NetWorld → Type 0)
    (puts : List ℕ → Type 0) (failed : Bool) (result : Result (Unit {0}) NetEnd) : Type 0 where
  pub next : NetMoment
  pub does : Does net now step next
  pub stands_now : stands next.after
  pub put : puts (outcome_line net p next.after next.outcome)
  pub answer : result ≡ answer_after failed p (why_ended next.outcome)

-- where memory ran out, that holds, and else the other
abbrev pub UnlessMemory : Bool → Type 0 → Type 0 → Type 0
UnlessMemory true wanted done = wanted
UnlessMemory false wanted done = done

-- Where memory ran out nothing was put, and else the step was done.
abbrev pub StepEnds : Net → NetWorld → NetStep → ℕ → (NetWorld → Type 0) → (List ℕ → Type 0) → Bool
    → Result (Unit {0}) NetEnd → Type 0
StepEnds net now step p stands puts failed result =
    UnlessMemory (is_memory result) (puts []) (StepDone net now step p stands puts failed result)

-- What a chart emitted at a move that left that world and fault was sent, and the line of the move was put.
pub record MoveEnds (net : Net) (p c index : ℕ) (event : Event) (w : World) (fault : Option Fault)
    (states : ℕ → RouteState) (rings : List Queue) (puts : List ℕ → Type 0) (failed : Bool)
    (result : Result (Unit {0}) NetEnd) : Type 0 where
  pub full : Option ℕ
  pub sent : Sent (sends net.routes c w fault states) rings full
  pub put : puts (chart_line net p c index event (record { world = w; fault = fault }) full)
  pub answer : result ≡ answer_after failed p (why_moved c fault full)

-- A move whose engine answered so ended so: where it wants memory, nothing was put.
abbrev pub MoveEndsBy : Net → ℕ → ℕ → ℕ → Event → World → Result (Unit {0}) Halt → (ℕ → RouteState) → List Queue
    → (List ℕ → Type 0) → Bool → Result (Unit {0}) NetEnd → Type 0
MoveEndsBy net p c index event w (Ok done) states rings puts failed result =
    MoveEnds net p c index event w None states rings puts failed result
MoveEndsBy net p c index event w (Err (halts.Fault fault)) states rings puts failed result =
    MoveEnds net p c index event w (Some fault) states rings puts failed result
MoveEndsBy net p c index event w (Err halts.Memory) states rings puts failed result =
    (result ≡ Err ends.Memory) × puts []

-- the line of a chart's own trace for a move
abbrev pub own_line : {G : Type 0} → (members : Engine G) → Seat G → Event → Option Fault → Option ℕ → List ℕ
own_line members seat event fault full =
    line_with (members.tree (members.program seat.engine)) (names_at members seat) (members.world seat.engine)
    seat.index event
    (moment_word (names_at members seat) fault full)

-- the line that a chart of a net puts for a move
abbrev pub seat_line : {G : Type 0} → (members : Engine G) → ℕ → Seat G → Event → Option Fault → Option ℕ → List ℕ
seat_line members p seat event fault full =
    decimal p ++ codes " " ++ seat.name ++ codes " " ++ own_line members seat event fault full

-- ---- a line of a schedule

-- the step of a line that was read, with the values that are with its chart
abbrev pub IsStep : {G : Type 0} → (members : Engine G) → Parts G → ScheduleStep → NetStep → Type 0
IsStep {G} members net (steps.Give c event) step =
    (seat : Seat G) × (slice_get net.seats.items c ≡ Some seat)
    × (step ≡ Gives c (record { event = event; inputs = seat.vals.values }))
    × CanBeGiven (names_at members seat) (record { event = event; inputs = seat.vals.values })
IsStep members net (steps.Take r) step = (step ≡ Takes r) × (r < length net.routes.items)

-- What a line says was read.
abbrev pub ReadsStep : {G : Type 0} → (members : Engine G) → Parts G → Result (Option NetStep) LineFault
    → Result (Option ScheduleStep) LineFault → Type 0
ReadsStep members net said (Ok None) = said ≡ Ok None
ReadsStep members net said (Ok (Some read)) = (step : NetStep) × (said ≡ Ok (Some step)) × IsStep members net read step
ReadsStep members net said (Err fault) = said ≡ Err fault

-- What an event line says was read: the values that it gives are with the chart of that number.
abbrev pub ReadsGiven : {G : Type 0} → (members : Engine G) → Parts G → ℕ → Result (Option EventWithInputs) LineFault
    → Result (Option Event) LineFault → Type 0
ReadsGiven members net c said (Ok None) = said ≡ Ok None
ReadsGiven {G} members net c said (Ok (Some event)) =
    (seat : Seat G) × (slice_get net.seats.items c ≡ Some seat)
    × (said ≡ Ok (Some (record { event = event; inputs = seat.vals.values })))
    × CanBeGiven (names_at members seat) (record { event = event; inputs = seat.vals.values })
ReadsGiven members net c said (Err fault) = said ≡ Err fault

-- the answer without the number
abbrev pub without_number : Result ℕ NetEnd → Result (Unit {0}) NetEnd
without_number (Ok p) = Ok tt
without_number (Err end) = Err end

-- the number is that one
abbrev pub IsNext : ℕ → Result ℕ NetEnd → Type 0
IsNext p (Ok next) = next ≡ p
IsNext p (Err end) = Unit {0}

-- a step is done unless it is one too many
abbrev pub StepTried : Bool → Net → NetWorld → NetStep → ℕ → (NetWorld → Type 0) → (List ℕ → Type 0) → Bool
    → Result ℕ NetEnd → Type 0
StepTried true net now step p stands puts failed result = (result ≡ Err ends.TooManyLines) × puts []
StepTried false net now step p stands puts failed result =
    StepEnds net now step (p + 1) stands puts failed (without_number result) × IsNext (p + 1) result

-- A line was read, and what it says was done, where p is the number of the last step.
abbrev pub LineDone : Net → NetWorld → ℕ → ℕ → Result (Option NetStep) LineFault → (NetWorld → Type 0)
    → (List ℕ → Type 0) → Bool → Result ℕ NetEnd → Type 0
LineDone net now number p (Ok None) stands puts failed result = (result ≡ Ok p) × stands now × puts []
LineDone net now number p (Ok (Some step)) stands puts failed result =
    StepTried (nat_le FILE_EVENT_LIMIT p) net now step p stands puts failed result
LineDone net now number p (Err fault) stands puts failed result = (result ≡ Err (ends.Line number fault)) × puts []
