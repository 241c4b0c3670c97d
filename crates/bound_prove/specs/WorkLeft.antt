-- How much the finder has still to do.
use Rattle.std.specs.Prelude.{◌+◌, ℕ, zero, suc}
use Rattle.actions.specs.declared.event.Event.{Event}
use Rattle.actions.specs.declared.event.Event.TheVariants.{Start, Tick, Named}
use Rattle.checked_chart.specs.Chart.{Chart}
use Rattle.bound_prove.specs.declared.need.Part.TheVariants as parts
use Rattle.bound_prove.specs.declared.cell.Colour.{Colour}
use Rattle.bound_prove.specs.declared.cell.Colour.TheVariants.{White, Grey, Black}
use Rattle.bound_prove.specs.declared.need.Part.{Part}
use Rattle.bound_prove.specs.Colourings.{Colouring}
use Rattle.bound_prove.specs.Tables.{event_count, part_count}

-- how often a cell is still looked at: a white one may become grey before it is done
abbrev pub looks_left : Colour → ℕ
looks_left White = 2
looks_left Grey = 1
looks_left Black = 0

-- the sum over all numbers below a limit
abbrev pub sum_below : (ℕ → ℕ) → ℕ → ℕ
sum_below f zero = 0
sum_below f (suc n) = f n + sum_below f n

-- the event of a number
abbrev pub event_at : ℕ → Event
event_at zero = Start
event_at (suc zero) = Tick
event_at (suc (suc e)) = Named e

-- the cells of a part under an event
abbrev pub part_left : Chart → Colouring → Event → Part → ℕ
part_left c k e part = sum_below (λ i. looks_left (k e part i)) (part_count c part)

-- all cells under an event
abbrev pub event_left : Chart → Colouring → Event → ℕ
event_left c k e =
    part_left c k e parts.Junction + part_left c k e parts.Exit + part_left c k e parts.Enter
    + part_left c k e parts.Process

-- all cells of the table
unfoldable pub work_left : Chart → Colouring → ℕ
work_left c k = sum_below (λ n. event_left c k (event_at n)) (event_count c)
