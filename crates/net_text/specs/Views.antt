-- What contracts see of the values of the reader.
use Rattle.std.specs.Prelude.{◌≡◌, ◌≢◌, ℕ, List, Bool, true, false, IsTrue, Option, Some, None, Result, Ok, Err}
use Rattle.std.specs.Option.{option_copied}
use Rattle.chart_lexer.specs.Words.{is_name}
use Rattle.net_text.specs.Fields as fields
use Rattle.net_text.specs.NetTexts.{NetText, net_text_of}
use Rattle.net_text.specs.Reading.{Partial}
use Rattle.net_text.specs.Routes as routes
use Rattle.net_text.specs.declared.fault.NetFault.{NetFault}
use Rattle.net_text.specs.declared.fault.NetFault.TheVariants as faults
use Rattle.net_text.specs.declared.lines.ChartParts.{ChartParts}
use Rattle.net_text.specs.declared.lines.EventFront.{EventFront}
use Rattle.net_text.specs.declared.lines.DataNames.{DataNames}
use Rattle.net_text.specs.declared.lines.RouteParts.{RouteParts}
use Rattle.net_text.specs.declared.net.NetChart.{NetChart}
use Rattle.net_text.specs.declared.net.NetText as declared
use Rattle.net_text.specs.declared.net.RouteText.{RouteText}
use Rattle.net_text.specs.declared.partial.Partial.{Partial as PartialRead}
use Rattle.net_text.specs.declared.route.DataNumbers.{DataNumbers}

-- a chart with the bytes of its name and its file
abbrev pub shown_chart : ChartParts → NetChart
shown_chart chart = record { name = chart.name.now; file = chart.file.now }

-- the bytes of the event's name, and of what stands after it
abbrev pub shown_front : EventFront → fields.EventFront
shown_front front = record { chart = front.chart; event = front.event.now; rest = front.rest.now }

-- the bytes of both names
abbrev pub shown_names : DataNames → fields.DataNames
shown_names pair = record { source = option_copied pair.source; target = option_copied pair.target }

-- a route with the bytes of its names
abbrev pub shown_route : RouteParts → RouteText
shown_route route =
    record {
      line = route.line;
      from = route.from;
      emit = route.emit.now;
      to = route.to;
      event = route.event.now;
      cap = route.cap;
      source = option_copied route.source;
      target = option_copied route.target;
    }

-- the numbers of both data
abbrev pub shown_numbers : DataNumbers → routes.DataNumbers
shown_numbers pair = record { source = pair.source; target = pair.target }

-- a name, if there is one
abbrev pub IsNameOrNone : Option (List ℕ) → Type 0
IsNameOrNone None = Unit {0}
IsNameOrNone (Some name) = IsTrue (is_name name)

-- its names are names
pub record HasNames (route : RouteParts) : Type 0 where
  pub emit : IsTrue (is_name route.emit.now)
  pub event : IsTrue (is_name route.event.now)
  pub source : IsNameOrNone (option_copied route.source)
  pub target : IsNameOrNone (option_copied route.target)

-- what was read
abbrev pub partial_of : PartialRead → Partial
partial_of p = record { charts = p.charts.items; routes = p.routes.items; expected = p.expected }

-- whether the line was read, and what is read with it
abbrev pub GoesOn : Option Partial → Bool → Partial → Type 0
GoesOn next true new = next ≡ Some new
GoesOn next false new = next ≡ None

-- what was returned is the outcome, unless memory ran out
abbrev pub Answers : Result declared.NetText NetFault → Result NetText NetFault → Type 0
Answers (Ok net) outcome = outcome ≡ Ok (net_text_of net)
Answers (Err fault) outcome = fault ≢ faults.Memory → outcome ≡ Err fault
