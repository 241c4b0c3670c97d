-- Times in steps of the clock, and counts.
use Rattle.std.specs.Prelude.{ℕ, ◌*◌, ◌^◌, ◌==◌, ◌&&◌, nat_lt, nat_le, Bool, true, false, List, [], ◌∷◌, Option, Some, None}
use Rattle.std.specs.Prelude.{codes, bytes_eq, is_some, if◌then◌else◌}
use Rattle.token_grammar.specs.declared.token.Span.{Span}
use Rattle.chart_tree.specs.declared.name.NameText.{NameText}
use Rattle.chart_tree.specs.declared.name.LitText.{LitText}
use Rattle.chart_tree.specs.declared.expr.BinWord.TheVariants.{Mul}
use Rattle.chart_tree.specs.Trees as core
use Rattle.statechart_tree.specs.declared.declarations.SourceEvent.{SourceEvent}
use Rattle.statechart_tree.specs.declared.declarations.Period.{Period}
use Rattle.statechart_tree.specs.declared.declarations.Unit.{Unit}
use Rattle.statechart_tree.specs.declared.declarations.Unit.TheVariants as units
use Rattle.statechart_meaning.specs.Names.{named}
use Rattle.statechart_meaning.specs.Numbers.{number, exact_quotient, whole_of}

-- ---- units

-- how many millionths of a second a unit is
abbrev pub unit_size : Unit → ℕ
unit_size units.Usec = 1
unit_size units.Msec = 1000
unit_size units.Sec = 1000000
unit_size units.Min = 60000000
unit_size units.Hour = 3600000000

-- the unit of the word
abbrev pub unit_named : List ℕ → Option Unit
unit_named name =
    if bytes_eq name (codes "usec") then Some units.Usec
    else (if bytes_eq name (codes "msec") then Some units.Msec
    else (if bytes_eq name (codes "sec") then Some units.Sec
    else (if bytes_eq name (codes "min") then Some units.Min
    else (if bytes_eq name (codes "hour") then Some units.Hour else None))))

-- ---- the clock

-- whether an event of the name is declared
abbrev pub is_event : List SourceEvent → List ℕ → Bool
is_event [] name = false
is_event (e ∷ es) name = if bytes_eq e.name.text name then true else is_event es name

-- a clock: the name of its event, and its period
pub record Clock : Type 0 where
  pub name : List ℕ
  pub period : Period

-- the first event that has a period
abbrev pub clock_with : SourceEvent → Option Period → Option Clock → Option Clock
clock_with e None others = others
clock_with e (Some period) others = Some (record { name = e.name.text; period = period })

-- the clock of events
abbrev pub clock_of : List SourceEvent → Option Clock
clock_of [] = None
clock_of (e ∷ es) = clock_with e e.period (clock_of es)

-- a unit, and the clock in whose steps it is counted
pub record Timer : Type 0 where
  pub unit : Unit
  pub clock : Clock

-- both, where both are there
abbrev pub timer_with : Option Unit → Option Clock → Option Timer
timer_with None clock = None
timer_with (Some unit) None = None
timer_with (Some unit) (Some clock) = Some (record { unit = unit; clock = clock })

-- the unit that a name is, with the clock: where no event has the name
abbrev pub timer_of : List SourceEvent → List ℕ → Option Timer
timer_of es name = if is_event es name then None else timer_with (unit_named name) (clock_of es)

-- the event that is counted: the clock's at the place of a unit, else the event itself
abbrev pub event_with : Option Timer → NameText → NameText
event_with None name = name
event_with (Some t) name = named t.clock.name name.at

-- the event that is counted where that name stands
abbrev pub counted_event : List SourceEvent → NameText → NameText
counted_event es name = event_with (timer_of es name.text) name

-- ---- steps

-- numbers with a unit have at most 12 digits behind the point, and at most 12 from the first on that isn't 0
abbrev pub few_digits : ℕ
few_digits = 12

-- whether a number has few digits
abbrev pub is_short : ℕ → ℕ → Bool
is_short units places = nat_lt units (10 ^ few_digits) && nat_le places few_digits

-- so many units, in steps of the clock: units / 10^places * unit, divided by the period
abbrev pub steps_in : Timer → ℕ → ℕ → Option ℕ
steps_in t count places =
    let period = t.clock.period in
    if is_short count places && is_short period.lit.units period.lit.places
    then exact_quotient (count * unit_size t.unit * 10 ^ period.lit.places)
    (period.lit.units * unit_size period.unit * 10 ^ places)
    else None

-- ---- counts

-- the number of a literal of a count, in steps of the clock where it has a unit: then it has no `q`
abbrev pub literal_count : Option Timer → LitText → Option ℕ
literal_count None lit = whole_of lit
literal_count (Some t) lit = if is_some lit.q then None else steps_in t lit.units lit.places

-- the place of an expression: that of its first token
abbrev pub place_of : core.Expr → Span
place_of (core.Lit lit at) = at
place_of (core.Flag value at) = at
place_of (core.Name name) = name.at
place_of (core.Active path at) = at
place_of (core.Unary word e at) = at
place_of (core.Binary word l r at) = place_of l

-- an expression times the steps of one unit, where these are whole and more than one
abbrev pub times : core.Expr → Option ℕ → core.Expr
times e None = e
times e (Some k) = if k == 1 then e else core.Binary Mul e (core.Lit (number k) (place_of e)) (place_of e)

-- an expression in steps of the clock, where it has a unit
abbrev pub in_steps : Option Timer → core.Expr → core.Expr
in_steps None e = e
in_steps (Some t) e = times e (steps_in t 1 0)

-- a count: the whole literal where there is a number, at its place, and else the expression, in steps of the clock
-- where it has a unit
abbrev pub count_or : Option ℕ → Span → Option Timer → core.Expr → core.Expr
count_or None at t e = in_steps t e
count_or (Some n) at t e = core.Lit (number n) at
