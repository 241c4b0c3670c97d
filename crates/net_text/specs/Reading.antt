-- Reading a net text line by line: which line can stand where, and the first fault.
use Rattle.std.specs.Prelude.{ℕ, zero, suc, ◌+◌, ◌==◌, nat_lt, Bool, true, false, not, List, [], ◌∷◌, ◌++◌, length}
use Rattle.std.specs.Prelude.{Option, Some, None, option_map, Result, Ok, Err, if◌then◌else◌, codes}
use Rattle.std.specs.Str.{bytes_eq}
use Rattle.net_text.specs.declared.expected.Expected.{Expected}
use Rattle.net_text.specs.declared.expected.Expected.TheVariants as expects
use Rattle.net_text.specs.declared.fault.NetFault.{NetFault}
use Rattle.net_text.specs.declared.fault.NetFault.TheVariants as faults
use Rattle.net_text.specs.declared.limits.TheConstants.{NET_TEXT_LIMIT, CHART_LIMIT, ROUTE_LIMIT}
use Rattle.net_text.specs.declared.net.NetChart.{NetChart}
use Rattle.net_text.specs.declared.net.RouteText.{RouteText}
use Rattle.net_text.specs.Fields.{count_behind, chart_of_line, route_of_line}
use Rattle.code_fields.specs.Lines.{cut_of}
use Rattle.net_text.specs.NetTexts.{NetText, names_of, first_repeat}

-- ---- what was read

-- charts and routes, and the line that is next
pub record Partial : Type 0 where
  pub charts : List NetChart
  pub routes : List RouteText
  pub expected : Expected

-- nothing was read
abbrev pub nothing_read : Partial
nothing_read = record { charts = []; routes = []; expected = expects.Version }

-- the line that is expected where n charts are still to come
abbrev pub chart_next : ℕ → Expected
chart_next zero = expects.RouteCount
chart_next (suc n) = expects.Chart n

-- the line that is expected where n routes are still to come
abbrev pub route_next : ℕ → Expected
route_next zero = expects.End
route_next (suc n) = expects.Route n

-- with n charts to come
abbrev pub with_chart_count : Partial → ℕ → Partial
with_chart_count p n = record p { expected = chart_next n }

-- with n routes to come
abbrev pub with_route_count : Partial → ℕ → Partial
with_route_count p n = record p { expected = route_next n }

-- with one more chart, and more charts to come after it
abbrev pub with_chart : Partial → ℕ → NetChart → Partial
with_chart p more chart = record p { charts = p.charts ++ chart ∷ []; expected = chart_next more }

-- with one more route, and more routes to come after it
abbrev pub with_route : Partial → ℕ → RouteText → Partial
with_route p more route = record p { routes = p.routes ++ route ∷ []; expected = route_next more }

-- ---- the next line

-- what is read with a line of those words, after which that line is expected
abbrev pub with_words : List ℕ → Expected → Partial → List ℕ → Option Partial
with_words words expected p line = if bytes_eq line words then Some (record p { expected = expected }) else None

-- what is read with the line of that number, where this line is expected
abbrev pub next_at : Expected → Partial → ℕ → List ℕ → Option Partial
next_at expects.Version p number line = with_words (codes "flownet 1") expects.ChartCount p line
next_at expects.ChartCount p number line =
    option_map (with_chart_count p) (count_behind (codes "charts ") 1 CHART_LIMIT line)
next_at (expects.Chart more) p number line = option_map (with_chart p more) (chart_of_line line)
next_at expects.RouteCount p number line =
    option_map (with_route_count p) (count_behind (codes "routes ") 0 ROUTE_LIMIT line)
next_at (expects.Route more) p number line =
    option_map (with_route p more) (route_of_line (length p.charts) number line)
next_at expects.End p number line = with_words (codes "end") expects.Nothing p line
next_at expects.Nothing p number line = None

-- what is read with one more line, and nothing where the line can't stand
unfoldable pub next : Partial → ℕ → List ℕ → Option Partial
next p number line = next_at p.expected p number line

-- the line `end` was read
abbrev pub has_ended : Expected → Bool
has_ended expects.Version = false
has_ended expects.ChartCount = false
has_ended (expects.Chart more) = false
has_ended expects.RouteCount = false
has_ended (expects.Route more) = false
has_ended expects.End = false
has_ended expects.Nothing = true

-- why the line of that number can't stand
abbrev pub refusal : Expected → ℕ → NetFault
refusal expected number = if has_ended expected then faults.Trailing number else faults.BadLine number

-- ---- whole texts

-- the net, where all was read
abbrev pub all_read : Partial → NetText
all_read p = record { charts = p.charts; routes = p.routes }

-- the outcome where no whole line is left, and the line that is not whole has that number
abbrev pub at_end : Partial → ℕ → List ℕ → Result NetText NetFault
at_end p number rest =
    if not (has_ended p.expected) then Err faults.Truncated else
    if length rest == 0 then Ok (all_read p) else Err (faults.Trailing number)

-- what go gives for what is read, or the fault where nothing is read
abbrev pub or_refuse : Option Partial → NetFault → (Partial → Result NetText NetFault) → Result NetText NetFault
or_refuse None fault go = Err fault
or_refuse (Some p) fault go = go p

-- the outcome of whole lines, the first of which has that number, and of what stands after them
abbrev pub outcome_from : Partial → ℕ → List (List ℕ) → List ℕ → Result NetText NetFault
outcome_from p number [] rest = at_end p number rest
outcome_from p number (line ∷ lines) rest =
    or_refuse (next p number line) (refusal p.expected number) (λ q. outcome_from q (number + 1) lines rest)

-- the outcome of the lines of a text
abbrev pub outcome_of : List ℕ → Result NetText NetFault
outcome_of text = outcome_from nothing_read 1 (cut_of text).lines (cut_of text).rest

-- a net, unless the chart of that number has an earlier one's name; the first chart stands in line 3
abbrev pub unless_repeated : NetText → Option ℕ → Result NetText NetFault
unless_repeated net None = Ok net
unless_repeated net (Some chart) = Err (faults.NameTwice (chart + 3))

-- a net whose charts have names of their own
abbrev pub with_own_names : Result NetText NetFault → Result NetText NetFault
with_own_names (Ok net) = unless_repeated net (first_repeat [] (names_of net.charts))
with_own_names (Err fault) = Err fault

-- what a text says, or its first fault
abbrev pub net_of_text : List ℕ → Result NetText NetFault
net_of_text text =
    if nat_lt NET_TEXT_LIMIT (length text) then Err faults.TextTooLong else with_own_names (outcome_of text)
