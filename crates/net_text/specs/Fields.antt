-- What the lines of a net text say. Fields are separated by one space.
use Rattle.std.specs.Prelude.{ℕ, nat_lt, nat_le, Bool, ◌&&◌, List, length, Option, Some, None, option_map}
use Rattle.std.specs.Prelude.{option_and_then, if◌then◌else◌, codes}
use Rattle.std.specs.List.{list_all}
use Rattle.std.specs.Str.{bytes_eq}
use Rattle.code_fields.specs.Fields.{kept, number_of, behind, name_of, word_then}
use Rattle.net_text.specs.declared.net.NetChart.{NetChart}
use Rattle.net_text.specs.declared.net.RouteText.{RouteText}
use Rattle.net_text.specs.declared.limits.TheConstants.{CAP_LIMIT, FILE_NAME_LIMIT}

-- ---- numbers

-- a number of that range, by its decimal text
abbrev pub number_within : ℕ → ℕ → List ℕ → Option ℕ
number_within least most text = option_and_then (kept (λ n. nat_le least n && nat_le n most)) (number_of text)

-- the number of one of so many charts
abbrev pub chart_number : ℕ → List ℕ → Option ℕ
chart_number charts text = option_and_then (kept (λ n. nat_lt n charts)) (number_of text)

-- a number of that range after those words
unfoldable pub count_behind : List ℕ → ℕ → ℕ → List ℕ → Option ℕ
count_behind words least most line = option_and_then (number_within least most) (behind words line)

-- ---- charts

-- a byte of 33 to 126
abbrev pub is_file_byte : ℕ → Bool
is_file_byte b = nat_le 33 b && nat_le b 126

-- 1 to 255 such bytes
abbrev pub is_file_name : List ℕ → Bool
is_file_name text = nat_le 1 (length text) && nat_le (length text) FILE_NAME_LIMIT && list_all is_file_byte text

-- a text that is the name of a file
abbrev pub file_of : List ℕ → Option (List ℕ)
file_of text = if is_file_name text then Some text else None

-- a chart, from its file on
abbrev pub chart_with : List ℕ → List ℕ → Option NetChart
chart_with name text = option_map (λ file. record { name = name; file = file }) (file_of text)

-- the chart of a line: `c NAME FILE`
unfoldable pub chart_of_line : List ℕ → Option NetChart
chart_of_line line = option_and_then (word_then name_of chart_with) (behind (codes "c ") line)

-- ---- routes

-- the number of a chart and the name of an event, and what stands after them
pub record EventFront : Type 0 where
  pub chart : ℕ
  pub event : List ℕ
  pub rest : List ℕ

-- from the name of the event on
abbrev pub event_with : ℕ → List ℕ → Option EventFront
event_with chart text =
    word_then name_of (λ event rest. Some (record { chart = chart; event = event; rest = rest })) text

-- what stands at the front of a text that names an event of one of so many charts
abbrev pub event_front : ℕ → List ℕ → Option EventFront
event_front charts text = word_then (chart_number charts) event_with text

-- the names of the data of a route, if it has data
pub record DataNames : Type 0 where
  pub source : Option (List ℕ)
  pub target : Option (List ℕ)

-- two data, from the second name on
abbrev pub data_with : List ℕ → List ℕ → Option DataNames
data_with source text = option_map (λ target. record { source = Some source; target = Some target }) (name_of text)

-- neither datum, or the names of both
unfoldable pub data_names : List ℕ → Option DataNames
data_names text =
    if bytes_eq text (codes "- -") then Some (record { source = None; target = None })
    else word_then name_of data_with text

-- a route, from its data on
abbrev pub route_with_cap : ℕ → EventFront → EventFront → ℕ → List ℕ → Option RouteText
route_with_cap line sent taken cap text =
    option_map
    (λ pair. record {
      line = line;
      from = sent.chart;
      emit = sent.event;
      to = taken.chart;
      event = taken.event;
      cap = cap;
      source = pair.source;
      target = pair.target;
    })
    (data_names text)

-- from the number of items on that it holds at most
abbrev pub route_with_taken : ℕ → EventFront → EventFront → Option RouteText
route_with_taken line sent taken = word_then (number_within 1 CAP_LIMIT) (route_with_cap line sent taken) taken.rest

-- from the chart that takes on
abbrev pub route_with_sent : ℕ → ℕ → EventFront → Option RouteText
route_with_sent charts line sent = option_and_then (route_with_taken line sent) (event_front charts sent.rest)

-- the route of the line of that number, in a net of so many charts: `r FROM EVENT TO EVENT CAP SRC DST`
unfoldable pub route_of_line : ℕ → ℕ → List ℕ → Option RouteText
route_of_line charts line text =
    option_and_then (λ rest. option_and_then (route_with_sent charts line) (event_front charts rest))
    (behind (codes "r ") text)
