-- Generated cases: the lines of the chart and of the event file of each number.
use Rattle.std.specs.Prelude.{ℕ, zero, suc, ◌+◌, ◌%◌, ◌==◌, nat_lt, pos, ◌-ℤ◌, if◌then◌else◌}
use Rattle.std.specs.Prelude.{List, [], ◌∷◌, ◌++◌, codes, decimal}
use Rattle.std.specs.Fmt.{signed_decimal}
use Rattle.chart_gen.specs.declared.draws.EventDraws.{EventDraws}
use Rattle.chart_gen.specs.declared.draws.RegionDraws.{RegionDraws}
use Rattle.chart_gen.specs.declared.draws.Sizes.{Sizes}
use Rattle.chart_gen.specs.declared.draws.StateDraws.{StateDraws}
use Rattle.chart_gen.specs.Draws.{first_seed, sizes, after_sizes, region_draws, after_region, state_draws, after_states}
use Rattle.chart_gen.specs.Draws.{after_regions, after_chart, event_draws, after_events}

-- lines, each ended by a newline
unfoldable pub text_of : List (List ℕ) → List ℕ
text_of [] = []
text_of (line ∷ lines) = line ++ (10 ∷ text_of lines)

-- the lines of the numbers below a count, in order
unfoldable pub numbered : (ℕ → List ℕ) → ℕ → List (List ℕ)
numbered line zero = []
numbered line (suc i) = numbered line i ++ line i ∷ []

-- ---- a state of a region

-- the entry adds to the datum of the region
abbrev pub entry_line : ℕ → ℕ → List ℕ
entry_line i added =
    codes "entry { n" ++ decimal i ++ codes " = n" ++ decimal i ++ codes " + " ++ decimal added ++ codes "; }"

-- on an event the state adds 1 and goes to the junction
abbrev pub junction_line : ℕ → ℕ → List ℕ
junction_line i event =
    codes "outer e" ++ decimal event ++ codes " { n" ++ decimal i ++ codes " = n" ++ decimal i ++ codes " + 1; } -> @j;"

-- a state sends the local event of the next region; in the last region it sends nothing
abbrev pub send_word : ℕ → ℕ → List ℕ
send_word regions i = if i + 1 == regions then [] else codes " { send l" ++ decimal (i + 1) ++ codes "; }"

-- on an event the state sends and goes to a state
abbrev pub sending_line : ℕ → ℕ → ℕ → ℕ → List ℕ
sending_line regions i event destination =
    codes "outer e" ++ decimal event ++ send_word regions i ++ codes " -> s" ++ decimal destination ++ codes ";"

-- on the local event of the region the state goes to a state, and multiplies by 3 on its way
abbrev pub local_line : ℕ → ℕ → List ℕ
local_line i destination =
    codes "outer l" ++ decimal i ++ codes " / { n" ++ decimal i ++ codes " = n" ++ decimal i ++ codes " * 3; } -> s"
    ++ decimal destination ++ codes ";"

-- state k of region i
abbrev pub state_lines : ℕ → ℕ → ℕ → StateDraws → List (List ℕ)
state_lines regions i k draws =
    (codes "state s" ++ decimal k ++ codes " {")
    ∷ entry_line i draws.added
    ∷ junction_line i draws.event
    ∷ sending_line regions i ((draws.event + 1) % 4) draws.destination
    ∷ local_line i draws.local_destination
    ∷ codes "}"
    ∷ []

-- the first states of region i, in order, each with the draws after those of the one before
unfoldable pub states_lines : Sizes → ℕ → ℕ → ℕ → List (List ℕ)
states_lines sizes i zero seed = []
states_lines sizes i (suc k) seed =
    states_lines sizes i k seed ++ state_lines sizes.regions i k (state_draws sizes.states (after_states k seed))

-- ---- a region

-- the first lines of region i: where it begins, and its two junctions
abbrev pub region_head : ℕ → RegionDraws → List (List ℕ)
region_head i draws =
    (codes "state r" ++ decimal i ++ codes " or {")
    ∷ codes "default -> s0;"
    ∷ (codes "junction j { [x > " ++ decimal draws.over ++ codes "] -> s" ++ decimal draws.destination
    ++ codes "; [x < " ++ decimal draws.under ++ codes "] -> @z; }")
    ∷ codes "junction z { }"
    ∷ []

-- region i: its head, its states and its end
abbrev pub region_lines : Sizes → ℕ → ℕ → List (List ℕ)
region_lines sizes i seed =
    region_head i (region_draws sizes.states seed)
    ++ (states_lines sizes i sizes.states (after_region seed) ++ codes "}" ∷ [])

-- the first regions, in order, each with the draws after those of the one before
unfoldable pub regions_lines : Sizes → ℕ → ℕ → List (List ℕ)
regions_lines sizes zero seed = []
regions_lines sizes (suc i) seed =
    regions_lines sizes i seed ++ region_lines sizes i (after_regions sizes.states i seed)

-- ---- the chart

-- the first line, and the events from outside
abbrev pub chart_head : List (List ℕ)
chart_head =
    codes "chart G and {"
    ∷ codes "event input e0;"
    ∷ codes "event input e1;"
    ∷ codes "event input e2;"
    ∷ codes "event input e3;"
    ∷ []

-- the local event of region i
abbrev pub event_declaration : ℕ → List ℕ
event_declaration i = codes "event local l" ++ decimal i ++ codes ";"

-- the datum of region i
abbrev pub datum_declaration : ℕ → List ℕ
datum_declaration i = codes "local n" ++ decimal i ++ codes " : int32 wrap;"

-- the chart of these sizes, whose regions are drawn from there on
abbrev pub chart_lines : Sizes → ℕ → List (List ℕ)
chart_lines sizes seed =
    chart_head
    ++ (numbered event_declaration sizes.regions
    ++ (codes "input x : int16;"
    ∷ (numbered datum_declaration sizes.regions
    ++ (regions_lines sizes sizes.regions seed
    ++ codes "}" ∷ []))))

-- ---- the event file

-- an event from outside by its number, and a tick for 4
abbrev pub event_word : ℕ → List ℕ
event_word event = if nat_lt event 4 then codes "e" ++ decimal event else codes "tick"

-- an event and the value of x
abbrev pub event_line : EventDraws → List ℕ
event_line draws = event_word draws.event ++ codes " x=" ++ signed_decimal (pos draws.input -ℤ pos 100)

-- the first event lines, in order, each with the draws after those of the one before
unfoldable pub event_lines : ℕ → ℕ → List (List ℕ)
event_lines zero seed = []
event_lines (suc count) seed = event_lines count seed ++ event_line (event_draws (after_events count seed)) ∷ []

-- ---- a case

-- what a contract sees of a case: the bytes of its chart text and of its event file
pub record Texts : Type 0 where
  pub chart : List ℕ
  pub events : List ℕ

-- the chart text of case n
unfoldable pub chart_text : ℕ → List ℕ
chart_text n = text_of (chart_lines (sizes (first_seed n)) (after_sizes (first_seed n)))

-- the event file of case n: 20000 lines, drawn after its chart
unfoldable pub events_text : ℕ → List ℕ
events_text n = text_of (event_lines 20000 (after_chart (first_seed n)))
