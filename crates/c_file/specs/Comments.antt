-- What the procedures of a file do, told by the parts of the chart that they are of, and for what they are copies.
use Rattle.std.specs.Prelude.{◌≡◌, ◌<◌, ℕ, Bool, true, false, List, [], ◌++◌, length, map, codes, slice_get}
use Rattle.std.specs.Prelude.{slice_index}
use Rattle.std.specs.Prelude.{Option, Some, None}
use Rattle.std.specs.List.{All, AllByRecursion}
use Rattle.std.specs.Option.{option_map_or}
use Rattle.flow_base.specs.Lists.{items_of}
use Rattle.active_config.specs.Tree.{Tree, state_count}
use Rattle.actions.specs.Names.{Names}
use Rattle.actions.specs.declared.event.Event.TheVariants.{Start, Tick, Named}
use Rattle.checked_chart.specs.Chart.{Chart}
use Rattle.checked_chart.specs.Kept.{chart_of}
use Rattle.trace_text.specs.Trace.{event_name}
use Rattle.code_passes.specs.declared.tag.EventTag.{EventTag}
use Rattle.code_passes.specs.declared.tag.EventTag.TheVariants.{Any, Is, Other}
use Rattle.code_passes.specs.declared.tag.Tag.{Tag}
use Rattle.chart_parts.specs.declared.part.Part.{Part}
use Rattle.chart_parts.specs.Parts.{IsPart}
use Rattle.chart_parts.specs.PartText.{state_words, part_text}
use Rattle.c_file.specs.declared.said.Said.{Said}

-- words for the part at that place, nothing where there is none
abbrev pub words_at : Tree → Names → List Part → ℕ → List ℕ
words_at t n parts p = option_map_or (part_text t n) (slice_get parts p) []

-- for which events a procedure is, after words for its part
abbrev pub event_words : Names → EventTag → List ℕ
event_words n Any = []
event_words n (Is Start) = codes ", where the event is the start"
event_words n (Is Tick) = codes ", where the event is a tick"
event_words n (Is (Named e)) = codes ", where the event is " ++ event_name n e
event_words n Other = codes ", where the event is another one"

-- what stands before the home: whether something stands already of the events
abbrev pub home_start : EventTag → List ℕ
home_start Any = codes ", where the home is "
home_start (Is e) = codes " and the home is "
home_start Other = codes " and the home is "

-- for which home a procedure is
abbrev pub home_words : Tree → Names → EventTag → Option ℕ → List ℕ
home_words t n events None = []
home_words t n events (Some s) = home_start events ++ state_words t n s

-- whether a procedure stands for others
abbrev pub shared_words : Bool → List ℕ
shared_words true = codes ", and what is equal to it"
shared_words false = []

-- whether a procedure calls the actions that were noted on the way to its part, and that alone
abbrev pub play_words : Bool → List ℕ
play_words true = codes ", the actions noted there"
play_words false = []

-- for what a copy of a procedure is
abbrev pub copy_words : Tree → Names → Tag → List ℕ
copy_words t n tag =
    play_words tag.plays
    ++ (event_words n tag.event ++ (home_words t n tag.event tag.home ++ shared_words tag.shared))

-- what a procedure does: the part of the chart that its procedure of the smaller code is of, and for what it is a copy
abbrev pub words_for : Tree → Names → List Part → List ℕ → Tag → List ℕ
words_for t n parts origins tag = words_at t n parts (slice_index origins tag.proc) ++ copy_words t n tag

-- those of the procedures with these tags, where the procedures of the smaller code had these numbers
abbrev pub comments_for : Tree → Names → List Part → List ℕ → List Tag → List (List ℕ)
comments_for t n parts origins tags = map (words_for t n parts origins) tags

-- what is said of the procedures of a file
abbrev pub said_of : Said → List (List ℕ)
said_of said =
    comments_for (chart_of said.chart.now).tree (chart_of said.chart.now).names (items_of said.parts) said.origins.now
    said.tags.now

-- the home and the event of a tag are those of a chart
pub record IsTagOf (c : Chart) (tag : Tag) : Type 0 where
  pub home : (s : ℕ) → tag.home ≡ Some s → s < state_count c.tree
  pub event : (e : ℕ) → tag.event ≡ Is (Named e) → e < length c.names.events

-- the states of the parts are those of the chart, and so are the homes and the events of the tags
pub record AreOfChart (said : Said) : Type 0 where
  pub parts : AllByRecursion (IsPart (chart_of said.chart.now).tree) (items_of said.parts)
  pub tags : All (IsTagOf (chart_of said.chart.now)) said.tags.now
