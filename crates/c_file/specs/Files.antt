-- Header and source of a chart.
use Rattle.std.specs.Prelude.{◌≡◌, ◌^◌, ◌<◌, ◌≤◌, ℕ, Bool, List, [], length, slice_index_or, string_bytes}
use Rattle.std.specs.List.{All}
use Rattle.flow_base.specs.declared.bounds.Bounds.{Bounds}
use Rattle.checked_chart.specs.Chart.{Chart}
use Rattle.code_language.specs.Code.{Code, code_of}
use Rattle.chart_code.specs.Bodies.{code_of_chart}
use Rattle.code_shrink.specs.Shrunk.{IsShrunk}
use Rattle.code_shrink.specs.Origins.{HadNumbers}
use Rattle.code_passes.specs.Passed.{IsFaster}
use Rattle.code_depths.specs.Depths.{IsCut}
use Rattle.code_counts.specs.declared.numbers.Counted.TheVariants.{Steps, Depth}
use Rattle.code_counts.specs.Needed as needed
use Rattle.code_counts.specs.Needed.{IsRoom}
use Rattle.code_passes.specs.declared.tag.Tag.{Tag}
use Rattle.chart_parts.specs.Parts.{parts_of}
use Rattle.c_functions.specs.Failing.{AfterIsRight}
use Rattle.c_functions.specs.Files.{shape_of}
use Rattle.c_functions.specs.Plans.{Shape, Tests}
use Rattle.c_functions.specs.Writer.{plans_of}
use Rattle.c_functions.specs.Starts.{file_of}
use Rattle.c_subset.specs.Trees.{Function, File}
use Rattle.c_passes.specs.Passed.{IsPassed}
use Rattle.c_runs.specs.Claims.{FileRunsAsRules, FitsChart, Serves}
use Rattle.c_text.specs.Labels.{Labels, labels_for, labels_of}
use Rattle.c_shape.specs.FileShapes.{shape_seen, tests_seen}
use Rattle.c_lines.specs.Wrapped.{IsInLines}
use Rattle.c_header.specs.declared.facts.SourceFacts.{SourceFacts}
use Rattle.c_header.specs.declared.identity.Identity.{Identity}
use Rattle.c_header.specs.Header.{calls_number, header_text}
use Rattle.c_file.specs.declared.file.CFiles.{CFiles}
use Rattle.c_file.specs.declared.made.Made.{Made}
use Rattle.c_file.specs.declared.written.Written.{Written}
use Rattle.c_file.specs.Changing.{AreChanging}
use Rattle.c_file.specs.Comments.{IsTagOf, comments_for, said_of}
use Rattle.c_file.specs.Facts.{AreFacts}
use Rattle.c_file.specs.Made.{IsMade, functions_of}
use Rattle.c_file.specs.Order.{IsOrder}
use Rattle.c_file.specs.Source.{source_text}

-- the name of a chart is that of its root
abbrev pub chart_name : Chart → List ℕ
chart_name c = slice_index_or c.names.states 0 []

-- code is the smaller code of a chart, and its procedures had these numbers in the chart's code
pub record IsCodeFor (c : Chart) (k : Code) (origins : List ℕ) : Type 0 where
  pub shrunk : IsShrunk (code_of_chart c) k
  pub numbers : HadNumbers (code_of_chart c).procedures k.procedures origins

-- code with these tags is one for which the C of a chart under its bounds is written: it is made of the chart's smaller
-- code, whose procedures had these numbers, by passes, and sends that find no depth left may lead elsewhere
pub record IsWritten (c : Chart) (b : Bounds) (k : Code) (tags : List Tag) (origins : List ℕ) : Type 0 where
  pub smaller : Code
  pub is_code : IsCodeFor c smaller origins
  pub faster : Code
  pub is_faster : IsFaster smaller faster tags
  pub is_cut : IsCut b.depth faster k

-- C takes the sizes of both arrays: each has at least one entry (6.7.5.2 p1), and how many it has is a constant that
-- fits an `int` of 32 bits (6.7.2.2 p2)
pub record HasSizes (K : Shape) : Type 0 where
  pub some_outputs : 1 ≤ K.outputs
  pub few_outputs : K.outputs < 2 ^ 31
  pub some_notes : 1 ≤ K.notes
  pub few_notes : K.notes < 2 ^ 31

-- The tests, the limits and the room are those that code needs under these bounds: a limit is no greater than its bound,
-- and where it is tested it is that bound; where it isn't, no event of the code takes more. There is room for what an
-- event emits under the limits, and for no more events than it has steps.
pub record AreLimits (k : Code) (b : Bounds) (T : Tests) (limits : Bounds) (room : ℕ) : Type 0 where
  pub steps : needed.Serves Steps k b.steps limits.steps T.steps
  pub depth : needed.Serves Depth k b.depth limits.depth T.depth
  pub outputs : IsRoom k limits room

-- what both files of a chart under its bounds are written for: such code, which fits the chart as its tags do, with
-- tests, limits and room for outputs that serve it, and arrays of sizes that C takes, where the result of each
-- procedure that can fail is tested after a call
pub record IsWrittenUnder (c : Chart) (b : Bounds) (written : Written) : Type 0 where
  pub is_written : IsWritten c b (code_of written.code) written.tags.items written.origins.items
  pub fits : FitsChart c (code_of written.code)
  pub tags : All (IsTagOf c) written.tags.items
  pub serves : Serves c b (code_of written.code) (tests_seen written.tests) written.limits
      written.outputs
  pub limits_are : AreLimits (code_of written.code) b (tests_seen written.tests) written.limits written.outputs
  pub sizes : HasSizes (shape_of (code_of written.code) (tests_seen written.tests) written.limits written.outputs)
  pub after : AfterIsRight (tests_seen written.tests) (code_of written.code)

-- what the names in the source for code of a chart are made of
abbrev pub names_in : Chart → Code → Labels
names_in c k = labels_for (chart_name c) c.names c.tree (length k.procedures.procs)

-- what is said of the procedures of code with these tags, where those of the smaller code had these numbers
abbrev pub comments_in : Chart → List ℕ → List Tag → List (List ℕ)
comments_in c origins tags = comments_for c.tree c.names (parts_of c) origins tags

-- Both files are made from what is written for a chart: from its code, with its tests, limits and room for outputs,
-- from the names in its source and from what is said of its procedures
pub record IsMadeFor (c : Chart) (written : Written) (made : Made) : Type 0 where
  pub is_made : IsMade made
  pub code : code_of made.code.now ≡ code_of written.code
  pub shape : shape_seen made.shape
      ≡ shape_of (code_of written.code) (tests_seen written.tests) written.limits written.outputs
  pub names : labels_of made.labels ≡ names_in c (code_of written.code)
  pub said : said_of made.said
      ≡ comments_in c written.origins.items written.tags.items

-- the header of the file for code of a chart, with these tests, limits and room for outputs, of whose functions these
-- facts hold
abbrev pub header_for : Chart → Tests → Bounds → ℕ → Code → SourceFacts → Identity → List ℕ
header_for c T limits room k facts identity =
    header_text (names_in c k).chart (shape_of k T limits room) facts identity

-- its source: those of these functions that are written, in that order, each procedure under words for the part of the
-- chart that it is of and for what it is a copy, where some may change the struct, and the check that the header has the
-- same bounds, the same numbers of outputs, notes and calls, and the sum of the same chart
abbrev pub source_for : Chart → Tests → Bounds → ℕ → Code → List ℕ → List Tag → SourceFacts → List Function → List Bool
    → List Bool → List ℕ → Identity → List ℕ
source_for c T limits room k origins tags facts functions written changing order identity =
    source_text (names_in c k) (comments_in c origins tags) identity limits room (shape_of k T limits room).notes
    (calls_number facts.calls) functions written changing order

-- both files are those of what they are made from, in lines, for lists of the functions that are reached and of those that
-- may change the struct, an order of the former, and facts that hold
pub record IsPrinted (made : Made) (identity : Identity) (files : CFiles) : Type 0 where
  pub written : List Bool
  pub changing : List Bool
  pub order : List ℕ
  pub facts : SourceFacts
  pub hold : AreFacts (labels_of made.labels) (functions_of made) written facts
  pub may_change : AreChanging (labels_of made.labels) (functions_of made) changing
  pub is_order : IsOrder written order
  pub header_is : IsInLines (header_text made.name.now (shape_seen made.shape) facts identity)
      (string_bytes files.header)
  pub source_is : IsInLines
      (source_text (labels_of made.labels) (said_of made.said) identity made.shape.bounds made.shape.outputs
      made.shape.notes (calls_number facts.calls) (functions_of made) written changing order) (string_bytes files.source)

-- The two texts are header and source of a chart, of this making: both of one code, made of the chart's smaller code,
-- with the tests, limits and room that it needs under the bounds that were asked for, and arrays of sizes that C takes;
-- and of one file, made by passes of that of the code. The header says the facts that hold of the functions of the file,
-- and the source has those that are reached, each once, in some order, where those that are called before they stand are
-- declared, with a struct that is const but where a function may change it. No line of either is too long. The file runs
-- as the rules say under these bounds.
pub record IsC (c : Chart) (identity : Identity) (header source : List ℕ) : Type 0 where
  pub code : Code
  pub tags : List Tag
  pub origins : List ℕ
  pub tests : Tests
  pub limits : Bounds
  pub room : ℕ
  pub file : File
  pub written : List Bool
  pub changing : List Bool
  pub order : List ℕ
  pub facts : SourceFacts
  pub is_written : IsWritten c identity.bounds code tags origins
  pub limits_are : AreLimits code identity.bounds tests limits room
  pub sizes : HasSizes (shape_of code tests limits room)
  pub passed : IsPassed (shape_of code tests limits room) (file_of code tests limits room (plans_of code)) file
  pub hold : AreFacts (names_in c code) file.functions written facts
  pub may_change : AreChanging (names_in c code) file.functions changing
  pub is_order : IsOrder written order
  pub header_is : IsInLines (header_for c tests limits room code facts identity) header
  pub source_is : IsInLines
      (source_for c tests limits room code origins tags facts file.functions written changing order identity) source
  pub runs : FileRunsAsRules c identity.bounds (shape_of code tests limits room) file

-- the text is the header of a chart's C, beside some source
abbrev pub IsHeader : Chart → Identity → List ℕ → Type 0
IsHeader c identity header = (source : List ℕ) × IsC c identity header source

-- the text is the source of a chart's C, beside some header
abbrev pub IsSource : Chart → Identity → List ℕ → Type 0
IsSource c identity source = (header : List ℕ) × IsC c identity header source
