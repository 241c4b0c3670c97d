-- How `header` and `source` end, and `--version`.
use Rattle.std.specs.Prelude.{◌≡◌, ℕ, List, ◌++◌, take, codes, string_bytes, String, Option}
use Rattle.std.specs.declared.alloc.Global.{Global}
use Rattle.md5.specs.Md5.{md5}
use Rattle.flow_base.specs.declared.bounds.Bounds.{Bounds}
use Rattle.chart_tree.specs.declared.limits.TheConstants.{CHART_TEXT_LIMIT}
use Rattle.checked_chart.specs.Chart.{Chart}
use Rattle.chart_format.specs.Text.{IsFormatted}
use Rattle.accepted_charts.specs.Accepted.{IsAccepted}
use Rattle.command_words.specs.Commands.{RunBounds}
use Rattle.commands.specs.declared.text.TextEnd.{TextEnd}
use Rattle.commands.specs.declared.text.TextEnd.TheVariants as texts
use Rattle.commands.specs.declared.refusal.Refusal.{Refusal}
use Rattle.commands.specs.Accepted.{RefusesAccepted}
use Rattle.commands.specs.Call.{Call}
use Rattle.commands.specs.Texts.{TextEnds}
use Rattle.commands.specs.Writing.{Wrote, WroteFront}
use Rattle.c_header.specs.declared.identity.Identity.{Identity}
use Rattle.c_header.specs.Identity.{version}
use Rattle.c_file.specs.declared.file.CFiles.{CFiles}
use Rattle.c_file.specs.Files.{IsHeader, IsSource}
use Rattle.c_program.specs.Bounds.{IsBoundsFor}
use Rattle.c_program.specs.declared.files.CFile.{CFile}
use Rattle.c_program.specs.declared.files.CFile.TheVariants.{Header, Source}

-- that one of both files
abbrev pub chosen : CFile → CFiles → String Global
chosen Header files = files.header
chosen Source files = files.source

-- the text is that file of a chart's C, beside some other one that fits it
abbrev pub IsFileOf : CFile → Chart → Identity → List ℕ → Type 0
IsFileOf Header c identity text = IsHeader c identity text
IsFileOf Source c identity text = IsSource c identity text

-- the sum of a canonical text: the first 64 bits of its MD5
abbrev pub sum_of : List ℕ → List ℕ
sum_of canonical = take 8 (md5 canonical)

-- the text is that of an accepted chart, and this is the sum of its canonical text
pub record IsSummed (text : List ℕ) (c : Chart) (sum : List ℕ) : Type 0 where
  pub accepted : IsAccepted text c
  pub canonical : List ℕ
  pub formatted : IsFormatted text canonical
  pub sum_is : sum ≡ sum_of canonical

-- the text is that file of the C of a chart with that sum, under the bounds that are asked for or that the chart gives
pub record IsOfC (file : CFile) (asked : Option RunBounds) (c : Chart) (sum text : List ℕ) : Type 0 where
  pub identity : Identity
  pub of_chart : identity.sum ≡ sum
  pub bounds_for : IsBoundsFor asked c identity.bounds
  pub is_file : IsFileOf file c identity text

-- the first text is that of an accepted chart, and the second is that file of its C
pub record HasC (file : CFile) (asked : Option RunBounds) (text made : List ℕ) : Type 0 where
  pub chart : Chart
  pub sum : List ℕ
  pub summed : IsSummed text chart sum
  pub of_c : IsOfC file asked chart sum made

-- how `header` and `source` end, and when: each writes that file of the C of an accepted chart
abbrev pub FileEnds : CFile → Option RunBounds → Call → List ℕ → TextEnd Refusal → Type 0
FileEnds file asked = TextEnds CHART_TEXT_LIMIT (HasC file asked) RefusesAccepted

-- the line of `--version`
abbrev pub version_line : List ℕ
version_line = codes "chart_to_c " ++ (version ++ codes "\n")

-- how `--version` ends: it reads nothing, and writes its line
abbrev pub VersionEnds : Call → TextEnd Refusal → Type 0
VersionEnds call texts.Done =
    Wrote call.output_before call.output_after version_line × (call.sources_after ≡ call.sources_before)
VersionEnds call (texts.Unread end) = ⊥
VersionEnds call texts.Write =
    WroteFront call.output_before call.output_after version_line × (call.sources_after ≡ call.sources_before)
