-- Types of the code as contracts see them.
use Rattle.std.specs.Prelude.{ℕ, nat_lt, true, false, take, drop, codes, bytes_eq, List, Option, Some, None}
use Rattle.std.specs.Prelude.{if◌then◌else◌}
use Rattle.chart_tree.specs.Trees.{ScaleParts}
use Rattle.chart_tree.specs.Views.{parts_of}
use Rattle.chart_grammar.specs.Types.{TypeWord, FlagWord, ScaleWord, scale_told}
use Rattle.statechart_tokens.specs.declared.types.TypeName.{TypeName}
use Rattle.statechart_tokens.specs.declared.types.TypeName.TheVariants as names

-- the type that a word names
abbrev pub word_of : TypeName → TypeWord
word_of names.Flag = FlagWord
word_of (names.Numbers scale) = ScaleWord (parts_of scale)

-- a number, where it is below 100
abbrev pub below_hundred : Option ℕ → Option ℕ
below_hundred None = None
below_hundred (Some n) = if nat_lt n 100 then Some n else None

-- the scale of a word that has its width in it
abbrev pub told_of : List ℕ → Option ScaleParts
told_of word =
    if bytes_eq (take 4 word) (codes "sfix") then scale_told true (drop 4 word) else
    if bytes_eq (take 4 word) (codes "ufix") then scale_told false (drop 4 word) else
    None
