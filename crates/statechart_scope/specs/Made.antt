-- How names are put together.
use Rattle.std.specs.Prelude.{ℕ, nat_le, List, ◌++◌, length, codes, decimal, if◌then◌else◌}
use Rattle.std.specs.List.{flat_map}
use Rattle.chart_lexer.specs.declared.words.TheConstants.{NAME_LIMIT}
use Rattle.statechart_meaning.specs.Names.{Home}

-- names with two underscores behind each
abbrev pub prefix : List (List ℕ) → List ℕ
prefix names = flat_map (λ (x : List ℕ). x ++ codes "__") names

-- words, a number, two underscores and the last word
abbrev pub short_name : List ℕ → ℕ → List ℕ → List ℕ
short_name words n last = words ++ decimal n ++ codes "__" ++ last

-- the first name, or the second where the first is too long
abbrev pub fitting : List ℕ → List ℕ → List ℕ
fitting long short = if nat_le (length long) NAME_LIMIT then long else short

-- words, the path of a state and the last word, or else other words, its number and the last word
abbrev pub made_name : Home → List ℕ → List ℕ → List ℕ → List ℕ
made_name h words short last =
    fitting (words ++ prefix h.path ++ last) (short_name short h.number last)
