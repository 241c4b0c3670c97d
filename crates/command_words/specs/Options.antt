-- What a word after the command is, as long as no `--` stands before it.
use Rattle.std.specs.Prelude.{ℕ, Bool, false, ◌&&◌, ◌==◌, [], ◌∷◌, take, drop}
use Rattle.std.specs.Prelude.{Option, Some, None, if◌then◌else◌, codes}
use Rattle.std.specs.List.{list_any, before_first, after_first}
use Rattle.std.specs.Str.{bytes_eq}
use Rattle.flow_base.specs.declared.bounds.TheConstants.{DEPTH_LIMIT, STEP_LIMIT}
use Rattle.command_words.specs.Numbers.{Text}

-- a bound of a run, which an option sets
pub data Bound : Type 0 where
  -- `--depth V`
  Depth : Bound
  -- `--steps V`
  Steps : Bound

-- the greatest number that an option may give: a depth of 32, and 50,000 steps
abbrev pub limit_of : Bound → ℕ
limit_of Depth = DEPTH_LIMIT
limit_of Steps = STEP_LIMIT

-- what a word is
pub data Word : Type 0 where
  -- `--`, which ends the options
  End : Word
  -- `--NAME`, whose value is the next word
  Named : Bound → Word
  -- `--NAME=V`
  Valued : Bound → Text → Word
  -- any other word that begins with `-` and isn't `-` alone
  Refused : Word
  -- a file
  File : Word

-- the word begins with `-`, whose byte is 45
abbrev pub begins_with_hyphen : Text → Bool
begins_with_hyphen [] = false
begins_with_hyphen (b ∷ word) = b == 45

-- the word begins with `-` and isn't `-` alone
abbrev pub is_hyphened : Text → Bool
is_hyphened [] = false
is_hyphened (b ∷ []) = false
is_hyphened (b ∷ c ∷ word) = b == 45

-- the option of that name: a command that is bounded takes `depth` and `steps`, any other takes no option; no command
-- takes an option for help
abbrev pub option_named : Bool → Text → Option Bound
option_named bounded name =
    if bounded && bytes_eq (codes "depth") name then Some Depth else
    if bounded && bytes_eq (codes "steps") name then Some Steps else None

-- what stands after the first `=`, whose byte is 61, if there is one
abbrev pub value_in : Text → Option Text
value_in text = if list_any (λ b. b == 61) text then Some (after_first (λ b. b == 61) text) else None

-- an option has its value where a `=` follows its name; a name that is no option's is refused
abbrev pub option_word : Option Bound → Option Text → Word
option_word None value = Refused
option_word (Some bound) None = Named bound
option_word (Some bound) (Some value) = Valued bound value

-- a word, for a command that is bounded or not; the name of an option is written in full, between `--` and any `=`
abbrev pub word_of : Bool → Text → Word
word_of bounded word =
    if bytes_eq word (codes "--") then End else
    if bytes_eq (take 2 word) (codes "--")
    then option_word (option_named bounded (before_first (λ b. b == 61) (drop 2 word))) (value_in (drop 2 word)) else
    if is_hyphened word then Refused else File
