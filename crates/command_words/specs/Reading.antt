-- What the words after the command give, read from left to right: options and files stand in any order.
use Rattle.std.specs.Prelude.{Bool, not, ◌&&◌, List, [], ◌∷◌, ◌++◌}
use Rattle.std.specs.Prelude.{Option, Some, None, is_some, option_and_then, if◌then◌else◌}
use Rattle.command_words.specs.Numbers.{Text, is_number_in}
use Rattle.command_words.specs.Options.{Bound, Depth, Steps, limit_of, Word, End, Named, Valued, Refused, File}
use Rattle.command_words.specs.Options.{begins_with_hyphen, word_of}

-- the files, and the values of the options
pub record Given : Type 0 where
  pub files : List Text
  pub depth : Option Text
  pub steps : Option Text

-- what is given before the first word
abbrev pub nothing : Given
nothing = record { files = []; depth = None; steps = None }

-- more files, after those that are given
abbrev pub with_files : List Text → Given → Given
with_files files given = record given { files = given.files ++ files }

-- the value of an option is a number from 1 to its limit, and each option stands at most once
abbrev pub with_value : Bound → Text → Given → Option Given
with_value Depth value given =
    if not (is_some given.depth) && is_number_in 1 (limit_of Depth) value
    then Some (record given { depth = Some value }) else None
with_value Steps value given =
    if not (is_some given.steps) && is_number_in 1 (limit_of Steps) value
    then Some (record given { steps = Some value }) else None

-- a word and those after it, which `go` reads: all words after `--` are files, an option without a value waits for the
-- next word, and with a refused word nothing is given
abbrev pub read_word : Word → Text → List Text → Given → (Option Bound → Given → Option Given) → Option Given
read_word End word rest given go = Some (with_files rest given)
read_word (Named bound) word rest given go = go (Some bound) given
read_word (Valued bound value) word rest given go = option_and_then (go None) (with_value bound value given)
read_word Refused word rest given go = None
read_word File word rest given go = go None (with_files (word ∷ []) given)

-- what the words give, none where one is refused; the value for which an option waits is the next word, which must not
-- begin with `-`
unfoldable pub read_words : Bool → Option Bound → List Text → Given → Option Given
read_words bounded None [] given = Some given
read_words bounded (Some bound) [] given = None
read_words bounded None (word ∷ rest) given =
    read_word (word_of bounded word) word rest given (λ waiting. read_words bounded waiting rest)
read_words bounded (Some bound) (word ∷ rest) given =
    if begins_with_hyphen word then None
    else option_and_then (read_words bounded None rest) (with_value bound word given)
