-- What the parse of a command of one file and bounds answers.
use Rattle.std.proofs.Common.{◌≡◌, ◌∙◌, false, ◌||◌, cond, refl, ap, List, [], ◌∷◌}
use Rattle.std.proofs.Common.{Option, Some, None, is_some, codes, option_map}
use Rattle.std.specs.Prelude.{option_and_then}
use Rattle.clap.specs.Kinds.{Kinds}
use Rattle.clap.specs.Walk.{Row}
use Rattle.clap.specs.declared.builder.value_parser.ValueParser.TheVariants as parsers
use Rattle.command_words.specs.Numbers.{Text, number_of}
use Rattle.command_words.specs.Commands.{RunBounds}
use Rattle.command_words.specs.Reading.{Given}
use Rattle.command_words.specs.Words.{with_one}
use Rattle.command_words.specs.Asked.{number_at}
use Rattle.command_words.proofs.GivenRows.{Agrees, Holds, exactly}
use Rattle.command_words.proofs.LeafAnswers.{Answers, bounds_are, first_is, numbers_are}
use Rattle.c_program.specs.Commands.{Command}
use Rattle.c_program.specs.Words.{asked_of}
use Rattle.c_program.specs.Asked.{asked_found, text_found}

-- there is a number where there is a text
number_there : (o : Option Text) → is_some (option_map number_of o) ≡ is_some o
number_there None = refl
number_there (Some v) = refl

-- the bounds that are found are those that are asked for
asked_are : (rows : List Row) (given : Given) → Holds false parsers.String rows given
    → asked_found rows ≡ asked_of given
asked_are rows given h =
    let numbers = numbers_are false parsers.String rows given h in
    let depth : is_some (number_at (codes "depth") rows) ≡ is_some given.depth =
    ap is_some numbers.0 ∙ number_there given.depth in
    let steps : is_some (number_at (codes "steps") rows) ≡ is_some given.steps =
    ap is_some numbers.1 ∙ number_there given.steps in
    λ i. cond (depth i || steps i) (bounds_are false parsers.String rows given h i) None

-- what the command answers
pub text_answers : (command : Text → Option RunBounds → Command) (o : Option Given) (kinds : Kinds) (rows : List Row)
    → Agrees false parsers.String (option_and_then (exactly false parsers.String) o) kinds rows
    → Answers (option_and_then (λ given. with_one (λ first. command first (asked_of given)) given.files) o) kinds
    (text_found command rows)
text_answers command None kinds rows a = λ e. absurd (a e)
text_answers command (Some given) kinds rows a = go given.files a
  where
    go : (files : List Text)
        → Agrees false parsers.String (exactly false parsers.String (record given { files = files })) kinds rows
        → Answers (with_one (λ first. command first (asked_of given)) files) kinds (text_found command rows)
    go [] a = λ e. absurd (a e)
    go (f ∷ []) a = (
      a.0,
      λ i. option_map (λ (first : Text). command first (asked_are rows (record given { files = f ∷ [] }) a.1 i))
          (first_is (codes "first") parsers.String rows (Some f) a.1.first i),
    )
    go (f ∷ g ∷ more) a = λ e. absurd (a e)
