-- The parse of any words answers what they ask for.
use Rattle.std.proofs.Common.{◌≡◌, Bool, true, false, refl, sym, subst, List, [], ◌∷◌, Option, Some, None, codes}
use Rattle.std.specs.Str.{bytes_eq}
use Rattle.std.proofs.lemmas.Slice.Eq.{bytes_eq-Decides}
use Rattle.clap.specs.Kinds.{Kinds}
use Rattle.clap.specs.Faults.{fault_of, is_simple_and_free, level_fault}
use Rattle.clap.specs.Simple.{Shape, built, is_simple, rows_at, subcommand_of}
use Rattle.clap.specs.Walk.{Row, idle, nothing_held, subcommand_met}
use Rattle.command_words.specs.Numbers.{Text}
use Rattle.command_words.specs.Commands.{RunBounds}
use Rattle.command_words.specs.Reading.{nothing, read_words}
use Rattle.command_words.proofs.WordForms.{AreUtf8}
use Rattle.command_words.proofs.LeafRules.{shape_of_leaf}
use Rattle.command_words.proofs.LeafAnswers.{Answers, level_agrees}
use Rattle.command_words.proofs.ProgramWalk.{names, enters, no_words_fail, unknown_fails}
use Rattle.c_program.specs.Commands.{Command, Header, Source}
use Rattle.c_program.specs.Words.{command_of_texts, text_command}
use Rattle.c_program.specs.Parser.{program_app}
use Rattle.c_program.specs.Asked.{command_found, text_found}
use Rattle.c_program.proofs.TextLeaf.{text_leaf}
use Rattle.c_program.proofs.TextAnswers.{text_answers}

-- all that clap promises of its faults holds for the program
pub is_free : is_simple_and_free program_app ≡ true
is_free = refl

-- all that clap promises of what it matches holds for the program
pub is_plain : is_simple program_app ≡ true
is_plain = refl

-- the program's name
abbrev program : Text
program = codes "chart_to_c"

-- the commands as they are built
abbrev subs : List Shape
subs = (built program_app).subs

-- the parse of these words answers what they ask for
abbrev pub Agreed : List Text → Type 0
Agreed words = Answers (command_of_texts words) (fault_of program_app words)
    (command_found (subcommand_of program_app words))

-- a command's level, by its name
abbrev level : Text → Shape
level n = shape_of_leaf (text_leaf n)

-- what a command's level answers is what the parse answers
agreed_at : (n : Text) (rest : List Text)
    → (fault_of program_app (n ∷ rest) ≡ level_fault (level n) [] nothing_held rest false [])
    × (subcommand_of program_app (n ∷ rest) ≡ Some (rows_at (level n) rest))
    → Answers (command_of_texts (n ∷ rest)) (level_fault (level n) [] nothing_held rest false [])
    (command_found (Some (rows_at (level n) rest))) → Agreed (n ∷ rest)
agreed_at n rest e a =
    subst
    (λ (k : Kinds). Answers (command_of_texts (n ∷ rest)) k (command_found (subcommand_of program_app (n ∷ rest))))
    (sym e.0)
    (subst
    (λ (o : Option (Text × List Row)). Answers (command_of_texts (n ∷ rest))
    (level_fault (level n) [] nothing_held rest false []) (command_found o))
    (sym e.1) a)

-- a command of one file and bounds
text_agreed : (n : Text) (command : Text → Option RunBounds → Command) (rest : List Text) → AreUtf8 rest
    → Answers (text_command command rest) (level_fault (level n) [] nothing_held rest false [])
    (text_found command (rows_at (level n) rest).1)
text_agreed n command rest u =
    text_answers command (read_words true None rest nothing) (level_fault (level n) [] nothing_held rest false [])
    (rows_at (level n) rest).1 (level_agrees (text_leaf n) rest u)

-- `header`
header_agreed : (rest : List Text) → AreUtf8 rest → Agreed (codes "header" ∷ rest)
header_agreed rest u =
    agreed_at (codes "header") rest (enters program subs (codes "header") (level (codes "header")) rest refl refl)
    (text_agreed (codes "header") Header rest u)

-- `source`
source_agreed : (rest : List Text) → AreUtf8 rest → Agreed (codes "source" ∷ rest)
source_agreed rest u =
    agreed_at (codes "source") rest (enters program subs (codes "source") (level (codes "source")) rest refl refl)
    (text_agreed (codes "source") Source rest u)

-- for all words
pub agreed : (words : List Text) → AreUtf8 words → Agreed words
agreed [] u = λ e. absurd (no_words_fail program subs e)
agreed (name ∷ rest) u = header (bytes_eq (codes "header") name) refl
  where
    none : bytes_eq (codes "header") name ≡ false → bytes_eq (codes "source") name ≡ false → Agreed (name ∷ rest)
    none a b =
        let undefined : command_of_texts (name ∷ rest) ≡ None = rw (a, b) refl in
        let unmet : subcommand_met (names program subs) idle name ≡ None = rw (a, b) refl in
        subst
        (λ (o : Option Command). Answers o (fault_of program_app (name ∷ rest))
        (command_found (subcommand_of program_app (name ∷ rest))))
        (sym undefined) (λ z. absurd (unknown_fails program subs name rest u unmet z))

    named : (n : Text) → bytes_eq n name ≡ true → Agreed (n ∷ rest) → Agreed (name ∷ rest)
    named n e a = subst (λ (x : Text). Agreed (x ∷ rest)) ((bytes_eq-Decides n name).0 e) a

    header : (t : Bool) → bytes_eq (codes "header") name ≡ t → Agreed (name ∷ rest)
    header true a = named (codes "header") a (header_agreed rest u.1)
    header false a = source (bytes_eq (codes "source") name) refl
      where
        source : (t : Bool) → bytes_eq (codes "source") name ≡ t → Agreed (name ∷ rest)
        source true b = named (codes "source") b (source_agreed rest u.1)
        source false b = none a b
