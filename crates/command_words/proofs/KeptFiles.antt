-- What is read keeps the files that were given first.
use Rattle.std.proofs.Common.{◌≡◌, ◌∙◌, Bool, true, false, not, ◌&&◌, cond, refl, sym, ap, subst, List, [], ◌∷◌, ◌++◌}
use Rattle.std.proofs.Common.{Option, Some, None, is_some}
use Rattle.std.specs.Prelude.{option_and_then}
use Rattle.std.proofs.lemmas.List.{append_assoc}
use Rattle.clap.specs.declared.builder.value_parser.ValueParser.{ValueParser}
use Rattle.command_words.specs.Numbers.{Text, is_number_in}
use Rattle.command_words.specs.Options.{Bound, Depth, Steps, limit_of, Word, End, Named, Valued, Refused, File}
use Rattle.command_words.specs.Options.{begins_with_hyphen, word_of}
use Rattle.command_words.specs.Reading.{Given, with_files, with_value, read_word, read_words}
use Rattle.command_words.proofs.GivenRows.{exactly, has_files}

-- what is read, if anything is, has these files first
pub record Keeps (files : List Text) (o : Option Given) : Type 0 where
  pub more : (given : Given) → o ≡ Some given → (more : List Text) × (given.files ≡ files ++ more)

-- no files more
pub nil_after : (xs : List Text) → xs ≡ xs ++ []
nil_after [] = refl
nil_after (x ∷ xs) = ap (λ ys. x ∷ ys) (nil_after xs)

-- nothing is read
keeps_none : (files : List Text) → Keeps files None
keeps_none files = record { more = λ given e. absurd (cc) }

-- what is read has more files
keeps_some : (files : List Text) (given : Given) (more : List Text) → given.files ≡ files ++ more
    → Keeps files (Some given)
keeps_some files given more e =
    record { more = λ g is. let same : given ≡ g = cc in (more, ap (λ (k : Given). k.files) (sym same) ∙ e) }

-- what keeps more files keeps the first of them
keeps_more : (files more : List Text) (o : Option Given) → Keeps (files ++ more) o → Keeps files o
keeps_more files more o k =
    record { more = λ g is. let m = k.more g is in (more ++ m.0, m.1 ∙ append_assoc files more m.0) }

-- the value of an option changes no files
keeps_value : (bound : Bound) (v : Text) (given : Given) (go : Given → Option Given)
    → ((g : Given) → g.files ≡ given.files → Keeps given.files (go g))
    → Keeps given.files (option_and_then go (with_value bound v given))
keeps_value Depth v given go k = test (not (is_some given.depth) && is_number_in 1 (limit_of Depth) v)
  where
    test : (b : Bool) → Keeps given.files (option_and_then go (cond b (Some (record given { depth = Some v })) None))
    test true = k (record given { depth = Some v }) refl
    test false = keeps_none given.files
keeps_value Steps v given go k = test (not (is_some given.steps) && is_number_in 1 (limit_of Steps) v)
  where
    test : (b : Bool) → Keeps given.files (option_and_then go (cond b (Some (record given { steps = Some v })) None))
    test true = k (record given { steps = Some v }) refl
    test false = keeps_none given.files

-- one word keeps the files, where those after it do
word_keeps : (w : Word) (word : Text) (rest : List Text) (given : Given) (go : Option Bound → Given → Option Given)
    → ((waiting : Option Bound) (g : Given) → Keeps g.files (go waiting g))
    → Keeps given.files (read_word w word rest given go)
word_keeps End word rest given go k = keeps_some given.files (with_files rest given) rest refl
word_keeps (Named bound) word rest given go k = k (Some bound) given
word_keeps (Valued bound v) word rest given go k =
    keeps_value bound v given (go None) (λ g e. subst (λ fs. Keeps fs (go None g)) e (k None g))
word_keeps Refused word rest given go k = keeps_none given.files
word_keeps File word rest given go k =
    keeps_more given.files (word ∷ []) (go None (with_files (word ∷ []) given)) (k None (with_files (word ∷ []) given))

-- the words keep the files
pub words_keep : (bounded : Bool) (waiting : Option Bound) (words : List Text) (given : Given)
    → Keeps given.files (read_words bounded waiting words given)
unfolding read_words
words_keep bounded None [] given = keeps_some given.files given [] (nil_after given.files)
words_keep bounded (Some bound) [] given = keeps_none given.files
words_keep bounded None (word ∷ rest) given =
    word_keeps (word_of bounded word) word rest given (λ waiting. read_words bounded waiting rest)
    (λ waiting g. words_keep bounded waiting rest g)
words_keep bounded (Some bound) (word ∷ rest) given =
    test (begins_with_hyphen word) (λ g. words_keep bounded None rest g)
  where
    test : (b : Bool) → ((g : Given) → Keeps g.files (read_words bounded None rest g))
        → Keeps given.files (cond b None (option_and_then (read_words bounded None rest) (with_value bound word given)))
    test true k = keeps_none given.files
    test false k =
        keeps_value bound word given (read_words bounded None rest)
        (λ g e. subst (λ fs. Keeps fs (read_words bounded None rest g)) e (k g))

-- no files after these make them those that are wanted
abbrev pub CannotFit : Bool → ValueParser → List Text → Type 0
CannotFit two p files = (more : List Text) → has_files two p (files ++ more) ≡ false

-- after such files nothing is read that has exactly the files that are wanted
pub cannot_fit : (two : Bool) (p : ValueParser) (bounded : Bool) (waiting : Option Bound) (words : List Text)
    (given : Given)
    → CannotFit two p given.files → option_and_then (exactly two p) (read_words bounded waiting words given) ≡ None
cannot_fit two p bounded waiting words given h =
    go (read_words bounded waiting words given) (words_keep bounded waiting words given)
  where
    go : (o : Option Given) → Keeps given.files o → option_and_then (exactly two p) o ≡ None
    go None k = refl
    go (Some g) k = let m = k.more g refl in ap (λ b. cond b (Some g) None) (ap (has_files two p) m.1 ∙ h m.0)
