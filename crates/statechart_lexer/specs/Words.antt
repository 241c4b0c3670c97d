-- The reserved words that a chart text doesn't have.
use Rattle.std.specs.Prelude.{ℕ, List, Option, Some, None, if◌then◌else◌, codes, bytes_eq}
use Rattle.token_grammar.specs.declared.token.Kind.{Kind}
use Rattle.token_grammar.specs.declared.token.Kind.TheVariants as kinds
use Rattle.chart_lexer.specs.Words as core
use Rattle.statechart_lexer.specs.declared.words.Word.{Word}
use Rattle.statechart_lexer.specs.declared.words.Word.TheVariants as words

-- one of the words of declarations and actions
unfoldable pub declaring_word : List ℕ → Option Word
declaring_word w =
    if bytes_eq w (codes "statechart") then Some words.Statechart else
    if bytes_eq w (codes "constant") then Some words.Constant else
    if bytes_eq w (codes "enum") then Some words.Enum else
    if bytes_eq w (codes "function") then Some words.Function else
    if bytes_eq w (codes "clock") then Some words.Clock else
    if bytes_eq w (codes "on") then Some words.On else
    None

-- one of the temporal words
unfoldable pub temporal_word : List ℕ → Option Word
temporal_word w =
    if bytes_eq w (codes "after") then Some words.After else
    if bytes_eq w (codes "before") then Some words.Before else
    if bytes_eq w (codes "at") then Some words.At else
    if bytes_eq w (codes "every") then Some words.Every else
    if bytes_eq w (codes "temporalCount") then Some words.TemporalCount else
    None

-- the first of two words, where there is one
abbrev pub or_word : Option Word → Option Word → Option Word
or_word None other = other
or_word (Some word) other = Some word

-- the further word that is spelled so
abbrev pub word_of : List ℕ → Option Word
word_of w = or_word (declaring_word w) (temporal_word w)

-- the kind of a further word, or else that of a chart text
abbrev pub kind_with : Option Word → Kind → Kind
kind_with None kind = kind
kind_with (Some word) kind = kinds.Tick

-- the kind of a word: that of a chart text, where it is none of the further words
abbrev pub word_kind : List ℕ → Kind
word_kind w = kind_with (word_of w) (core.word_kind w)
