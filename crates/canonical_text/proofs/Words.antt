-- The words of the pieces of a text, one after the other.
use Rattle.std.proofs.Common.{◌≡◌, ℕ, zero, suc, List, [], ◌∷◌, ◌++◌, refl, ap, append_assoc}
use Rattle.std.proofs.lemmas.List.{append-nil}
use Rattle.token_grammar.specs.declared.token.Kind.{Kind}
use Rattle.token_grammar.specs.declared.token.Kind.TheVariants as kinds
use Rattle.chart_tree.specs.declared.name.NameText.{NameText}
use Rattle.chart_tree.specs.declared.state.CompText.{CompText}
use Rattle.chart_print.specs.Pieces.{Piece, Token, Blank, kind_bytes, key, space, newline, indent, line}
use Rattle.chart_print.specs.Words.{word_pieces, name_pieces}
use Rattle.chart_print.specs.Canonical.{comp_pieces, head_pieces, head_line, end_line}
use Rattle.canonical_text.specs.Words.{Word, words_in}

-- one word
abbrev pub one : Kind → List ℕ → List Word
one k text = record { kind = k; text = text } ∷ []

-- the word of a keyword or a symbol
abbrev pub keyword : Kind → Word
keyword k = record { kind = k; text = kind_bytes k }

-- the words of pieces one after the other
pub words_in-append : (a b : List Piece) → words_in (a ++ b) ≡ words_in a ++ words_in b
words_in-append [] b = refl
words_in-append (Token kind bytes ∷ a) b =
    ap (λ (w : List Word). record { kind = kind; text = bytes } ∷ w) (words_in-append a b)
words_in-append (Blank bytes ∷ a) b = words_in-append a b

-- the words of keywords, symbols and names
pub words_key : (k : Kind) → words_in (key k) ≡ keyword k ∷ []
unfolding key
words_key k = refl

pub words_name : (bytes : List ℕ) → words_in (word_pieces bytes) ≡ one kinds.Name bytes
unfolding word_pieces
words_name bytes = refl

-- blanks are no words
pub words_space : words_in space ≡ []
unfolding space
words_space = refl

words_newline : words_in newline ≡ []
unfolding newline
words_newline = refl

words_indent : (level : ℕ) → words_in (indent level) ≡ []
unfolding indent
words_indent zero = refl
words_indent (suc level) = words_indent level

-- the words of a line are those of what stands on it
pub words_line : (level : ℕ) (content : List Piece) → words_in (line level content) ≡ words_in content
unfolding line
words_line level content = simp (words_in-append, words_indent, words_newline, append-nil)

-- the words of pieces, in the order in which they are spelled
pub ruleset words_apart = (words_in-append, words_key, words_name, words_space, words_line, append-nil, append_assoc)

-- ---- how states, junctions and charts begin and end

pub head_words : (level : ℕ) (k : Kind) (name : NameText) (comp : CompText)
    → words_in (head_line level k name comp)
    ≡ keyword k ∷ (words_in (name_pieces name) ++ (words_in (comp_pieces comp) ++ keyword kinds.OpenBrace ∷ []))
unfolding head_line head_pieces
head_words level k name comp = simp words_apart

pub end_words : (level : ℕ) → words_in (end_line level) ≡ keyword kinds.CloseBrace ∷ []
unfolding end_line
end_words level = simp words_apart
