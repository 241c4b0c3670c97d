-- The tokens of a text are cut from it: their names are names, and their numbers are numbers.
use Rattle.std.proofs.Common.{◌≡◌, ℕ, zero, suc, ◌-◌, ◌<◌, Bool, true, false, ◌&&◌, List, [], ◌∷◌, Option, Some, None}
use Rattle.std.proofs.Common.{length, take, drop, refl, sym, ap, ◌∙◌, cond, eqb, ltb, not, length-take-le, arith}
use Rattle.std.specs.Prelude.{codes, bytes_eq}
use Rattle.std.specs.Str.{byte}
use Rattle.std.proofs.lemmas.Bool.{cond_both}
use Rattle.token_grammar.specs.declared.token.Kind.{Kind}
use Rattle.token_grammar.specs.declared.token.Kind.TheVariants as kinds
use Rattle.token_grammar.specs.declared.token.Span.{Span}
use Rattle.token_grammar.specs.Token.{kind_eq}
use Rattle.chart_lexer.specs.declared.words.TheConstants.{NAME_LIMIT}
use Rattle.chart_lexer.specs.declared.front.Front.{Front}
use Rattle.chart_lexer.specs.declared.front.Front.TheVariants as fronts
use Rattle.chart_lexer.specs.declared.front.Stop.TheVariants as stops
use Rattle.chart_lexer.specs.Bytes.{is_blank, is_allowed, is_letter, is_digit, is_name_byte, begins}
use Rattle.chart_lexer.specs.Words.{name_length, word_kind, declaration_kind, statement_kind, mode_kind, is_name}
use Rattle.chart_lexer.specs.Numbers.{number_length}
use Rattle.chart_lexer.specs.Symbols.{pair_kind, single_kind, first_pair, first_single}
use Rattle.chart_lexer.specs.Lex.{comment_length, begins_comment, longer_symbol, word_front, number_front}
use Rattle.chart_lexer.specs.Lex.{symbol_front, front_of, lexed, after_byte, begin, cut_of}
use Rattle.chart_lexer.proofs.Cuts.{blank_turn, token_turn, stop_turn}
use Rattle.chart_lexer.proofs.Names.{front_named}
use Rattle.canonical_text.specs.Words.{IsNumber, IsCut}
use Rattle.canonical_text.specs.Claims.{AreCut}
use Rattle.canonical_text.proofs.NumberLengths.{number_cut, number_within, number_some}

-- ---- no word and no symbol is a number

-- no number
NoNumber : Kind → Type 0
NoNumber kind = kind_eq kind kinds.Number ≡ false

-- nor is the symbol, where there is one
NoSymbol : Option Kind → Type 0
NoSymbol None = Unit {0}
NoSymbol (Some kind) = NoNumber kind

-- of a word and another one, neither is a number
either_word : (test : Bool) (kind other : Kind) → kind_eq kind kinds.Number ≡ false → NoNumber other
    → NoNumber (cond test kind other)
unfolding NoNumber
either_word true kind other h rest = h
either_word false kind other h rest = rest

-- of a symbol and what else there is, neither is a number
either_symbol : (test : Bool) (kind : Kind) (o : Option Kind) → kind_eq kind kinds.Number ≡ false → NoSymbol o
    → NoSymbol (cond test (Some kind) o)
unfolding NoSymbol NoNumber
either_symbol true kind o h rest = h
either_symbol false kind o h rest = rest

-- what is no symbol isn't one of kind Number
no_symbol : NoSymbol None
unfolding NoSymbol
no_symbol = tt

-- a name isn't a number
name_no_number : NoNumber kinds.Name
unfolding NoNumber
name_no_number = refl

-- nor is any word
word_no_number : (w : List ℕ) → NoNumber (word_kind w)
unfolding word_kind declaration_kind statement_kind mode_kind
word_no_number w =
    either_word (bytes_eq w (codes "chart")) kinds.Chart _ refl
    (either_word (bytes_eq w (codes "or")) kinds.Or _ refl
    (either_word (bytes_eq w (codes "and")) kinds.And _ refl
    (either_word (bytes_eq w (codes "state")) kinds.State _ refl
    (either_word (bytes_eq w (codes "entry")) kinds.Entry _ refl
    (either_word (bytes_eq w (codes "during")) kinds.During _ refl
    (either_word (bytes_eq w (codes "exit")) kinds.Exit _ refl
    (either_word (bytes_eq w (codes "outer")) kinds.Outer _ refl
    (either_word (bytes_eq w (codes "inner")) kinds.Inner _ refl
    (either_word (bytes_eq w (codes "default")) kinds.Default _ refl
    (either_word (bytes_eq w (codes "junction")) kinds.Junction _ refl
    (either_word (bytes_eq w (codes "event")) kinds.Event _ refl
    (either_word (bytes_eq w (codes "input")) kinds.Input _ refl
    (either_word (bytes_eq w (codes "output")) kinds.Output _ refl
    (either_word (bytes_eq w (codes "local")) kinds.Local _ refl
    (either_word (bytes_eq w (codes "send")) kinds.Send _ refl
    (either_word (bytes_eq w (codes "to")) kinds.To _ refl
    (either_word (bytes_eq w (codes "emit")) kinds.Emit _ refl
    (either_word (bytes_eq w (codes "in")) kinds.In _ refl
    (either_word (bytes_eq w (codes "true")) kinds.True _ refl
    (either_word (bytes_eq w (codes "false")) kinds.False _ refl
    (either_word (bytes_eq w (codes "tick")) kinds.Tick _ refl
    (either_word (bytes_eq w (codes "saturate")) kinds.Saturate _ refl
    (either_word (bytes_eq w (codes "wrap")) kinds.Wrap _ refl
    (either_word (bytes_eq w (codes "error")) kinds.Error _ refl
    (either_word (bytes_eq w (codes "history")) kinds.History _ refl
    name_no_number)))))))))))))))))))))))))

-- nor a symbol of two bytes
pair_no_number : (a b : ℕ) → NoSymbol (pair_kind a b)
unfolding pair_kind
pair_no_number a b =
    either_symbol (eqb a (byte "-") && eqb b (byte ">")) kinds.Arrow _ refl
    (either_symbol (eqb a (byte "=") && eqb b (byte "=")) kinds.EqualEqual _ refl
    (either_symbol (eqb a (byte "!") && eqb b (byte "=")) kinds.NotEqual _ refl
    (either_symbol (eqb a (byte "<") && eqb b (byte "=")) kinds.LessEqual _ refl
    (either_symbol (eqb a (byte ">") && eqb b (byte "=")) kinds.GreaterEqual _ refl
    (either_symbol (eqb a (byte "&") && eqb b (byte "&")) kinds.AndAnd _ refl
    (either_symbol (eqb a (byte "|") && eqb b (byte "|")) kinds.OrOr _ refl
    no_symbol))))))

-- nor one of one byte
single_no_number : (a : ℕ) → NoSymbol (single_kind a)
unfolding single_kind
single_no_number a =
    either_symbol (eqb a (byte "{")) kinds.OpenBrace _ refl
    (either_symbol (eqb a (byte "}")) kinds.CloseBrace _ refl
    (either_symbol (eqb a (byte "[")) kinds.OpenBracket _ refl
    (either_symbol (eqb a (byte "]")) kinds.CloseBracket _ refl
    (either_symbol (eqb a (byte "(")) kinds.OpenParen _ refl
    (either_symbol (eqb a (byte ")")) kinds.CloseParen _ refl
    (either_symbol (eqb a (byte ";")) kinds.Semicolon _ refl
    (either_symbol (eqb a (byte ":")) kinds.Colon _ refl
    (either_symbol (eqb a (byte ",")) kinds.Comma _ refl
    (either_symbol (eqb a (byte "@")) kinds.At _ refl
    (either_symbol (eqb a (byte "=")) kinds.Assign _ refl
    (either_symbol (eqb a (byte "/")) kinds.Slash _ refl
    (either_symbol (eqb a (byte "+")) kinds.Plus _ refl
    (either_symbol (eqb a (byte "-")) kinds.Minus _ refl
    (either_symbol (eqb a (byte "*")) kinds.Star _ refl
    (either_symbol (eqb a (byte "<")) kinds.Less _ refl
    (either_symbol (eqb a (byte ">")) kinds.Greater _ refl
    (either_symbol (eqb a (byte "!")) kinds.Not _ refl
    no_symbol)))))))))))))))))

-- nor the first two bytes of a text
first_pair_no_number : (s : List ℕ) → NoSymbol (first_pair s)
first_pair_no_number [] = no_symbol
first_pair_no_number (a ∷ []) = no_symbol
first_pair_no_number (a ∷ b ∷ s) = pair_no_number a b

-- ---- what is cut as a number is one

-- the token, where it is one of kind Number, is a number
abbrev Numbered : List ℕ → Front → Type 0
Numbered s fronts.Blank = Unit {0}
Numbered s (fronts.Token kind n) = kind_eq kind kinds.Number ≡ true → IsNumber (take n s)
Numbered s (fronts.Stop stop) = Unit {0}

not_numbered : (s : List ℕ) (kind : Kind) (n : ℕ) → NoNumber kind → Numbered s (fronts.Token kind n)
unfolding NoNumber
not_numbered s kind n h = λ number. absurd (let no : true ≡ false = sym number ∙ h in cc)

-- a symbol isn't cut as a number
symbol_numbered : (s : List ℕ) (pair single : Option Kind) → NoSymbol pair → NoSymbol single
    → Numbered s (longer_symbol pair single)
unfolding NoSymbol
symbol_numbered s (Some kind) single h k = not_numbered s kind 2 h
symbol_numbered s None (Some kind) h k = not_numbered s kind 1 k
symbol_numbered s None None h k = tt

-- nor is a word
word_numbered : (s : List ℕ) → Numbered s (word_front s)
word_numbered s =
    let n : ℕ = name_length s in
    cond_both (ltb NAME_LIMIT n) (fronts.Stop stops.BadToken) (fronts.Token (word_kind (take n s)) n) (Numbered s)
    (λ long. tt {0})
    (λ short. not_numbered s (word_kind (take n s)) n (word_no_number (take n s)))

-- a front of a text begins as the text does
begins_cut : (p : ℕ → Bool) (n : ℕ) (s : List ℕ) → 0 < n → begins p s ≡ true → begins p (take n s) ≡ true
begins_cut p n [] some h = absurd cc
begins_cut p zero (b ∷ s) some h = absurd (omega arith)
begins_cut p (suc n) (b ∷ s) some h = h

-- what is cut as a number is one
number_numbered : (s : List ℕ) → begins is_digit s ≡ true → Numbered s (number_front s)
number_numbered s h =
    let n : ℕ = number_length s in
    let fits : length (take n s) ≡ n = length-take-le n s (number_within s) in
    cond_both (begins is_name_byte (drop n s)) (fronts.Stop stops.BadToken) (fronts.Token kinds.Number n)
    (Numbered s) (λ letter. tt {0})
    (λ end number. (begins_cut is_digit n s (number_some s h) h, number_cut s ∙ sym fits))

-- so it is of whatever stands in front
front_numbered : (s : List ℕ) → Numbered s (front_of s)
unfolding front_of
front_numbered [] = tt
front_numbered (b ∷ s) =
    let text : List ℕ = b ∷ s in
    let comment : Front = fronts.Token kinds.Comment (comment_length text) in
    let from_slash : Front = cond (begins_comment text) comment (symbol_front text) in
    let from_digit : Front = cond (is_digit b) (number_front text) from_slash in
    let from_letter : Front = cond (is_letter b) (word_front text) from_digit in
    let allowed : Front = cond (not (is_allowed b)) (fronts.Stop stops.BadByte) from_letter in
    cond_both (is_blank b) fronts.Blank allowed (Numbered text) (λ blank. tt {0}) (λ not_blank.
    cond_both (not (is_allowed b)) (fronts.Stop stops.BadByte) from_letter (Numbered text) (λ bad. tt {0}) (λ good.
    cond_both (is_letter b) (word_front text) from_digit (Numbered text) (λ letter. word_numbered text) (λ no_letter.
    cond_both (is_digit b) (number_front text) from_slash (Numbered text) (number_numbered text) (λ no_digit.
    cond_both (begins_comment text) comment (symbol_front text) (Numbered text)
    (λ slashes number. absurd (let no : false ≡ true = number in cc))
    (λ no_comment. symbol_numbered text (first_pair text) (first_single text) (first_pair_no_number text)
    (single_no_number b))))))

-- ---- the tokens of a text

-- what stands in front, where it is a token, is cut from the text
cut_front_token : (p : Span) (s : List ℕ) (kind : Kind) (n : ℕ) → front_of s ≡ fronts.Token kind n
    → IsCut (record { kind = kind; text = take n s; at = p })
cut_front_token p s kind n e =
    let named : kind_eq kind kinds.Name ≡ true → is_name (take n s) ≡ true = rw e at (front_named s) in
    let numbered : kind_eq kind kinds.Number ≡ true → IsNumber (take n s) = rw e at (front_numbered s) in
    record {
      name = λ same. named (ap (λ (k : Kind). kind_eq k kinds.Name) same);
      number = λ same. numbered (ap (λ (k : Kind). kind_eq k kinds.Number) same);
    }

-- one turn more in front
turn_cut : (p : Span) (b : ℕ) (s : List ℕ) → ((k : ℕ) (q : Span) → AreCut (lexed k q s).tokens) → (front : Front)
    → front_of (b ∷ s) ≡ front
    → AreCut (lexed 0 p (b ∷ s)).tokens
turn_cut p b s rest fronts.Blank e = rw (blank_turn p b s e) (rest 0 (after_byte p b))
turn_cut p b s rest (fronts.Token kind n) e =
    rw (token_turn p b s kind n e) (cut_front_token p (b ∷ s) kind n e, rest (n - 1) (after_byte p b))
turn_cut p b s rest (fronts.Stop stop) e = rw (stop_turn p (b ∷ s) stop e) tt

-- from any place on, after any number of bytes
are_cut : (s : List ℕ) (k : ℕ) (p : Span) → AreCut (lexed k p s).tokens
unfolding lexed
are_cut [] k p = tt
are_cut (b ∷ s) zero p = turn_cut p b s (are_cut s) (front_of (b ∷ s)) refl
are_cut (b ∷ s) (suc k) p = are_cut s k (after_byte p b)

-- the tokens of a text are cut from it
pub tokens_are_cut : (text : List ℕ) → AreCut (cut_of text).tokens
tokens_are_cut text = are_cut text 0 begin
