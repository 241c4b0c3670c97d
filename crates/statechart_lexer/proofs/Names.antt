-- What is cut as a name is one.
use Rattle.std.proofs.Common.{◌≡◌, ℕ, zero, suc, ◌<◌, Bool, true, false, ◌&&◌, ◌||◌, List, [], ◌∷◌}
use Rattle.std.proofs.Common.{Option, Some, None, length, take, drop, refl, sym, ◌∙◌, cond, eqb, ltb, eq-eqb, not, arith}
use Rattle.std.specs.Str.{byte}
use Rattle.std.proofs.lemmas.Bool.{and_from, ltb-false, le-leb, cond_both}
use Rattle.std.proofs.lemmas.List.{get_or-take}
use Rattle.std.proofs.lemmas.List.Sums.{prefix_len_passes, prefix_len_is}
use Rattle.std.proofs.lemmas.List.Folds.{length-prefix_len}
use Rattle.token_grammar.specs.declared.token.Kind.{Kind}
use Rattle.token_grammar.specs.declared.token.Kind.TheVariants as kinds
use Rattle.token_grammar.specs.Token.{kind_eq}
use Rattle.chart_lexer.specs.declared.front.Stop.TheVariants as stops
use Rattle.chart_lexer.specs.Bytes.{is_blank, is_allowed, is_letter, is_digit, is_name_byte, begins}
use Rattle.chart_lexer.specs.Words.{name_length, is_name}
use Rattle.chart_lexer.specs.Words as core
use Rattle.chart_lexer.specs.Numbers.{number_length}
use Rattle.chart_lexer.specs.Symbols as core_symbols
use Rattle.chart_lexer.specs.Lex.{comment_length}
use Rattle.statechart_lexer.specs.declared.front.Front.{Front}
use Rattle.statechart_lexer.specs.declared.front.Front.TheVariants as fronts
use Rattle.statechart_lexer.specs.declared.words.Word.{Word}
use Rattle.statechart_lexer.specs.Words.{word_of, kind_with, word_kind}
use Rattle.statechart_lexer.specs.Symbols.{is_change, pair_kind, single_kind, first_pair, first_single}
use Rattle.statechart_lexer.specs.Comments.{begins_with, comment_rest}
use Rattle.statechart_lexer.specs.Lex.{token_of, word_front, number_front, comment_front, longer_symbol, symbol_front}
use Rattle.statechart_lexer.specs.Lex.{slash_front, front_of}

-- ---- symbols

-- the symbol, where there is one, is no name
abbrev NoName : Option Kind → Type 0
NoName None = Unit {0}
NoName (Some kind) = kind_eq kind kinds.Name ≡ false

-- of a symbol and of what else there is, either isn't a name
either_symbol : (test : Bool) (kind : Kind) (o : Option Kind) → kind_eq kind kinds.Name ≡ false → NoName o
    → NoName (cond test (Some kind) o)
either_symbol true kind o h rest = h
either_symbol false kind o h rest = rest

-- the symbols of two bytes
pair_no_name : (a b : ℕ) → NoName (pair_kind a b)
unfolding pair_kind core_symbols.pair_kind
pair_no_name a b =
    either_symbol (is_change a b) kinds.Chart _ refl
    (either_symbol (eqb a (byte "-") && eqb b (byte ">")) kinds.Arrow _ refl
    (either_symbol (eqb a (byte "=") && eqb b (byte "=")) kinds.EqualEqual _ refl
    (either_symbol (eqb a (byte "!") && eqb b (byte "=")) kinds.NotEqual _ refl
    (either_symbol (eqb a (byte "<") && eqb b (byte "=")) kinds.LessEqual _ refl
    (either_symbol (eqb a (byte ">") && eqb b (byte "=")) kinds.GreaterEqual _ refl
    (either_symbol (eqb a (byte "&") && eqb b (byte "&")) kinds.AndAnd _ refl
    (either_symbol (eqb a (byte "|") && eqb b (byte "|")) kinds.OrOr None refl
    tt)))))))

-- the symbols of one byte
single_no_name : (a : ℕ) → NoName (single_kind a)
unfolding single_kind core_symbols.single_kind
single_no_name a =
    either_symbol (eqb a (byte ".") || eqb a (byte "|")) kinds.Comment _ refl
    (either_symbol (eqb a (byte "{")) kinds.OpenBrace _ refl
    (either_symbol (eqb a (byte "}")) kinds.CloseBrace _ refl
    (either_symbol (eqb a (byte "[")) kinds.OpenBracket _ refl
    (either_symbol (eqb a (byte "]")) kinds.CloseBracket _ refl
    (either_symbol (eqb a (byte "(")) kinds.OpenParen _ refl
    (either_symbol (eqb a (byte ")")) kinds.CloseParen _ refl
    (either_symbol (eqb a (byte ";")) kinds.Semicolon _ refl
    (either_symbol (eqb a (byte ":")) kinds.Colon _ refl
    (either_symbol (eqb a (byte ",")) kinds.Comma _ refl
    (either_symbol (eqb a (byte "@")) kinds.At _ refl
    (either_symbol (eqb a (byte "=")) kinds.Assign _ refl
    (either_symbol (eqb a (byte "/")) kinds.Slash _ refl
    (either_symbol (eqb a (byte "+")) kinds.Plus _ refl
    (either_symbol (eqb a (byte "-")) kinds.Minus _ refl
    (either_symbol (eqb a (byte "*")) kinds.Star _ refl
    (either_symbol (eqb a (byte "<")) kinds.Less _ refl
    (either_symbol (eqb a (byte ">")) kinds.Greater _ refl
    (either_symbol (eqb a (byte "!")) kinds.Not None refl
    tt))))))))))))))))))

-- nor is the symbol of the first two bytes
first_pair_no_name : (s : List ℕ) → NoName (first_pair s)
first_pair_no_name [] = tt
first_pair_no_name (a ∷ []) = tt
first_pair_no_name (a ∷ b ∷ s) = pair_no_name a b

-- ---- what stands in front

-- the token, where it is one of kind Name, is a name
abbrev pub Named : List ℕ → Front → Type 0
Named s (fronts.Skip n) = Unit {0}
Named s (fronts.Token kind n m) = kind_eq kind kinds.Name ≡ true → is_name (take n s) ≡ true
Named s (fronts.Stop stop) = Unit {0}

-- a symbol isn't a name
longer_named : (s : List ℕ) (pair single : Option Kind) → NoName pair → NoName single
    → Named s (longer_symbol pair single)
longer_named s (Some kind) single h k = λ name. absurd (let no : true ≡ false = sym name ∙ h in cc)
longer_named s None (Some kind) h k = λ name. absurd (let no : true ≡ false = sym name ∙ k in cc)
longer_named s None None h k = tt

-- nor is `-` before another one
symbol_named : (b : ℕ) (s : List ℕ) → Named (b ∷ s) (symbol_front (b ∷ s))
symbol_named b s =
    cond_both (begins_with (byte "-") (byte "-") (b ∷ s)) (fronts.Token kinds.Minus 2 1)
    (longer_symbol (first_pair (b ∷ s)) (first_single (b ∷ s))) (Named (b ∷ s))
    (λ minuses name. absurd (let no : false ≡ true = name in cc))
    (λ other. longer_named (b ∷ s) (first_pair (b ∷ s)) (first_single (b ∷ s)) (first_pair_no_name (b ∷ s)) (single_no_name b))

-- a comment isn't a name
comment_named : (s : List ℕ) (o : Option ℕ) → Named s (comment_front o)
comment_named s None = tt
comment_named s (Some n) = tt

-- a comment or a symbol
slash_named : (b : ℕ) (s : List ℕ) → Named (b ∷ s) (slash_front (b ∷ s))
slash_named b s =
    let text : List ℕ = b ∷ s in
    let from_star : Front = cond (begins_with (byte "/") (byte "*") text) (comment_front (comment_rest (drop 2 text))) (symbol_front text) in
    cond_both (begins_with (byte "/") (byte "/") text) (fronts.Skip (comment_length text)) from_star (Named text)
    (λ line. tt {0})
    (λ no_line.
    cond_both (begins_with (byte "/") (byte "*") text) (comment_front (comment_rest (drop 2 text))) (symbol_front text) (Named text)
    (λ block. comment_named text (comment_rest (drop 2 text))) (λ symbol. symbol_named b s))

-- a number isn't a name
number_named : (s : List ℕ) → Named s (number_front s)
number_named s =
    cond_both (begins is_name_byte (drop (number_length s) s)) (fronts.Stop stops.BadToken)
    (token_of kinds.Number (number_length s)) (Named s)
    (λ letter. tt {0}) (λ end name. absurd (let no : false ≡ true = name in cc))

-- a run of name bytes in front of a text is one, to its end
run_whole : (s : List ℕ) → name_length (take (name_length s) s) ≡ length (take (name_length s) s)
run_whole s =
    let run : List ℕ = take (name_length s) s in
    let fits : length run ≡ name_length s = length-prefix_len is_name_byte s in
    prefix_len_is is_name_byte run (length run) 0 (omega arith)
    (λ k lt. let within : k < name_length s = omega arith in rw (get_or-take (name_length s) s k 0 within) (prefix_len_passes is_name_byte s k 0 within))
    (λ lt. absurd (omega arith))

-- a front of a text begins as the text does
begins-take : (p : ℕ → Bool) (n : ℕ) (s : List ℕ) → 0 < n → begins p s ≡ true → begins p (take n s) ≡ true
begins-take p n [] some h = absurd cc
begins-take p zero (b ∷ s) some h = absurd (omega arith)
begins-take p (suc n) (b ∷ s) some h = h

-- a word has a byte at least
name_length-first : (b : ℕ) (s : List ℕ) → is_letter b ≡ true → 0 < name_length (b ∷ s)
name_length-first b s h = rw h (omega arith)

-- what is no further word is of kind Name where a chart text says so
no_further : (o : Option Word) (kind : Kind) → kind_eq (kind_with o kind) kinds.Name ≡ true → kind_eq kind kinds.Name ≡ true
no_further None kind h = h
no_further (Some word) kind h = absurd (let no : false ≡ true = h in cc)

-- a word of kind Name is a name
word_named : (b : ℕ) (s : List ℕ) → is_letter b ≡ true → Named (b ∷ s) (word_front (b ∷ s))
word_named b s h =
    let w : List ℕ = b ∷ s in
    let n : ℕ = name_length w in
    cond_both (ltb 63 n) (fronts.Stop stops.BadToken) (token_of (word_kind (take n w)) n) (Named w) (λ long. tt {0})
    (λ short name.
    let fits : length (take n w) ≡ n = length-prefix_len is_name_byte w in
    and_from _ _
    (and_from _ _ (begins-take is_letter n w (name_length-first b s h) h) (eq-eqb _ _ (run_whole w)))
    (and_from _ _ (le-leb _ 63 (let e = ltb-false 63 n short in omega arith))
    (no_further (word_of (take n w)) (core.word_kind (take n w)) name)))

-- what is cut as a name is one
pub front_named : (s : List ℕ) → Named s (front_of s)
unfolding front_of
front_named [] = tt
front_named (b ∷ s) =
    let text : List ℕ = b ∷ s in
    let from_digit : Front = cond (is_digit b) (number_front text) (slash_front text) in
    let from_letter : Front = cond (is_letter b) (word_front text) from_digit in
    let allowed : Front = cond (not (is_allowed b)) (fronts.Stop stops.BadByte) from_letter in
    cond_both (is_blank b) (fronts.Skip 1) allowed (Named text) (λ blank. tt {0}) (λ not_blank.
    cond_both (not (is_allowed b)) (fronts.Stop stops.BadByte) from_letter (Named text) (λ bad. tt {0}) (λ good.
    cond_both (is_letter b) (word_front text) from_digit (Named text) (word_named b s) (λ no_letter.
    cond_both (is_digit b) (number_front text) (slash_front text) (Named text) (λ digit. number_named text)
    (λ no_digit. slash_named b s))))
