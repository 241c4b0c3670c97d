-- A text is a name exactly where it is cut as one.
use Rattle.std.proofs.Common.{◌≡◌, ℕ, zero, suc, ◌<◌, ◌≤◌, Bool, true, false, ◌&&◌, List, [], ◌∷◌}
use Rattle.std.proofs.Common.{Option, Some, None, length, take, drop, get_or, refl, sym, ap, ◌∙◌}
use Rattle.std.proofs.Common.{inl, inr, cond, eqb, leb, ltb, eq-eqb, not, ◌↔◌, IsTrue, arith}
use Rattle.std.specs.Str.{byte, IsAscii}
use Rattle.std.proofs.lemmas.Bool.{cases_Bool, eqb-true, leb-true, and_parts}
use Rattle.std.proofs.lemmas.Bool.{and_from, ltb-false, le-ltb, le-leb, cond_both}
use Rattle.std.proofs.lemmas.Bool.Decides.{nat_tests}
use Rattle.std.proofs.lemmas.List.{get_or-take}
use Rattle.std.proofs.lemmas.List.Sums.{prefix_len_passes, prefix_len_is}
use Rattle.std.proofs.lemmas.List.Folds.{length-prefix_len}
use Rattle.std.proofs.lemmas.Str.Ascii.{IsAscii-from_reads}
use Rattle.std.proofs.Math.Seq.{take-length}
use Rattle.token_grammar.specs.declared.token.Kind.{Kind}
use Rattle.token_grammar.specs.declared.token.Kind.TheVariants as kinds
use Rattle.token_grammar.specs.Token.{kind_eq}
use Rattle.token_grammar.proofs.Tokens.{kind_eq-true}
use Rattle.chart_lexer.specs.declared.front.Front.{Front}
use Rattle.chart_lexer.specs.declared.front.Front.TheVariants as fronts
use Rattle.chart_lexer.specs.declared.front.Stop.TheVariants as stops
use Rattle.chart_lexer.specs.Bytes.{is_blank, is_allowed, is_letter, is_digit, is_name_byte, begins}
use Rattle.chart_lexer.specs.Words.{name_length, word_kind, is_name}
use Rattle.chart_lexer.specs.Numbers.{number_length}
use Rattle.chart_lexer.specs.Symbols.{pair_kind, single_kind, first_pair, first_single}
use Rattle.chart_lexer.specs.Lex.{comment_length, begins_comment, longer_symbol, word_front}
use Rattle.chart_lexer.specs.Lex.{number_front, symbol_front, front_of, IsOneName}

-- a byte that passes a test isn't one that fails it
other_byte : (p : ℕ → Bool) (b c : ℕ) → p b ≡ true → p c ≡ false → eqb b c ≡ false
other_byte p b c passes fails =
    elim (cases_Bool (eqb b c)) [
      | inl same ↦ absurd (let e : p b ≡ p c = ap p (eqb-true b c same) in let no : true ≡ false = sym passes ∙ e ∙ fails in cc)
      | inr other ↦ other
    ]

-- a letter separates no tokens
pub letter_not_blank : (b : ℕ) → is_letter b ≡ true → is_blank b ≡ false
letter_not_blank b h =
    rw (other_byte is_letter b 32 h refl, other_byte is_letter b 10 h refl, other_byte is_letter b 9 h refl, other_byte is_letter b 13 h refl) refl

-- a letter is one of the allowed bytes
pub letter_in_range : (b : ℕ) → is_letter b ≡ true → (leb 32 b && leb b 126) ≡ true
letter_in_range b h =
    elim (cases_Bool (leb 97 b && leb b 122)) [
      | inl low ↦
          let parts = and_parts (leb 97 b) (leb b 122) low in
          let above = leb-true 97 b parts.0 in
          let below = leb-true b 122 parts.1 in
          and_from (leb 32 b) (leb b 126) (le-leb 32 b (omega arith)) (le-leb b 126 (omega arith))
      | inr high_only ↦
          let high : (leb 65 b && leb b 90) ≡ true = rw high_only at h in
          let parts = and_parts (leb 65 b) (leb b 90) high in
          let above = leb-true 65 b parts.0 in
          let below = leb-true b 90 parts.1 in
          and_from (leb 32 b) (leb b 126) (le-leb 32 b (omega arith)) (le-leb b 126 (omega arith))
    ]

-- a text that begins with a letter is cut as a word
pub word_first : (b : ℕ) (s : List ℕ) → is_letter b ≡ true → front_of (b ∷ s) ≡ word_front (b ∷ s)
unfolding front_of
word_first b s h = rw (letter_not_blank b h, letter_in_range b h, h) refl

-- a word of n bytes, which aren't too many
pub word_front_is : (w : List ℕ) (n : ℕ) → name_length w ≡ n → n ≤ 63
    → word_front w ≡ fronts.Token (word_kind (take n w)) n
word_front_is w n e short = rw (e, le-ltb 63 n short) refl

-- a name is cut as one
pub name_front : (w : List ℕ) → is_name w ≡ true → IsOneName w
name_front [] h = absurd cc
name_front (b ∷ s) h =
    let w : List ℕ = b ∷ s in
    let halves =
    and_parts (is_letter b && eqb (name_length w) (length w))
    (leb (length w) 63 && kind_eq (word_kind w) kinds.Name) h in
    let front = and_parts (is_letter b) (eqb (name_length w) (length w)) halves.0 in
    let back = and_parts (leb (length w) 63) (kind_eq (word_kind w) kinds.Name) halves.1 in
    let cut : word_front w ≡ fronts.Token (word_kind (take (length w) w)) (length w) =
    word_front_is w (length w) (eqb-true _ _ front.1) (leb-true _ _ back.0) in
    let name : word_kind w ≡ kinds.Name = kind_eq-true _ _ back.1 in
    let all : word_kind (take (length w) w) ≡ kinds.Name = ap word_kind (take-length w) ∙ name in
    word_first b s front.0 ∙ cut ∙ ap (λ (k : Kind). fronts.Token k (length w)) all

-- ---- the bytes of a name

-- a byte of a name is ASCII
name_byte_ascii : (b : ℕ) → is_name_byte b ≡ true → b < 128
name_byte_ascii b h = grind (arith, nat_tests)

-- a name is ASCII
pub name_ascii : (w : List ℕ) → is_name w ≡ true → IsAscii w
name_ascii w h =
    let halves =
    and_parts (begins is_letter w && eqb (name_length w) (length w))
    (leb (length w) 63 && kind_eq (word_kind w) kinds.Name) h in
    let front = and_parts (begins is_letter w) (eqb (name_length w) (length w)) halves.0 in
    let all : name_length w ≡ length w = eqb-true _ _ front.1 in
    IsAscii-from_reads w (name_length w) (omega arith)
    (λ k lt. name_byte_ascii (get_or w k 0) (prefix_len_passes is_name_byte w k 0 lt))

-- ---- and back

-- the symbol, where there is one, is no name
NoName : Option Kind → Type 0
NoName None = Unit {0}
NoName (Some kind) = kind_eq kind kinds.Name ≡ false

-- of a symbol and of what else there is, either isn't a name
either_symbol : (test : Bool) (kind : Kind) (o : Option Kind) → kind_eq kind kinds.Name ≡ false → NoName o
    → NoName (cond test (Some kind) o)
unfolding NoName
either_symbol true kind o h rest = h
either_symbol false kind o h rest = rest

-- what is no symbol isn't a name
no_symbol : NoName None
unfolding NoName
no_symbol = tt

-- the symbols of two bytes
pair_no_name : (a b : ℕ) → NoName (pair_kind a b)
unfolding pair_kind
pair_no_name a b =
    either_symbol (eqb a (byte "-") && eqb b (byte ">")) kinds.Arrow _ refl
    (either_symbol (eqb a (byte "=") && eqb b (byte "=")) kinds.EqualEqual _ refl
    (either_symbol (eqb a (byte "!") && eqb b (byte "=")) kinds.NotEqual _ refl
    (either_symbol (eqb a (byte "<") && eqb b (byte "=")) kinds.LessEqual _ refl
    (either_symbol (eqb a (byte ">") && eqb b (byte "=")) kinds.GreaterEqual _ refl
    (either_symbol (eqb a (byte "&") && eqb b (byte "&")) kinds.AndAnd _ refl
    (either_symbol (eqb a (byte "|") && eqb b (byte "|")) kinds.OrOr _ refl
    no_symbol))))))

-- the symbols of one byte
single_no_name : (a : ℕ) → NoName (single_kind a)
unfolding single_kind
single_no_name a =
    either_symbol (eqb a (byte "{")) kinds.OpenBrace _ refl
    (either_symbol (eqb a (byte "}")) kinds.CloseBrace _ refl
    (either_symbol (eqb a (byte "[")) kinds.OpenBracket _ refl
    (either_symbol (eqb a (byte "]")) kinds.CloseBracket _ refl
    (either_symbol (eqb a (byte "(")) kinds.OpenParen _ refl
    (either_symbol (eqb a (byte ")")) kinds.CloseParen _ refl
    (either_symbol (eqb a (byte ";")) kinds.Semicolon _ refl
    (either_symbol (eqb a (byte ":")) kinds.Colon _ refl
    (either_symbol (eqb a (byte ",")) kinds.Comma _ refl
    (either_symbol (eqb a (byte "@")) kinds.At _ refl
    (either_symbol (eqb a (byte "=")) kinds.Assign _ refl
    (either_symbol (eqb a (byte "/")) kinds.Slash _ refl
    (either_symbol (eqb a (byte "+")) kinds.Plus _ refl
    (either_symbol (eqb a (byte "-")) kinds.Minus _ refl
    (either_symbol (eqb a (byte "*")) kinds.Star _ refl
    (either_symbol (eqb a (byte "<")) kinds.Less _ refl
    (either_symbol (eqb a (byte ">")) kinds.Greater _ refl
    (either_symbol (eqb a (byte "!")) kinds.Not _ refl
    no_symbol)))))))))))))))))

-- the token, where it is one of kind Name, has only bytes of a name, and isn't a reserved word
abbrev pub Named : List ℕ → Front → Type 0
Named s fronts.Blank = Unit {0}
Named s (fronts.Token kind n) = kind_eq kind kinds.Name ≡ true → is_name (take n s) ≡ true
Named s (fronts.Stop stop) = Unit {0}

-- a symbol isn't a name
symbol_named : (s : List ℕ) (pair single : Option Kind) → NoName pair → NoName single
    → Named s (longer_symbol pair single)
unfolding NoName
symbol_named s (Some kind) single h k = λ name. absurd (let no : true ≡ false = sym name ∙ h in cc)
symbol_named s None (Some kind) h k = λ name. absurd (let no : true ≡ false = sym name ∙ k in cc)
symbol_named s None None h k = tt

-- nor is the symbol of the first two bytes
first_pair_no_name : (s : List ℕ) → NoName (first_pair s)
first_pair_no_name [] = no_symbol
first_pair_no_name (a ∷ []) = no_symbol
first_pair_no_name (a ∷ b ∷ s) = pair_no_name a b

-- a number isn't a name
number_named : (s : List ℕ) → Named s (number_front s)
number_named s =
    cond_both (begins is_name_byte (drop (number_length s) s)) (fronts.Stop stops.BadToken)
    (fronts.Token kinds.Number (number_length s)) (Named s)
    (λ letter. tt {0}) (λ end name. absurd (let no : false ≡ true = name in cc))

-- a run of name bytes in front of a text is one, to its end
run_whole : (s : List ℕ) → name_length (take (name_length s) s) ≡ length (take (name_length s) s)
run_whole s =
    let run : List ℕ = take (name_length s) s in
    let fits : length run ≡ name_length s = length-prefix_len is_name_byte s in
    prefix_len_is is_name_byte run (length run) 0 (omega arith)
    (λ k lt. let within : k < name_length s = omega arith in rw (get_or-take (name_length s) s k 0 within) (prefix_len_passes is_name_byte s k 0 within))
    (λ lt. absurd (omega arith))

-- a front of a text begins as the text does
begins-take : (p : ℕ → Bool) (n : ℕ) (s : List ℕ) → 0 < n → begins p s ≡ true → begins p (take n s) ≡ true
begins-take p n [] some h = absurd cc
begins-take p zero (b ∷ s) some h = absurd (omega arith)
begins-take p (suc n) (b ∷ s) some h = h

-- a word has a byte at least
name_length-first : (b : ℕ) (s : List ℕ) → is_letter b ≡ true → 0 < name_length (b ∷ s)
name_length-first b s h = rw h (omega arith)

-- a word of kind Name is a name
word_named : (b : ℕ) (s : List ℕ) → is_letter b ≡ true → Named (b ∷ s) (word_front (b ∷ s))
word_named b s h =
    let w : List ℕ = b ∷ s in
    let n : ℕ = name_length w in
    cond_both (ltb 63 n) (fronts.Stop stops.BadToken) (fronts.Token (word_kind (take n w)) n) (Named w) (λ long. tt {0})
    (λ short name.
    let fits : length (take n w) ≡ n = length-prefix_len is_name_byte w in
    and_from _ _
    (and_from _ _ (begins-take is_letter n w (name_length-first b s h) h) (eq-eqb _ _ (run_whole w)))
    (and_from _ _ (le-leb _ 63 (let e = ltb-false 63 n short in omega arith)) name))

-- what is cut as a name is one
pub front_named : (s : List ℕ) → Named s (front_of s)
unfolding front_of
front_named [] = tt
front_named (b ∷ s) =
    let text : List ℕ = b ∷ s in
    let comment : Front = fronts.Token kinds.Comment (comment_length text) in
    let from_slash : Front = cond (begins_comment text) comment (symbol_front text) in
    let from_digit : Front = cond (is_digit b) (number_front text) from_slash in
    let from_letter : Front = cond (is_letter b) (word_front text) from_digit in
    let allowed : Front = cond (not (is_allowed b)) (fronts.Stop stops.BadByte) from_letter in
    cond_both (is_blank b) fronts.Blank allowed (Named text) (λ blank. tt {0}) (λ not_blank.
    cond_both (not (is_allowed b)) (fronts.Stop stops.BadByte) from_letter (Named text) (λ bad. tt {0}) (λ good.
    cond_both (is_letter b) (word_front text) from_digit (Named text) (word_named b s) (λ no_letter.
    cond_both (is_digit b) (number_front text) from_slash (Named text) (λ digit. number_named text) (λ no_digit.
    cond_both (begins_comment text) comment (symbol_front text) (Named text)
    (λ slashes name. absurd (let no : false ≡ true = name in cc))
    (λ no_comment. symbol_named text (first_pair text) (first_single text) (first_pair_no_name text) (single_no_name b))))))

-- a text that is cut as one name is a name
pub name_back : (w : List ℕ) → IsOneName w → is_name w ≡ true
name_back w h =
    let there : kind_eq kinds.Name kinds.Name ≡ true → is_name (take (length w) w) ≡ true = rw h at (front_named w) in
    rw (take-length w) at (there refl)

-- both ways
pub one_name : (text : List ℕ) → IsTrue (is_name text) ↔ IsOneName text
one_name text = (name_front text, name_back text)
