-- What stands in front of a text that begins with a word, a number or a symbol.
use Rattle.std.proofs.Common.{◌≡◌, ℕ, Bool, true, false, ◌&&◌, ◌||◌, not, List, [], ◌∷◌, ◌++◌, Option, Some, None}
use Rattle.std.proofs.Common.{length, take, drop, refl, ap, ◌∙◌, eqb, leb, arith}
use Rattle.std.specs.Prelude.{nat_eq, nat_le}
use Rattle.std.specs.Str.{byte}
use Rattle.std.proofs.lemmas.Bool.{not-true, and_parts, or_parts, eqb-true, leb-true}
use Rattle.std.proofs.lemmas.Bool.Decides.{nat_tests}
use Rattle.std.proofs.Math.Bool.{and-false}
use Rattle.std.proofs.Math.Seq.{take-append_seam, drop-append_seam}
use Rattle.token_grammar.specs.declared.token.Kind.{Kind}
use Rattle.token_grammar.specs.declared.token.Kind.TheVariants as kinds
use Rattle.token_grammar.specs.Token.{kind_eq}
use Rattle.token_grammar.proofs.Tokens.{kind_eq-true}
use Rattle.chart_lexer.specs.declared.words.TheConstants.{NAME_LIMIT}
use Rattle.chart_lexer.specs.declared.front.Front.TheVariants as fronts
use Rattle.chart_lexer.specs.Bytes.{is_blank, is_letter, is_digit, is_name_byte, begins}
use Rattle.chart_lexer.specs.Words.{name_length, word_kind}
use Rattle.chart_lexer.specs.Numbers.{number_length}
use Rattle.chart_lexer.specs.Symbols.{pair_kind, single_kind}
use Rattle.chart_lexer.specs.Lex.{number_front, symbol_front, begins_comment, front_of}
use Rattle.chart_lexer.proofs.Names.{word_first, word_front_is}
use Rattle.canonical_text.specs.Words.{IsNumber}
use Rattle.canonical_text.proofs.Runs.{run_ends}
use Rattle.canonical_text.proofs.NumberLengths.{Ends, number_behind}

-- ---- words

-- a letter, and name bytes to the end, at most NAME_LIMIT, of that kind
abbrev pub is_word : Kind → List ℕ → Bool
is_word k w =
    (begins is_letter w && nat_eq (name_length w) (length w))
    && (nat_le (length w) NAME_LIMIT && kind_eq (word_kind w) k)

-- a byte that is printed and no control byte
abbrev in_range : ℕ → Bool
in_range b = leb (byte " ") b && leb b (byte "~")

-- a digit separates no tokens
digit_blank : (b : ℕ) → is_digit b ≡ true → is_blank b ≡ false
digit_blank b h = grind (arith, nat_tests)

-- a digit is one of the allowed bytes
digit_in_range : (b : ℕ) → is_digit b ≡ true → in_range b ≡ true
digit_in_range b h = grind (arith, nat_tests)

-- a digit is no letter
digit_letter : (b : ℕ) → is_digit b ≡ true → is_letter b ≡ false
digit_letter b h = grind (arith, nat_tests)

-- a word with what ends it after it
pub word_in_front : (k : Kind) (w r : List ℕ) → is_word k w ≡ true → Ends r
    → front_of (w ++ r) ≡ fronts.Token k (length w)
word_in_front k [] r h e = absurd cc
word_in_front k (b ∷ s) r h e =
    let w : List ℕ = b ∷ s in
    let halves =
    and_parts (is_letter b && eqb (name_length w) (length w)) (leb (length w) NAME_LIMIT && kind_eq (word_kind w) k) h in
    let front = and_parts (is_letter b) (eqb (name_length w) (length w)) halves.0 in
    let back = and_parts (leb (length w) NAME_LIMIT) (kind_eq (word_kind w) k) halves.1 in
    let long : name_length (w ++ r) ≡ length w = run_ends is_name_byte w r e.word ∙ eqb-true _ _ front.1 in
    let all : take (length w) (w ++ r) ≡ w = take-append_seam w r in
    let kind : word_kind w ≡ k = kind_eq-true _ _ back.1 in
    word_first b (s ++ r) front.0 ∙ word_front_is (w ++ r) (length w) long (leb-true _ _ back.0)
    ∙ ap (λ (v : List ℕ). fronts.Token (word_kind v) (length w)) all ∙ ap (λ (j : Kind). fronts.Token j (length w)) kind

-- ---- numbers

-- a text that begins with a digit is cut as a number
number_first : (b : ℕ) (s : List ℕ) → is_digit b ≡ true → front_of (b ∷ s) ≡ number_front (b ∷ s)
unfolding front_of
number_first b s h = rw (digit_blank b h, digit_in_range b h, digit_letter b h, h) refl

-- a number with what ends it after it
pub number_in_front : (w r : List ℕ) → IsNumber w → Ends r → front_of (w ++ r) ≡ fronts.Token kinds.Number (length w)
number_in_front [] r h e = absurd (let no : false ≡ true = h.0 in cc)
number_in_front (b ∷ s) r h e =
    let w : List ℕ = b ∷ s in
    let long : number_length (w ++ r) ≡ length w = number_behind w r e ∙ h.1 in
    let behind : drop (length w) (w ++ r) ≡ r = drop-append_seam w r in
    let cut : number_front (w ++ r) ≡ fronts.Token kinds.Number (length w) = rw (long, behind, e.word) refl in
    number_first b (s ++ r) h.0 ∙ cut

-- ---- symbols

-- a byte that could belong to the symbol before it
abbrev pub is_second : ℕ → Bool
is_second b =
    nat_eq b (byte ">") ||
    (nat_eq b (byte "=") || (nat_eq b (byte "/") || (nat_eq b (byte "&") || nat_eq b (byte "|"))))

-- after a symbol: no such byte
pub record Plain (s : List ℕ) : Type 0 where
  pub first : begins is_second s ≡ false

-- a byte that begins neither a word nor a number
abbrev pub opens : ℕ → Bool
opens a = (not (is_blank a) && in_range a) && (not (is_letter a) && not (is_digit a))

-- the symbol of that kind
abbrev pub is_the : Kind → Option Kind → Bool
is_the k None = false
is_the k (Some j) = kind_eq j k

-- one or two bytes that are that symbol
abbrev pub is_symbol_of : Kind → List ℕ → Bool
is_symbol_of k [] = false
is_symbol_of k (a ∷ []) = opens a && is_the k (single_kind a)
is_symbol_of k (a ∷ c ∷ []) = opens a && (not (nat_eq a (byte "/")) && is_the k (pair_kind a c))
is_symbol_of k (a ∷ c ∷ d ∷ s) = false

-- the symbol of that kind is that kind
the_same : (k : Kind) (o : Option Kind) → is_the k o ≡ true → o ≡ Some k
the_same k None h = absurd cc
the_same k (Some j) h = ap (λ (i : Kind). Some i) (kind_eq-true j k h)

-- such a byte is none of these
pub record NoSecond (c : ℕ) : Type 0 where
  pub more : eqb c (byte ">") ≡ false
  pub equal : eqb c (byte "=") ≡ false
  pub slash : eqb c (byte "/") ≡ false
  pub and : eqb c (byte "&") ≡ false
  pub or : eqb c (byte "|") ≡ false

-- what is_second tells apart
no_second : (c : ℕ) → is_second c ≡ false → NoSecond c
no_second c h =
    let more = or_parts (eqb c (byte ">")) _ h in
    let equal = or_parts (eqb c (byte "=")) _ more.1 in
    let slash = or_parts (eqb c (byte "/")) _ equal.1 in
    let last = or_parts (eqb c (byte "&")) _ slash.1 in
    record { more = more.0; equal = equal.0; slash = slash.0; and = last.0; or = last.1 }

-- no symbol of two bytes ends in another byte
no_pair : (a c : ℕ) → NoSecond c → pair_kind a c ≡ None
unfolding pair_kind
no_pair a c h = rw (h.more, h.equal, h.and, h.or) (simp and-false)

-- the tests that a symbol's first byte fails
symbol_first : (a : ℕ) (s : List ℕ) → opens a ≡ true → begins_comment (a ∷ s) ≡ false
    → front_of (a ∷ s) ≡ symbol_front (a ∷ s)
unfolding front_of
symbol_first a s h single =
    let parts = and_parts (not (is_blank a) && in_range a) (not (is_letter a) && not (is_digit a)) h in
    let front = and_parts (not (is_blank a)) (in_range a) parts.0 in
    let back = and_parts (not (is_letter a)) (not (is_digit a)) parts.1 in
    rw (
      not-true (is_blank a) front.0,
      front.1,
      not-true (is_letter a) back.0,
      not-true
          (is_digit a) back.1,
      single,
    ) refl

-- a symbol with what is plain after it
pub symbol_in_front : (k : Kind) (w r : List ℕ) → is_symbol_of k w ≡ true → Plain r
    → front_of (w ++ r) ≡ fronts.Token k (length w)
symbol_in_front k [] r h e = absurd cc
symbol_in_front k (a ∷ []) [] h e =
    let parts = and_parts (opens a) (is_the k (single_kind a)) h in
    symbol_first a [] parts.0 (and-false (eqb a (byte "/"))) ∙ rw (the_same k (single_kind a) parts.1) refl
symbol_in_front k (a ∷ []) (c ∷ r) h e =
    let parts = and_parts (opens a) (is_the k (single_kind a)) h in
    let second = no_second c e.first in
    symbol_first a (c ∷ r) parts.0 (rw second.slash (and-false (eqb a (byte "/"))))
    ∙ rw (no_pair a c second, the_same k (single_kind a) parts.1) refl
symbol_in_front k (a ∷ c ∷ []) r h e =
    let parts = and_parts (opens a) (not (eqb a (byte "/")) && is_the k (pair_kind a c)) h in
    let both = and_parts (not (eqb a (byte "/"))) (is_the k (pair_kind a c)) parts.1 in
    symbol_first a (c ∷ r) parts.0 (rw (not-true (eqb a (byte "/")) both.0) refl)
    ∙ rw (the_same k (pair_kind a c) both.1) refl
symbol_in_front k (a ∷ c ∷ d ∷ w) r h e = absurd cc
