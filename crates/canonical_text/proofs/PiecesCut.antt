-- Pieces that stay apart are cut into their words.
use Rattle.std.proofs.Common.{◌≡◌, ℕ, ◌-◌, Bool, true, false, ◌&&◌, not, List, [], ◌∷◌, ◌++◌, length, take, refl, ap}
use Rattle.std.proofs.Common.{◌∙◌, inl, inr, eqb, arith}
use Rattle.std.specs.Prelude.{nat_le}
use Rattle.std.specs.Str.{byte}
use Rattle.std.proofs.lemmas.Bool.{not-true, and_parts, and_from, or_cases}
use Rattle.std.proofs.lemmas.Bool.Decides.{nat_tests}
use Rattle.std.proofs.Math.Seq.{take-append_seam}
use Rattle.token_grammar.specs.declared.token.Kind.{Kind}
use Rattle.token_grammar.specs.declared.token.Kind.TheVariants as kinds
use Rattle.token_grammar.specs.declared.token.Span.{Span}
use Rattle.token_grammar.specs.Token.{kind_number}
use Rattle.token_grammar.proofs.Sets.{within}
use Rattle.chart_lexer.specs.declared.front.Front.TheVariants as fronts
use Rattle.chart_lexer.specs.declared.front.Stop.TheVariants as stops
use Rattle.chart_lexer.specs.Bytes.{is_blank, is_letter, is_digit, is_name_byte, begins}
use Rattle.chart_lexer.specs.Words.{word_kind, declaration_kind, statement_kind, mode_kind}
use Rattle.chart_lexer.specs.Symbols.{pair_kind, single_kind}
use Rattle.chart_lexer.specs.Lex.{Lexemes, front_of, lexed, after_byte, begin, cut_of}
use Rattle.chart_lexer.proofs.Cuts.{blank_turn, token_turn}
use Rattle.chart_print.specs.Pieces.{Piece, Token, Blank, kind_bytes, bytes_of}
use Rattle.canonical_text.specs.Words.{Word, words_of, words_in}
use Rattle.canonical_text.proofs.NumberLengths.{Ends}
use Rattle.canonical_text.proofs.Seams.{Seam, AfterBlank, AfterWord, AfterSymbol, is_wordy, is_symbol, is_merging}
use Rattle.canonical_text.proofs.Seams.{is_fixed, seam_of, Spelling, all_blank, Apart}
use Rattle.canonical_text.proofs.PieceFronts.{is_word, word_in_front, number_in_front, is_second, Plain}
use Rattle.canonical_text.proofs.PieceFronts.{is_symbol_of, symbol_in_front}

-- ---- keywords and symbols, each by computing

-- a keyword
abbrev is_keyword : Kind → Bool
is_keyword k = nat_le (kind_number k) 25

-- a keyword is a word of its kind
keyword_is_word : (k : Kind) → is_keyword k ≡ true → is_word k (kind_bytes k) ≡ true
unfolding kind_bytes word_kind declaration_kind statement_kind mode_kind
keyword_is_word k h = within is_keyword (λ j. is_word j (kind_bytes j)) refl k h

-- a keyword is written as a word
keyword_wordy : (k : Kind) → is_keyword k ≡ true → is_wordy k ≡ true
keyword_wordy k h = within is_keyword is_wordy refl k h

-- a symbol's bytes are that symbol
symbol_is : (k : Kind) → is_symbol k ≡ true → is_symbol_of k (kind_bytes k) ≡ true
unfolding kind_bytes pair_kind single_kind
symbol_is k h = within is_symbol (λ j. is_symbol_of j (kind_bytes j)) refl k h

-- a keyword or a symbol has a byte
fixed_some : (k : Kind) → is_fixed k ≡ true → begins (λ c. true) (kind_bytes k) ≡ true
unfolding kind_bytes
fixed_some k h = within is_fixed (λ j. begins (λ c. true) (kind_bytes j)) refl k h

-- a symbol has a byte
symbol_some : (k : Kind) → is_symbol k ≡ true → begins (λ c. true) (kind_bytes k) ≡ true
symbol_some k h = fixed_some k (within is_symbol is_fixed refl k h)

-- no symbol begins with a byte of a word, or with a point
abbrev ends_words : Kind → Bool
ends_words k = not (begins is_name_byte (kind_bytes k)) && not (begins (λ b. eqb b (byte ".")) (kind_bytes k))

-- a symbol ends the word before it
symbol_ends : (k : Kind) → is_symbol k ≡ true → ends_words k ≡ true
unfolding kind_bytes
symbol_ends k h = within is_symbol ends_words refl k h

-- a symbol isn't written as a word
symbol_not_wordy : (k : Kind) → is_symbol k ≡ true → not (is_wordy k) ≡ true
symbol_not_wordy k h = within is_symbol (λ j. not (is_wordy j)) refl k h

-- a symbol that doesn't merge begins with no second byte of a symbol
symbol_plain : (k : Kind) → (is_symbol k && not (is_merging k)) ≡ true → not (begins is_second (kind_bytes k)) ≡ true
unfolding kind_bytes
symbol_plain k h = within (λ j. is_symbol j && not (is_merging j)) (λ j. not (begins is_second (kind_bytes j))) refl k h

-- ---- what stands after a token

-- a front of bytes that has a byte begins the whole
begins_front : (p : ℕ → Bool) (a b : List ℕ) → begins (λ c. true) a ≡ true → begins p (a ++ b) ≡ begins p a
begins_front p [] b h = absurd cc
begins_front p (c ∷ a) b h = refl

-- where one test holds, another fails
begins_other : (p q : ℕ → Bool) (a b : List ℕ) → ((c : ℕ) → p c ≡ true → q c ≡ false) → begins p a ≡ true
    → begins q (a ++ b) ≡ false
begins_other p q [] b other h = absurd cc
begins_other p q (c ∷ a) b other h = other c h

-- a blank belongs to no word
blank_no_word : (c : ℕ) → is_blank c ≡ true → is_name_byte c ≡ false
blank_no_word c h = grind (arith, nat_tests)

-- a blank is no point
blank_no_point : (c : ℕ) → is_blank c ≡ true → eqb c (byte ".") ≡ false
blank_no_point c h = grind (arith, nat_tests)

-- a blank belongs to no symbol
blank_no_second : (c : ℕ) → is_blank c ≡ true → is_second c ≡ false
blank_no_second c h = grind (arith, nat_tests)

-- nor does a letter
letter_no_second : (c : ℕ) → is_letter c ≡ true → is_second c ≡ false
letter_no_second c h = grind (arith, nat_tests)

-- nor does a digit
digit_no_second : (c : ℕ) → is_digit c ≡ true → is_second c ≡ false
digit_no_second c h = grind (arith, nat_tests)

-- a word begins with a letter
word_letter : (k : Kind) (w : List ℕ) → is_word k w ≡ true → begins is_letter w ≡ true
word_letter k w h = (and_parts (begins is_letter w) _ (and_parts (begins is_letter w && _) _ h).0).0

-- what is no word is a symbol
symbol_here : (k : Kind) (b : List ℕ) → Spelling k b → not (is_wordy k) ≡ true
    → (is_symbol k ≡ true) × (b ≡ kind_bytes k)
symbol_here k b (inl h) no_word =
    elim (or_cases (is_keyword k) (is_symbol k) h.0) [
      | inl keyword ↦ absurd (let w = keyword_wordy k keyword in let bad : not true ≡ true = rw w at no_word in cc)
      | inr symbol ↦ (symbol, h.1)
    ]
symbol_here k b (inr (inl h)) no_word = absurd (let bad : false ≡ true = rw h.0 at no_word in cc)
symbol_here k b (inr (inr h)) no_word = absurd (let bad : false ≡ true = rw h.0 at no_word in cc)

-- after a word stand no more bytes of it
ends_of : (ps : List Piece) → Apart AfterWord ps → Ends (bytes_of ps)
unfolding bytes_of
ends_of [] h = record { word = refl; point = refl }
ends_of (Blank b ∷ ps) h = record {
  word = begins_other is_blank is_name_byte b (bytes_of ps) blank_no_word h.0;
  point = begins_other is_blank (λ c. eqb c (byte ".")) b (bytes_of ps) blank_no_point h.0;
}
ends_of (Token k b ∷ ps) h =
    let symbol = symbol_here k b h.0 h.1.0 in
    let ends = and_parts _ _ (symbol_ends k symbol.0) in
    let some = symbol_some k symbol.0 in
    record {
      word = rw symbol.1 (begins_front is_name_byte (kind_bytes k) (bytes_of ps) some ∙ not-true _ ends.0);
      point = rw symbol.1 (begins_front (λ c. eqb c (byte ".")) (kind_bytes k) (bytes_of ps) some ∙ not-true _ ends.1);
    }

-- after a symbol stands no byte that could belong to it
plain_of : (ps : List Piece) → Apart AfterSymbol ps → Plain (bytes_of ps)
unfolding bytes_of
plain_of [] h = record { first = refl }
plain_of (Blank b ∷ ps) h = record { first = begins_other is_blank is_second b (bytes_of ps) blank_no_second h.0 }
plain_of (Token k b ∷ ps) h = record { first = first b h.0 }
  where
    word : (k : Kind) (b : List ℕ) → is_word k b ≡ true → begins is_second (b ++ bytes_of ps) ≡ false
    word k b w = begins_other is_letter is_second b (bytes_of ps) letter_no_second (word_letter k b w)

    first : (b : List ℕ) → Spelling k b → begins is_second (b ++ bytes_of ps) ≡ false
    first b (inl s) =
        rw s.1 (elim (or_cases (is_keyword k) (is_symbol k) s.0) [
          | inl keyword ↦ word k (kind_bytes k) (keyword_is_word k keyword)
          | inr symbol ↦ begins_front is_second (kind_bytes k) (bytes_of ps) (symbol_some k symbol)
              ∙ not-true _ (symbol_plain k (and_from _ _ symbol h.1.0))
        ])
    first b (inr (inl s)) = word kinds.Name b s.1
    first b (inr (inr s)) = begins_other is_digit is_second b (bytes_of ps) digit_no_second s.1.0

-- ---- the token in front

-- what stands in front of pieces that begin with a token
token_in_front : (k : Kind) (b : List ℕ) (ps : List Piece) → Spelling k b → Apart (seam_of k) ps
    → front_of (b ++ bytes_of ps) ≡ fronts.Token k (length b)
token_in_front k b ps (inl s) h =
    rw s.1 (elim (or_cases (is_keyword k) (is_symbol k) s.0) [
      | inl keyword ↦ word_in_front k (kind_bytes k) (bytes_of ps) (keyword_is_word k keyword)
          (ends_of ps (rw (keyword_wordy k keyword) at h))
      | inr symbol ↦ symbol_in_front k (kind_bytes k) (bytes_of ps) (symbol_is k symbol)
          (plain_of ps (rw (not-true _ (symbol_not_wordy k symbol)) at h))
    ])
token_in_front k b ps (inr (inl s)) h =
    rw s.0 (word_in_front kinds.Name b (bytes_of ps) s.1 (ends_of ps (rw s.0 at h)))
token_in_front k b ps (inr (inr s)) h =
    rw s.0 (number_in_front b (bytes_of ps) s.1 (ends_of ps (rw s.0 at h)))

-- ---- the words of pieces

-- these are cut into the words of the pieces, and all of them
pub record CutsInto (ps : List Piece) (l : Lexemes) : Type 0 where
  pub words : words_of l.tokens ≡ words_in ps
  pub whole : l.stop ≡ stops.End

-- a blank in front is left out
blank_in_front : (c : ℕ) (s : List ℕ) → is_blank c ≡ true → front_of (c ∷ s) ≡ fronts.Blank
unfolding front_of
blank_in_front c s h = rw h refl

-- blanks are passed over
over_blanks : (ps : List Piece) (b t : List ℕ) → all_blank b ≡ true → ((q : Span) → CutsInto ps (lexed 0 q t))
    → (p : Span) → CutsInto ps (lexed 0 p (b ++ t))
over_blanks ps [] t h go p = go p
over_blanks ps (c ∷ b) t h go p =
    let parts = and_parts (is_blank c) (all_blank b) h in
    rw (blank_turn p c (b ++ t) (blank_in_front c (b ++ t) parts.0)) (over_blanks ps b t parts.1 go (after_byte p c))

-- the other bytes of a token are passed over
over_bytes : (ps : List Piece) (b t : List ℕ) → ((q : Span) → CutsInto ps (lexed 0 q t)) → (p : Span)
    → CutsInto ps (lexed (length b) p (b ++ t))
unfolding lexed
over_bytes ps [] t go p = go p
over_bytes ps (c ∷ b) t go p = over_bytes ps b t go (after_byte p c)

-- a token has a byte
spelling_some : (k : Kind) (b : List ℕ) → Spelling k b → begins (λ c. true) b ≡ true
spelling_some k b (inl s) = rw s.1 (fixed_some k s.0)
spelling_some k [] (inr (inl s)) = absurd (let bad : false ≡ true = s.1 in cc)
spelling_some k [] (inr (inr s)) = absurd (let bad : false ≡ true = s.1.0 in cc)
spelling_some k (c ∷ b) (inr s) = refl

-- a token is cut
over_token : (k : Kind) (ps : List Piece) (b t : List ℕ) → begins (λ c. true) b ≡ true
    → front_of (b ++ t) ≡ fronts.Token k (length b)
    → ((q : Span) → CutsInto ps (lexed 0 q t)) → (p : Span) → CutsInto (Token k b ∷ ps) (lexed 0 p (b ++ t))
over_token k ps [] t some front go p = absurd cc
over_token k ps (c ∷ b) t some front go p =
    let less : length (c ∷ b) - 1 ≡ length b = omega arith in
    let text : take (length (c ∷ b)) (c ∷ (b ++ t)) ≡ c ∷ b = take-append_seam (c ∷ b) t in
    let rest = over_bytes ps b t go (after_byte p c) in
    rw (token_turn p c (b ++ t) k (length (c ∷ b)) front, less, text) (record {
      words = ap (λ (w : List Word). record { kind = k; text = c ∷ b } ∷ w) rest.words;
      whole = rest.whole;
    })

-- pieces that stay apart are cut into their words
cuts_into : (ps : List Piece) (s : Seam) → Apart s ps → (p : Span) → CutsInto ps (lexed 0 p (bytes_of ps))
unfolding bytes_of lexed
cuts_into [] s h p = record { words = refl; whole = refl }
cuts_into (Blank b ∷ ps) s h p =
    let rest = over_blanks ps b (bytes_of ps) h.1.0 (cuts_into ps AfterBlank h.1.1) p in
    record { words = rest.words; whole = rest.whole }
cuts_into (Token k b ∷ ps) s h p =
    over_token k ps b (bytes_of ps) (spelling_some k b h.0) (token_in_front k b ps h.0 h.1.1)
    (cuts_into ps (seam_of k) h.1.1) p

-- a text is cut into the words of pieces
pub record WordsAreCut (text : List ℕ) (pieces : List Piece) : Type 0 where
  pub words : words_of (cut_of text).tokens ≡ words_in pieces
  pub whole : (cut_of text).stop ≡ stops.End

-- pieces that stay apart are cut into their words
pub words_cut : (ps : List Piece) → Apart AfterBlank ps → WordsAreCut (bytes_of ps) ps
words_cut ps h = let all = cuts_into ps AfterBlank h begin in record { words = all.words; whole = all.whole }
