-- No line ends inside a token.
use Rattle.std.proofs.Common.{◌≡◌, ℕ, zero, suc, ◌+◌, ◌<◌, Bool, true, false, ◌&&◌, List, []}
use Rattle.std.proofs.Common.{◌∷◌, Option, Some, None, take, drop, get_or, refl, sym, ap, ◌∙◌}
use Rattle.std.proofs.Common.{inl, inr, cond, eqb, ltb, ◌-◌, ◌≤◌, ◌⊎◌, not, nat_lt, arith}
use Rattle.std.specs.List.{prefix_len}
use Rattle.std.proofs.Math.Bool.{and-false}
use Rattle.std.proofs.lemmas.Bool.{cases_Bool, eqb-true, ltb-true, ltb-false}
use Rattle.std.proofs.lemmas.List.{get_or-drop}
use Rattle.std.proofs.lemmas.List.Sums.{prefix_len_passes}
use Rattle.token_grammar.specs.declared.token.Kind.{Kind}
use Rattle.token_grammar.specs.declared.token.Kind.TheVariants as kinds
use Rattle.chart_lexer.specs.declared.front.Front.{Front}
use Rattle.chart_lexer.specs.declared.front.Front.TheVariants as fronts
use Rattle.chart_lexer.specs.declared.front.Stop.TheVariants as stops
use Rattle.chart_lexer.specs.Bytes.{is_blank, is_allowed, is_letter, is_digit, is_name_byte, begins}
use Rattle.chart_lexer.specs.Words.{name_length, word_kind}
use Rattle.chart_lexer.specs.Numbers.{digits_length, fraction_length, scale_length, decimal_length, number_length}
use Rattle.chart_lexer.specs.Symbols.{pair_kind, single_kind}
use Rattle.chart_lexer.specs.Lex.{is_comment_byte, comment_length, begins_comment, longer_symbol}
use Rattle.chart_lexer.specs.Lex.{word_front, number_front, symbol_front, front_of}

-- no line ends in the first k bytes
abbrev pub OneLine : ℕ → List ℕ → Type 0
OneLine k s = (i : ℕ) → i < k → eqb (get_or s i 0) 10 ≡ false

-- what stands in front of the text, where it is a token, is on one line
abbrev pub Line : List ℕ → Front → Type 0
Line s fronts.Blank = Unit {0}
Line s (fronts.Token kind n) = OneLine n s
Line s (fronts.Stop stop) = Unit {0}

-- of two numbers, the first is below the second or not
lt_or_ge : (i n : ℕ) → (i < n) ⊎ (n ≤ i)
lt_or_ge i n = elim (cases_Bool (ltb i n)) [ inl lt ↦ inl (ltb-true i n lt) | inr ge ↦ inr (ltb-false i n ge) ]

-- what holds of both answers holds of the one that a test picks
either_way : {T : Type 0} (P : T → Type 0) (b : Bool) (x y : T) → P x → P y → P (cond b x y)
either_way P true x y p q = p
either_way P false x y p q = q

-- bytes that pass a test that the newline fails
run_line : (p : ℕ → Bool) (s : List ℕ) → p 10 ≡ false → OneLine (prefix_len p s) s
run_line p s none i lt =
    elim (cases_Bool (eqb (get_or s i 0) 10)) [
      | inl same ↦ absurd (let e = eqb-true (get_or s i 0) 10 same in let passes = prefix_len_passes p s i 0 lt in let there = rw e at passes in cc)
      | inr other ↦ other
    ]

-- one stretch after another
join_line : (n m : ℕ) (s : List ℕ) → OneLine n s → OneLine m (drop n s) → OneLine (n + m) s
join_line n m s front back i lt =
    elim (lt_or_ge i n) [
      | inl early ↦ front i early
      | inr late ↦
          let e : n + (i - n) ≡ i = omega arith in
          let there = back (i - n) (omega arith) in
          rw (ap (λ k. get_or s k 0) (sym e), ← get_or-drop n s (i - n) 0) there
    ]

-- a byte other than the newline, and a stretch after it
marked_line : (c : ℕ) (t : Bool) (n : ℕ) (b : ℕ) (s : List ℕ) → eqb c 10 ≡ false → OneLine n s
    → OneLine (cond (eqb b c && t) (n + 1) 0) (b ∷ s)
marked_line c t n b s apart rest =
    elim (cases_Bool (eqb b c)) [
      | inl same ↦
          let e = eqb-true b c same in
          rw same (either_way (λ (k : ℕ). OneLine k (b ∷ s)) t (n + 1) 0 (behind (rw e apart)) nothing)
      | inr other ↦ rw other nothing
    ]
  where
    nothing : OneLine 0 (b ∷ s)
    nothing i lt = absurd (omega arith)

    behind : eqb b 10 ≡ false → OneLine (n + 1) (b ∷ s)
    behind h zero lt = h
    behind h (suc i) lt = rest i (omega arith)

-- no line ends in no bytes
no_bytes : OneLine 0 []
no_bytes i lt = absurd (omega arith)

-- a point and digits
fraction_line : (s : List ℕ) → OneLine (fraction_length s) s
unfolding fraction_length
fraction_line [] = no_bytes
fraction_line (b ∷ s) = marked_line _ _ _ b s refl (run_line is_digit s refl)

-- `q` and digits
scale_line : (s : List ℕ) → OneLine (scale_length s) s
unfolding scale_length
scale_line [] = no_bytes
scale_line (b ∷ s) = marked_line _ _ _ b s refl (run_line is_digit s refl)

-- digits and a fraction
decimal_line : (s : List ℕ) → OneLine (decimal_length s) s
unfolding decimal_length
decimal_line s =
    join_line (digits_length s) (fraction_length (drop (digits_length s) s)) s (run_line is_digit s refl)
    (fraction_line (drop (digits_length s) s))

-- a decimal and a scale
number_line : (s : List ℕ) → OneLine (number_length s) s
unfolding number_length
number_line s =
    join_line (decimal_length s) (scale_length (drop (decimal_length s) s)) s (decimal_line s)
    (scale_line (drop (decimal_length s) s))

-- the newline is no symbol
single_newline : single_kind 10 ≡ None
unfolding single_kind
single_newline = refl

-- nor the first byte of one
pair_first_newline : (b : ℕ) → pair_kind 10 b ≡ None
unfolding pair_kind
pair_first_newline b = refl

-- nor the second
pair_second_newline : (a : ℕ) → pair_kind a 10 ≡ None
unfolding pair_kind
pair_second_newline a = simp and-false

-- a byte that is a symbol, where the newline is none, is no newline
no_newline : (f : ℕ → Option Kind) (a : ℕ) (kind : Kind) → f 10 ≡ None → Some kind ≡ f a → eqb a 10 ≡ false
no_newline f a kind none some =
    elim (cases_Bool (eqb a 10)) [
      | inl same ↦ absurd (let e : f a ≡ f 10 = ap f (eqb-true a 10 same) in let no : Some kind ≡ None = some ∙ e ∙ none in cc)
      | inr other ↦ other
    ]

-- one byte that is no newline
one_byte : (a : ℕ) (s : List ℕ) → eqb a 10 ≡ false → OneLine 1 (a ∷ s)
one_byte a s h zero lt = h
one_byte a s h (suc i) lt = absurd (omega arith)

-- two bytes that are none
two_bytes : (a b : ℕ) (s : List ℕ) → eqb a 10 ≡ false → eqb b 10 ≡ false → OneLine 2 (a ∷ b ∷ s)
two_bytes a b s h k zero lt = h
two_bytes a b s h k (suc zero) lt = k
two_bytes a b s h k (suc (suc i)) lt = absurd (omega arith)

-- a symbol of one byte
single_line : (a : ℕ) (s : List ℕ) (o : Option Kind) → o ≡ single_kind a → Line (a ∷ s) (longer_symbol None o)
single_line a s None e = tt
single_line a s (Some kind) e = one_byte a s (no_newline single_kind a kind single_newline e)

-- a symbol of two bytes
pair_line : (a b : ℕ) (s : List ℕ) (o : Option Kind) → o ≡ pair_kind a b
    → Line (a ∷ b ∷ s) (longer_symbol o (single_kind a))
pair_line a b s None e = single_line a (b ∷ s) (single_kind a) refl
pair_line a b s (Some kind) e =
    two_bytes a b s
    (no_newline (λ (z : ℕ). pair_kind z b) a kind (pair_first_newline b) e)
    (no_newline (λ (z : ℕ). pair_kind a z) b kind (pair_second_newline a) e)

-- a symbol
symbol_line : (s : List ℕ) → Line s (symbol_front s)
symbol_line [] = tt
symbol_line (a ∷ []) = single_line a [] (single_kind a) refl
symbol_line (a ∷ b ∷ s) = pair_line a b s (pair_kind a b) refl

-- a word
word_line : (s : List ℕ) → Line s (word_front s)
word_line s =
    either_way (Line s) (nat_lt 63 (name_length s)) (fronts.Stop stops.BadToken)
    (fronts.Token (word_kind (take (name_length s) s)) (name_length s))
    (tt {0}) (run_line is_name_byte s refl)

-- a number
digit_line : (s : List ℕ) → Line s (number_front s)
digit_line s =
    either_way (Line s) (begins is_name_byte (drop (number_length s) s)) (fronts.Stop stops.BadToken)
    (fronts.Token kinds.Number (number_length s))
    (tt {0}) (number_line s)

-- whatever stands in front
pub front_line : (s : List ℕ) → Line s (front_of s)
unfolding front_of
front_line [] = tt
front_line (b ∷ s) =
    let text : List ℕ = b ∷ s in
    let comment : Front = fronts.Token kinds.Comment (comment_length text) in
    let from_slash : Front = cond (begins_comment text) comment (symbol_front text) in
    let from_digit : Front = cond (is_digit b) (number_front text) from_slash in
    let from_letter : Front = cond (is_letter b) (word_front text) from_digit in
    let allowed : Front = cond (not (is_allowed b)) (fronts.Stop stops.BadByte) from_letter in
    either_way (Line text) (is_blank b) fronts.Blank allowed (tt {0})
    (either_way (Line text) (not (is_allowed b)) (fronts.Stop stops.BadByte) from_letter (tt {0})
    (either_way (Line text) (is_letter b) (word_front text) from_digit (word_line text)
    (either_way (Line text) (is_digit b) (number_front text) from_slash (digit_line text)
    (either_way (Line text) (begins_comment text) comment (symbol_front text) (run_line is_comment_byte text refl)
    (symbol_line text)))))
