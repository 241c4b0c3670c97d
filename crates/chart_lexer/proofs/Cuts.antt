-- Cutting a text from its front, as a loop does.
use Rattle.std.proofs.Common.{◌≡◌, ℕ, zero, suc, ◌+◌, ◌-◌, ◌≤◌, ◌<◌, List, [], ◌∷◌, ◌++◌, length, take, drop, get_or}
use Rattle.std.proofs.Common.{refl, sym, ap, ◌∙◌, append_assoc, add-one, add-zero, drop-cons, eqb, inl, inr, arith}
use Rattle.std.proofs.lemmas.Bool.{cases_Bool}
use Rattle.std.proofs.lemmas.List.{append-nil, length-drop, drop-drop}
use Rattle.std.proofs.Math.Seq.{take-length}
use Rattle.token_grammar.specs.declared.token.Kind.{Kind}
use Rattle.token_grammar.specs.declared.token.Span.{Span}
use Rattle.token_grammar.specs.Token.{Lexeme}
use Rattle.chart_lexer.specs.declared.front.Front.TheVariants as fronts
use Rattle.chart_lexer.specs.declared.front.Stop.{Stop}
use Rattle.chart_lexer.specs.Lex.{Lexemes, lexed, front_of, before, after_byte}
use Rattle.chart_lexer.proofs.Fronts.{OneLine, front_line}

-- these tokens, and then those
abbrev pub cut : List Lexeme → Lexemes → Lexemes
cut ts l = record { tokens = ts ++ l.tokens; stop = l.stop; at = l.at }

-- n columns to the right
abbrev pub right_of : Span → ℕ → Span
right_of p n = record { line = p.line; column = p.column + n }

-- ---- what is passed over

-- bytes on one line are passed over column by column
passed_over : (k : ℕ) (p : Span) (s : List ℕ) → k ≤ length s → OneLine k s
    → lexed k p s ≡ lexed 0 (right_of p k) (drop k s)
unfolding lexed
passed_over zero p s le one = rw add-zero refl
passed_over (suc k) p [] le one = absurd (omega arith)
passed_over (suc k) p (b ∷ s) le one =
    let here : after_byte p b ≡ right_of p 1 = rw (one 0 (omega arith)) refl in
    let rest = passed_over k (right_of p 1) s (omega arith) (λ i lt. one (suc i) (omega arith)) in
    let e : p.column + 1 + k ≡ p.column + suc k = omega arith in
    rw (here, rest, e) refl

-- ---- one turn

-- a blank byte is passed over
pub blank_turn : (p : Span) (b : ℕ) (s : List ℕ) → front_of (b ∷ s) ≡ fronts.Blank
    → lexed 0 p (b ∷ s) ≡ lexed 0 (after_byte p b) s
unfolding lexed
blank_turn p b s h = rw (h, lexed) refl

-- where no token begins, nothing more is cut
pub stop_turn : (p : Span) (s : List ℕ) (stop : Stop) → front_of s ≡ fronts.Stop stop
    → lexed 0 p s ≡ record { tokens = []; stop = stop; at = p }
unfolding lexed front_of
stop_turn p [] stop h = let e : stop ≡ _ = cc in rw e refl
stop_turn p (b ∷ s) stop h = rw (h, lexed) refl

-- a token is cut, and its other bytes are to be passed over
pub token_turn : (p : Span) (b : ℕ) (s : List ℕ) (kind : Kind) (n : ℕ) → front_of (b ∷ s) ≡ fronts.Token kind n
    → lexed 0 p (b ∷ s) ≡ before (record { kind = kind; text = take n (b ∷ s); at = p }) (lexed (n - 1) (after_byte p b) s)
unfolding lexed
token_turn p b s kind n h = rw (h, lexed) refl

-- the first of n bytes is passed over
pass_one : (n : ℕ) (p : Span) (b : ℕ) (d : List ℕ) → 0 < n → lexed (n - 1) (after_byte p b) d ≡ lexed n p (b ∷ d)
unfolding lexed
pass_one zero p b d some = absurd (omega arith)
pass_one (suc k) p b d some = let e : suc k - 1 ≡ k = omega arith in rw e refl

-- a token in front, and then what is after it
pub token_first : (p : Span) (s : List ℕ) (kind : Kind) (n : ℕ) → front_of s ≡ fronts.Token kind n → 0 < n
    → n ≤ length s
    → lexed 0 p s ≡ before (record { kind = kind; text = take n s; at = p }) (lexed 0 (right_of p n) (drop n s))
token_first p [] kind n h some within = absurd (omega arith)
token_first p (b ∷ s) kind n h some within =
    let one : OneLine n (b ∷ s) = rw h at (front_line (b ∷ s)) in
    let over = pass_one n p b s some ∙ passed_over n p (b ∷ s) within one in
    token_turn p b s kind n h ∙ ap (before (record { kind = kind; text = take n (b ∷ s); at = p })) over

-- ---- the loop

-- what is left begins with the byte at hand
drop_at : (s : List ℕ) (i : ℕ) → i < length s → drop i s ≡ get_or s i 0 ∷ drop (i + 1) s
drop_at s i lt = rw (add-one, drop-cons s i 0) refl

-- all of what is left
rest_of : (i : ℕ) (s : List ℕ) → take (length s - i) (drop i s) ≡ drop i s
rest_of i s = rw (← length-drop i s) (take-length (drop i s))

-- a token in front of the others is one after those so far
cut_before : (ts : List Lexeme) (t : Lexeme) (l : Lexemes) → cut ts (before t l) ≡ cut (ts ++ t ∷ []) l
cut_before ts t l =
    ap (λ (xs : List Lexeme). record { tokens = xs; stop = l.stop; at = l.at }) (sym (append_assoc ts (t ∷ []) l.tokens))

-- the loop at its end
pub at_stop : (ts : List Lexeme) (p : Span) (s : List ℕ) (i : ℕ) (stop : Stop) (total : Lexemes)
    → fronts.Stop stop ≡ front_of (take (length s - i) (drop i s))
    → cut ts (lexed 0 p (drop i s)) ≡ total → record { tokens = ts; stop = stop; at = p } ≡ total
at_stop ts p s i stop total h so_far =
    let there : front_of (drop i s) ≡ fronts.Stop stop = ap front_of (sym (rest_of i s)) ∙ sym h in
    let e : cut ts (lexed 0 p (drop i s)) ≡ cut ts (record { tokens = []; stop = stop; at = p }) =
    ap (cut ts) (stop_turn p (drop i s) stop there) in
    rw (append-nil ts) at (sym e ∙ so_far)

-- the loop after a blank byte
pub after_blank : (ts : List Lexeme) (p : Span) (s : List ℕ) (i : ℕ) (total : Lexemes) → i < length s
    → fronts.Blank ≡ front_of (take (length s - i) (drop i s))
    → cut ts (lexed 0 p (drop i s)) ≡ total → cut ts (lexed 0 (after_byte p (get_or s i 0)) (drop (i + 1) s)) ≡ total
after_blank ts p s i total lt h so_far =
    let there : front_of (get_or s i 0 ∷ drop (i + 1) s) ≡ fronts.Blank =
    ap front_of (sym (rest_of i s ∙ drop_at s i lt)) ∙ sym h in
    ap (cut ts) (sym (ap (lexed 0 p) (drop_at s i lt) ∙ blank_turn p (get_or s i 0) (drop (i + 1) s) there)) ∙ so_far

-- the loop after a token
pub after_token : (ts : List Lexeme) (p : Span) (s : List ℕ) (i : ℕ) (kind : Kind) (n : ℕ) (total : Lexemes)
    → fronts.Token kind n ≡ front_of (take (length s - i) (drop i s))
    → 0 < n → n ≤ length (take (length s - i) (drop i s)) → cut ts (lexed 0 p (drop i s)) ≡ total
    → cut (ts ++ record { kind = kind; text = take (i + n - i) (drop i s); at = p } ∷ []) (lexed 0 (right_of p n) (drop (i + n) s)) ≡ total
after_token ts p s i kind n total h some within so_far =
    let there : front_of (drop i s) ≡ fronts.Token kind n = ap front_of (sym (rest_of i s)) ∙ sym h in
    let fits : n ≤ length (drop i s) = rw (rest_of i s) at within in
    let first = token_first p (drop i s) kind n there some fits in
    let tok : Lexeme = record { kind = kind; text = take n (drop i s); at = p } in
    let all : cut (ts ++ tok ∷ []) (lexed 0 (right_of p n) (drop n (drop i s))) ≡ total =
    sym (cut_before ts tok (lexed 0 (right_of p n) (drop n (drop i s)))) ∙ ap (cut ts) (sym first) ∙ so_far in
    let e : i + n - i ≡ n = omega arith in
    rw (e, ← drop-drop n i s) all

-- a byte ends a line at most
pub next_line : (p q : Span) (b i : ℕ) → q ≡ after_byte p b → p.line ≤ i + 1 → q.line ≤ i + 1 + 1
next_line p q b i e le =
    rw e (elim (cases_Bool (eqb b 10)) [
      | inl newline ↦ rw newline (omega arith)
      | inr other ↦ rw other (omega arith)
    ])

-- a byte is a column at most
pub next_column : (p q : Span) (b i : ℕ) → q ≡ after_byte p b → p.column ≤ i + 1 → q.column ≤ i + 1 + 1
next_column p q b i e le =
    rw e (elim (cases_Bool (eqb b 10)) [
      | inl newline ↦ rw newline (omega arith)
      | inr other ↦ rw other (omega arith)
    ])
