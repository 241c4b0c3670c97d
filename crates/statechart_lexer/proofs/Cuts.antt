-- Cutting a text from its front, as a loop does.
use Rattle.std.proofs.Common.{◌≡◌, ℕ, zero, suc, ◌+◌, ◌-◌, ◌≤◌, ◌<◌, List, [], ◌∷◌, ◌++◌, length, take, drop, get_or}
use Rattle.std.proofs.Common.{refl, sym, ap, ◌∙◌, append_assoc, add-one, drop-cons, eqb, inl, inr, arith}
use Rattle.std.proofs.lemmas.Bool.{cases_Bool}
use Rattle.std.proofs.lemmas.List.{append-nil, length-drop, drop-drop}
use Rattle.std.proofs.Math.Seq.{take-length}
use Rattle.token_grammar.specs.declared.token.Kind.{Kind}
use Rattle.token_grammar.specs.declared.token.Span.{Span}
use Rattle.token_grammar.specs.Token.{Lexeme}
use Rattle.chart_lexer.specs.declared.front.Stop.{Stop}
use Rattle.chart_lexer.specs.Lex.{Lexemes, before, after_byte}
use Rattle.chart_lexer.proofs.Cuts.{cut}
use Rattle.statechart_lexer.specs.declared.front.Front.TheVariants as fronts
use Rattle.statechart_lexer.specs.Lex.{lexed, front_of, after_bytes}

-- ---- what is passed over

-- bytes are passed over one by one
passed_over : (k : ℕ) (p : Span) (s : List ℕ) → k ≤ length s
    → lexed k p s ≡ lexed 0 (after_bytes p (take k s)) (drop k s)
unfolding lexed after_bytes
passed_over zero p s le = refl
passed_over (suc k) p [] le = absurd (omega arith)
passed_over (suc k) p (b ∷ s) le = passed_over k (after_byte p b) s (omega arith)

-- the first of n bytes is passed over
pass_one : (n : ℕ) (p : Span) (b : ℕ) (d : List ℕ) → 0 < n → lexed (n - 1) (after_byte p b) d ≡ lexed n p (b ∷ d)
unfolding lexed
pass_one zero p b d some = absurd (omega arith)
pass_one (suc k) p b d some = let e : suc k - 1 ≡ k = omega arith in rw e refl

-- and so are all of them
pass_all : (n : ℕ) (p : Span) (b : ℕ) (d : List ℕ) → 0 < n → n ≤ length (b ∷ d)
    → lexed (n - 1) (after_byte p b) d ≡ lexed 0 (after_bytes p (take n (b ∷ d))) (drop n (b ∷ d))
pass_all n p b d some within = pass_one n p b d some ∙ passed_over n p (b ∷ d) within

-- ---- one turn

-- blank bytes and comments are passed over
pub skip_turn : (p : Span) (b : ℕ) (s : List ℕ) (n : ℕ) → front_of (b ∷ s) ≡ fronts.Skip n
    → lexed 0 p (b ∷ s) ≡ lexed (n - 1) (after_byte p b) s
unfolding lexed
skip_turn p b s n h = rw (h, lexed) refl

-- where no token begins, nothing more is cut
pub stop_turn : (p : Span) (s : List ℕ) (stop : Stop) → front_of s ≡ fronts.Stop stop
    → lexed 0 p s ≡ record { tokens = []; stop = stop; at = p }
unfolding lexed front_of
stop_turn p [] stop h = let e : stop ≡ _ = cc in rw e refl
stop_turn p (b ∷ s) stop h = rw (h, lexed) refl

-- a token is cut, and its other bytes are to be passed over
pub token_turn : (p : Span) (b : ℕ) (s : List ℕ) (kind : Kind) (n m : ℕ) → front_of (b ∷ s) ≡ fronts.Token kind n m
    → lexed 0 p (b ∷ s) ≡ before (record { kind = kind; text = take n (b ∷ s); at = p }) (lexed (m - 1) (after_byte p b) s)
unfolding lexed
token_turn p b s kind n m h = rw (h, lexed) refl

-- what is passed over, and then what is after it
skip_first : (p : Span) (s : List ℕ) (n : ℕ) → front_of s ≡ fronts.Skip n → 0 < n → n ≤ length s
    → lexed 0 p s ≡ lexed 0 (after_bytes p (take n s)) (drop n s)
skip_first p [] n h some within = absurd (omega arith)
skip_first p (b ∷ s) n h some within = skip_turn p b s n h ∙ pass_all n p b s some within

-- a token in front, and then what is after it
token_first : (p : Span) (s : List ℕ) (kind : Kind) (n m : ℕ) → front_of s ≡ fronts.Token kind n m → 0 < m
    → m ≤ length s
    → lexed 0 p s
    ≡ before (record { kind = kind; text = take n s; at = p }) (lexed 0 (after_bytes p (take m s)) (drop m s))
token_first p [] kind n m h some within = absurd (omega arith)
token_first p (b ∷ s) kind n m h some within =
    token_turn p b s kind n m h
    ∙ ap (before (record { kind = kind; text = take n (b ∷ s); at = p })) (pass_all m p b s some within)

-- ---- the loop

-- all of what is left
pub rest_of : (i : ℕ) (s : List ℕ) → take (length s - i) (drop i s) ≡ drop i s
rest_of i s = rw (← length-drop i s) (take-length (drop i s))

-- one token more in front
cut_before : (ts : List Lexeme) (t : Lexeme) (l : Lexemes) → cut ts (before t l) ≡ cut (ts ++ t ∷ []) l
cut_before ts t l =
    ap (λ (xs : List Lexeme). record { tokens = xs; stop = l.stop; at = l.at }) (sym (append_assoc ts (t ∷ []) l.tokens))

-- the loop at its end
pub at_stop : (ts : List Lexeme) (p : Span) (s : List ℕ) (i : ℕ) (stop : Stop) (total : Lexemes)
    → fronts.Stop stop ≡ front_of (take (length s - i) (drop i s))
    → cut ts (lexed 0 p (drop i s)) ≡ total → record { tokens = ts; stop = stop; at = p } ≡ total
at_stop ts p s i stop total h so_far =
    let there : front_of (drop i s) ≡ fronts.Stop stop = ap front_of (sym (rest_of i s)) ∙ sym h in
    let e : cut ts (lexed 0 p (drop i s)) ≡ cut ts (record { tokens = []; stop = stop; at = p }) =
    ap (cut ts) (stop_turn p (drop i s) stop there) in
    rw (append-nil ts) at (sym e ∙ so_far)

-- the loop after what is passed over
pub after_skip : (ts : List Lexeme) (p : Span) (s : List ℕ) (i n : ℕ) (total : Lexemes)
    → fronts.Skip n ≡ front_of (take (length s - i) (drop i s))
    → 0 < n → n ≤ length (take (length s - i) (drop i s)) → cut ts (lexed 0 p (drop i s)) ≡ total
    → cut ts (lexed 0 (after_bytes p (take (i + n - i) (drop i s))) (drop (i + n) s)) ≡ total
after_skip ts p s i n total h some within so_far =
    let there : front_of (drop i s) ≡ fronts.Skip n = ap front_of (sym (rest_of i s)) ∙ sym h in
    let fits : n ≤ length (drop i s) = rw (rest_of i s) at within in
    let all : cut ts (lexed 0 (after_bytes p (take n (drop i s))) (drop n (drop i s))) ≡ total =
    ap (cut ts) (sym (skip_first p (drop i s) n there some fits)) ∙ so_far in
    let e : i + n - i ≡ n = omega arith in
    rw (e, ← drop-drop n i s) all

-- the loop after a token
pub after_token : (ts : List Lexeme) (p : Span) (s : List ℕ) (i : ℕ) (kind : Kind) (n m : ℕ) (total : Lexemes)
    → fronts.Token kind n m ≡ front_of (take (length s - i) (drop i s))
    → 0 < m → m ≤ length (take (length s - i) (drop i s)) → cut ts (lexed 0 p (drop i s)) ≡ total
    → cut (ts ++ record { kind = kind; text = take (i + n - i) (drop i s); at = p } ∷ [])
    (lexed 0 (after_bytes p (take (i + m - i) (drop i s))) (drop (i + m) s))
    ≡ total
after_token ts p s i kind n m total h some within so_far =
    let there : front_of (drop i s) ≡ fronts.Token kind n m = ap front_of (sym (rest_of i s)) ∙ sym h in
    let fits : m ≤ length (drop i s) = rw (rest_of i s) at within in
    let tok : Lexeme = record { kind = kind; text = take n (drop i s); at = p } in
    let rest : Lexemes = lexed 0 (after_bytes p (take m (drop i s))) (drop m (drop i s)) in
    let all : cut (ts ++ tok ∷ []) rest ≡ total =
    sym (cut_before ts tok rest) ∙ ap (cut ts) (sym (token_first p (drop i s) kind n m there some fits)) ∙ so_far in
    let e : i + n - i ≡ n = omega arith in
    let d : i + m - i ≡ m = omega arith in
    rw (e, d, ← drop-drop m i s) all

-- ---- places

-- what is left begins with the byte at hand
pub drop_at : (s : List ℕ) (i : ℕ) → i < length s → drop i s ≡ get_or s i 0 ∷ drop (i + 1) s
drop_at s i lt = rw (add-one, drop-cons s i 0) refl

-- one byte more
pub next_place : (p q total : Span) (s : List ℕ) (i : ℕ) → i < length s → q ≡ after_byte p (get_or s i 0)
    → after_bytes p (drop i s) ≡ total → after_bytes q (drop (i + 1) s) ≡ total
unfolding after_bytes
next_place p q total s i lt e so_far = rw e (ap (after_bytes p) (sym (drop_at s i lt)) ∙ so_far)

-- no byte more
pub last_place : (p total : Span) (s : List ℕ) (i : ℕ) → length s ≤ i → after_bytes p (drop i s) ≡ total → p ≡ total
unfolding after_bytes
last_place p total s i ge so_far = let e : drop i s ≡ [] = none s i ge in rw e at so_far
  where
    none : (s : List ℕ) (i : ℕ) → length s ≤ i → drop i s ≡ []
    none [] zero le = refl
    none [] (suc i) le = refl
    none (b ∷ s) zero le = absurd (omega arith)
    none (b ∷ s) (suc i) le = none s i (omega arith)

-- a byte ends a line at most
pub next_line : (p q : Span) (b k : ℕ) → q ≡ after_byte p b → p.line ≤ k → q.line ≤ k + 1
next_line p q b k e le =
    rw e (elim (cases_Bool (eqb b 10)) [
      | inl newline ↦ rw newline (omega arith)
      | inr other ↦ rw other (omega arith)
    ])

-- a byte is a column at most
pub next_column : (p q : Span) (b k : ℕ) → q ≡ after_byte p b → p.column ≤ k → 1 ≤ k → q.column ≤ k + 1
next_column p q b k e le some =
    rw e (elim (cases_Bool (eqb b 10)) [
      | inl newline ↦ rw newline (omega arith)
      | inr other ↦ rw other (omega arith)
    ])

-- a column is never 0
pub next_some : (p q : Span) (b : ℕ) → q ≡ after_byte p b → 1 ≤ p.column → 1 ≤ q.column
next_some p q b e some =
    rw e (elim (cases_Bool (eqb b 10)) [
      | inl newline ↦ rw newline (omega arith)
      | inr other ↦ rw other (omega arith)
    ])
