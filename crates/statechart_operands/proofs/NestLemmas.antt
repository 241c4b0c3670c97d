-- How deep operands are nested.
use Rattle.std.proofs.Common.{◌≡◌, ℕ, zero, suc, ◌+◌, ◌-◌, ◌<◌, Bool, true, false, List, [], ◌∷◌, Ok, Err}
use Rattle.std.proofs.Common.{Option, Some, None, refl, sym, ap, ◌∙◌, arith}
use Rattle.flow_base.specs.declared.chart_limits.TheConstants.{OPERATOR_LIMIT}
use Rattle.token_grammar.specs.declared.token.Kind.TheVariants as kinds
use Rattle.token_grammar.specs.declared.fault.TokenFault.{TokenFault}
use Rattle.token_grammar.specs.declared.fault.TokenFault.TheVariants as faults
use Rattle.token_grammar.specs.declared.fault.Thing.TheVariants as things
use Rattle.token_grammar.specs.declared.fault.ReadError.{ReadError}
use Rattle.token_grammar.specs.declared.fault.ReadError.TheVariants as errors
use Rattle.token_grammar.specs.Token.{Lexeme, Outcome, Fails}
use Rattle.token_grammar.specs.Grammar.{heads, is, token, first_refused, unless_refused}
use Rattle.token_grammar.proofs.Allowed.{refused_always}
use Rattle.chart_tree.specs.declared.name.NameText.{NameText}
use Rattle.chart_grammar.specs.Limits.{Limits, usual, one_more}
use Rattle.chart_grammar.specs.Expressions.{sign_heads}
use Rattle.statechart_lexer.specs.declared.words.Word.{Word}
use Rattle.statechart_lexer.specs.declared.words.Word.TheVariants as words
use Rattle.statechart_lexer.specs.Words.{word_of}
use Rattle.statechart_tree.specs.declared.expr.TimeWord.{TimeWord}
use Rattle.statechart_grammar.specs.Words.{time_of}
use Rattle.statechart_tokens.proofs.WordLemmas.{value_or}
use Rattle.statechart_grammar.specs.Expressions.{Operands, Operand, signed, parens, call, unary_over, unary}
use Rattle.statechart_grammar.specs.Expressions.{temporal_refused, temporal, asked, counted, datum, named, literal}
use Rattle.chart_grammar.specs.Words.{name}

-- nothing is nested at depth 0
pub unary_deepest : (l : Limits) (d n : ℕ) (s : List Lexeme) → d ≡ 0 → (unary l d n).reads s ≡ (unary l 0 n).reads s
unary_deepest l d n s e = ap (λ (k : ℕ). (unary l k n).reads s) e

-- above it operands are nested one level less deep
pub unary_nesting : (l : Limits) (d n : ℕ) (s : List Lexeme) → 0 < d
    → (unary l d n).reads s ≡ (unary_over l false (unary l (d - 1)) n).reads s
unfolding unary
unary_nesting l zero n s e = absurd (omega arith)
unary_nesting l (suc d) n s e = let less : suc d - 1 ≡ d = omega arith in rw less refl

-- what is said of one too many
abbrev pub too_many : {X : Type 0} → List Lexeme → Outcome X
too_many s = Err (faults.TooMany things.Operators, s)

-- at the bottom there is no sign
pub no_sign : (l : Limits) (inner : Operands) (n : ℕ) (s : List Lexeme) → heads sign_heads s ≡ true
    → (signed l true inner n).reads s ≡ too_many s
unfolding signed
no_sign l inner n s here = rw (refused_always sign_heads (Some (faults.TooMany things.Operators)) s, here) refl

-- nor parentheses
pub no_parens : (l : Limits) (inner : Operands) (n : ℕ) (s : List Lexeme) → heads (is kinds.OpenParen) s ≡ true
    → (parens l true inner n).reads s ≡ too_many s
unfolding parens
no_parens l inner n s here =
    rw (refused_always (is kinds.OpenParen) (Some (faults.TooMany things.Operators)) s, here) refl

-- nor a call
pub no_call : (l : Limits) (inner : Operands) (name : NameText) (n : ℕ) (s : List Lexeme)
    → heads (is kinds.OpenParen) s ≡ true → (call l true inner name n).reads s ≡ too_many s
unfolding call
no_call l inner name n s here =
    rw (refused_always (is kinds.OpenParen) (Some (faults.TooMany things.Operators)) s, here) refl

-- ---- temporal words

-- a token that was taken wasn't refused
pub not_refused : (said : Option TokenFault) (s : List Lexeme) (read : Outcome Lexeme) (t : Lexeme) (r : List Lexeme)
    → unless_refused said s read ≡ Ok (t, r) → said ≡ None
not_refused None s read t r e = refl
not_refused (Some f) s read t r e = absurd cc

-- it is the first of the tokens
first_taken : (u t : Lexeme) (s r : List Lexeme) → (token kinds.Tick).reads (u ∷ s) ≡ Ok (t, r)
    → (is kinds.Tick u.kind ≡ true) × (u ≡ t)
unfolding token
first_taken u t s r e = by_kind (is kinds.Tick u.kind) refl
  where
    by_kind : (b : Bool) → is kinds.Tick u.kind ≡ b → (is kinds.Tick u.kind ≡ true) × (u ≡ t)
    by_kind true h = let read = rw h at e in let same : u ≡ t = ap (value_or u) read in (h, same)
    by_kind false h = let read = rw h at e in absurd cc

-- at the bottom none of them has a count
no_count : (n : ℕ) (t : Lexeme) (word : Option Word) → word_of t.text ≡ word
    → temporal_refused usual true n t ≡ None → time_of word ≡ None
no_count n t None e h = refl
no_count n t (Some words.Statechart) e h = refl
no_count n t (Some words.Constant) e h = refl
no_count n t (Some words.Enum) e h = refl
no_count n t (Some words.Function) e h = refl
no_count n t (Some words.Clock) e h = refl
no_count n t (Some words.On) e h = refl
no_count n t (Some words.After) e h = let bad = rw e at h in absurd cc
no_count n t (Some words.Before) e h = let bad = rw e at h in absurd cc
no_count n t (Some words.At) e h = let bad = rw e at h in absurd cc
no_count n t (Some words.Every) e h = refl
no_count n t (Some words.TemporalCount) e h = refl

-- so where one was taken
pub deepest_word : (n : ℕ) (s : List Lexeme) (t : Lexeme) (r : List Lexeme)
    → first_refused (is kinds.Tick) (temporal_refused usual true n) s ≡ None
    → (token kinds.Tick).reads s ≡ Ok (t, r) → time_of (word_of t.text) ≡ None
unfolding token
deepest_word n [] t r h e = absurd cc
deepest_word n (u ∷ s) t r h e =
    let first = first_taken u t s r e in
    let said = rw first.0 at h in
    rw (sym first.1) (no_count n u (word_of u.text) refl said)

-- where one more isn't refused, there are few so far
few_operators : (n : ℕ) → one_more usual things.Operators n ≡ None → n < OPERATOR_LIMIT
few_operators n h = grind arith

-- elsewhere there is room for one with a count
counts_room : (n : ℕ) (t : Lexeme) (word : Option Word) (time : TimeWord) → word_of t.text ≡ word
    → temporal_refused usual false n t ≡ None → time_of word ≡ Some time → n < OPERATOR_LIMIT
counts_room n t None time e h is_time = absurd cc
counts_room n t (Some words.Statechart) time e h is_time = absurd cc
counts_room n t (Some words.Constant) time e h is_time = absurd cc
counts_room n t (Some words.Enum) time e h is_time = absurd cc
counts_room n t (Some words.Function) time e h is_time = absurd cc
counts_room n t (Some words.Clock) time e h is_time = absurd cc
counts_room n t (Some words.On) time e h is_time = absurd cc
counts_room n t (Some words.After) time e h is_time = few_operators n (rw e at h)
counts_room n t (Some words.Before) time e h is_time = few_operators n (rw e at h)
counts_room n t (Some words.At) time e h is_time = few_operators n (rw e at h)
counts_room n t (Some words.Every) time e h is_time = absurd cc
counts_room n t (Some words.TemporalCount) time e h is_time = absurd cc

-- so where one was taken
pub word_room : (n : ℕ) (s : List Lexeme) (t : Lexeme) (r : List Lexeme) (time : TimeWord)
    → first_refused (is kinds.Tick) (temporal_refused usual false n) s ≡ None
    → (token kinds.Tick).reads s ≡ Ok (t, r) → time_of (word_of t.text) ≡ Some time → n < OPERATOR_LIMIT
unfolding token
word_room n [] t r time h e is_time = absurd cc
word_room n (u ∷ s) t r time h e is_time =
    let first = first_taken u t s r e in
    let said = rw first.0 at h in
    counts_room n u (word_of u.text) time refl said (rw first.1 is_time)

-- what is at the bottom, where no other operand may begin
pub deepest_signed : (n : ℕ) (s : List Lexeme) → heads sign_heads s ≡ true
    → (unary usual 0 n).reads s ≡ too_many s
unfolding unary unary_over
deepest_signed n s here = rw here (no_sign usual (literal usual) n s here)

pub deepest_parens : (n : ℕ) (s : List Lexeme) → heads sign_heads s ≡ false → heads (is kinds.OpenParen) s ≡ true
    → (unary usual 0 n).reads s ≡ too_many s
unfolding unary unary_over
deepest_parens n s none here = rw (none, here) (no_parens usual (literal usual) n s here)

-- a temporal word at the bottom counts how often an event came
pub deepest_counted : (n : ℕ) (said : Option TokenFault) (s : List Lexeme) (t : Lexeme) (r : List Lexeme)
    → said ≡ first_refused (is kinds.Tick) (temporal_refused usual true n) s
    → unless_refused said s ((token kinds.Tick).reads s) ≡ Ok (t, r)
    → (temporal usual true (literal usual) n).reads s ≡ (counted t.at n).reads r
unfolding temporal
deepest_counted n said s t r same e =
    let passed = not_refused said s ((token kinds.Tick).reads s) t r e in
    let taken = rw passed at e in
    let none : time_of (word_of t.text) ≡ None = deepest_word n s t r (sym same ∙ passed) taken in
    let read = rw same at e in
    rw read (ap (λ (w : Option TimeWord). (asked usual (literal usual) w t.at n).reads r) none)

-- a temporal word that isn't read has its fault
pub temporal_fails : (deepest : Bool) (inner : Operands) (n : ℕ) (said : Option TokenFault) (err : ReadError)
    (s r : List Lexeme)
    → said ≡ first_refused (is kinds.Tick) (temporal_refused usual deepest n) s
    → Fails err r (unless_refused said s ((token kinds.Tick).reads s))
    → Fails err r ((temporal usual deepest inner n).reads s)
unfolding temporal
temporal_fails deepest inner n said errors.Memory s r same e = tt
temporal_fails deepest inner n said (errors.Fault d) s r same e = let read = rw same at e in rw read refl

-- a name at the bottom isn't called
pub deepest_call : (n : ℕ) (s : List Lexeme) (x : NameText) (r : List Lexeme) → name.reads s ≡ Ok (x, r)
    → heads (is kinds.OpenParen) r ≡ true → (named usual true (literal usual) n).reads s ≡ too_many r
unfolding named
deepest_call n s x r e here = rw (e, here) (no_call usual (literal usual) x n r here)

-- a name at the bottom is a target where it isn't called
pub deepest_datum : (n : ℕ) (s : List Lexeme) (x : NameText) (r : List Lexeme) → name.reads s ≡ Ok (x, r)
    → heads (is kinds.OpenParen) r ≡ false → (named usual true (literal usual) n).reads s ≡ (datum x n).reads r
unfolding named
deepest_datum n s x r e none = rw (e, none) refl

-- and no name is none
pub deepest_unnamed : (n : ℕ) (err : ReadError) (s r : List Lexeme) → Fails err r (name.reads s)
    → Fails err r ((named usual true (literal usual) n).reads s)
unfolding named
deepest_unnamed n errors.Memory s r e = tt
deepest_unnamed n (errors.Fault d) s r e = rw e refl

-- where a temporal word with a count was read there is room for it
pub timed_room : (n : ℕ) (said : Option TokenFault) (s : List Lexeme) (t : Lexeme) (r : List Lexeme) (time : TimeWord)
    → said ≡ first_refused (is kinds.Tick) (temporal_refused usual false n) s
    → unless_refused said s ((token kinds.Tick).reads s) ≡ Ok (t, r)
    → time_of (word_of t.text) ≡ Some time → n < OPERATOR_LIMIT
timed_room n said s t r time same e is_time =
    let passed = not_refused said s ((token kinds.Tick).reads s) t r e in
    let taken = rw passed at e in
    word_room n s t r time (sym same ∙ passed) taken is_time
