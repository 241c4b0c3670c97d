-- The canonical words of an expression spell it.
-- `x_spelled` says that the canonical words of x spell it.
use Rattle.std.proofs.Common.{◌≡◌, ℕ, zero, suc, ◌+◌, ◌≤◌, ◌<◌, ltb, Bool, true, List, [], ◌∷◌, ◌++◌, refl, arith}
use Rattle.std.proofs.Common.{inl, inr, subst, ap, ◌∙◌}
use Rattle.std.proofs.lemmas.Bool.{cases_Bool, ltb-false, le-ltb}
use Rattle.flow_base.specs.declared.chart_limits.TheConstants.{OPERATOR_LIMIT}
use Rattle.token_grammar.specs.declared.token.Kind.{Kind}
use Rattle.token_grammar.specs.declared.token.Kind.TheVariants as kinds
use Rattle.token_grammar.specs.declared.token.Span.{Span}
use Rattle.token_grammar.specs.Grammar.{is}
use Rattle.chart_tree.specs.declared.name.NameText.{NameText}
use Rattle.chart_tree.specs.declared.name.LitText.{LitText}
use Rattle.chart_tree.specs.declared.expr.UnWord.{UnWord}
use Rattle.chart_tree.specs.declared.expr.UnWord.TheVariants as un_words
use Rattle.chart_tree.specs.declared.expr.BinWord.{BinWord}
use Rattle.chart_tree.specs.Trees.{Path, Expr, Lit, Flag, Name, Active, Unary, Binary}
use Rattle.chart_grammar.specs.Limits.{usual}
use Rattle.chart_grammar.specs.Expressions.{Operand, un_word, sign_heads, flag_heads, nested_heads, literal, flag}
use Rattle.chart_grammar.specs.Expressions.{datum, active, plain, disjunction, signed, parens, nested, unary, operand}
use Rattle.chart_grammar.specs.Expressions.{expr}
use Rattle.chart_print.specs.Pieces.{Piece, key, space, kind_bytes}
use Rattle.chart_print.specs.Words.{word_pieces, path_pieces}
use Rattle.chart_print.specs.Expressions.{un_kind, bin_kind, expr_precedence, left_least, right_least, flag_kind}
use Rattle.chart_print.specs.Expressions.{enclosed, expr_pieces}
use Rattle.chart_print.specs.Places.{nowhere, unplaced_expr}
use Rattle.canonical_text.specs.Words.{Word, words_in, WordsSpell}
use Rattle.canonical_text.specs.Sizes.{operators_in}
use Rattle.canonical_text.specs.Claims.{NumberClaims}
use Rattle.canonical_text.specs.Terms.{IsPath, IsLiteral, HasTerms, IsExpr}
use Rattle.canonical_text.proofs.Words.{words_in-append, keyword, words_apart}
use Rattle.canonical_text.proofs.Spelled.{spell_token, spell_then, spell_left, spell_right, spell_made, spell_give}
use Rattle.canonical_text.proofs.Keywords.{spell_word, spell_kind, flag_there, flag_told}
use Rattle.canonical_text.proofs.Costs.{cost, cost-whole, precedence_some}
use Rattle.canonical_text.proofs.Precedences.{left_low, right_low}
use Rattle.canonical_text.proofs.ChainsSpelled.{unplaced, operator_spelled}
use Rattle.canonical_text.proofs.Levels.{level, levels_up, level_binary, unary_plain}
use Rattle.canonical_text.proofs.Names.{path_spelled}
use Rattle.canonical_text.proofs.Numbers.{number_spelled}

-- an expression without its places, with the number of operators up to its end
abbrev bare : Expr → ℕ → Operand
bare e n = record { expr = unplaced_expr e; operators = n }

-- ---- operands without an operator

literal_spelled : NumberClaims → (lit : LitText) (at : Span) (n : ℕ) → IsLiteral lit
    → WordsSpell (plain usual n) unplaced (words_in (expr_pieces (Lit lit at))) (bare (Lit lit at) n)
unfolding plain literal expr_pieces
literal_spelled claims lit at n has =
    spell_left (is kinds.Number) (spell_made (number_spelled claims lit has) (λ t same. rw same refl))

flag_spelled : (value : Bool) (at : Span) (n : ℕ)
    → WordsSpell (plain usual n) unplaced (words_in (expr_pieces (Flag value at))) (bare (Flag value at) n)
unfolding plain flag expr_pieces key
flag_spelled value at n =
    spell_right (is kinds.Number) (spell_left flag_heads
    (spell_kind flag_heads (flag_kind value) (flag_there value) (λ t kind.
    spell_give _ (rw (kind, flag_told value) refl))))

datum_spelled : (name : NameText) (n : ℕ)
    → WordsSpell (plain usual n) unplaced (words_in (expr_pieces (Name name))) (bare (Name name) n)
unfolding plain datum expr_pieces word_pieces
datum_spelled name n =
    spell_right (is kinds.Number) (spell_right flag_heads (spell_right (is kinds.In)
    (spell_made (spell_token kinds.Name name.text) (λ t same.
    let text = ap (λ (w : Word). w.text) same in
    rw text refl))))

active_spelled : (path : Path) (at : Span) (n : ℕ) → IsPath path
    → WordsSpell (plain usual n) unplaced (words_in (expr_pieces (Active path at))) (bare (Active path at) n)
unfolding plain active expr_pieces key
active_spelled path at n has =
    rw (words_in-append (path_pieces path) (key kinds.CloseParen))
    (spell_right (is kinds.Number) (spell_right flag_heads (spell_left (is kinds.In)
    (spell_then (spell_token kinds.In (kind_bytes kinds.In)) (λ t _.
    spell_word kinds.OpenParen
    (spell_then (path_spelled path has) (λ p same.
    spell_word kinds.CloseParen (spell_give _ (rw same refl)))))))))

-- ---- nested operands

parens_spelled : (d n : ℕ) {w : List Word} {y : Operand} → n < OPERATOR_LIMIT
    → WordsSpell (disjunction usual (unary usual d) (n + 1)) unplaced w y
    → WordsSpell (unary usual (suc d) n) unplaced
    (keyword kinds.OpenParen ∷ (w ++ keyword kinds.CloseParen ∷ [])) y
unfolding unary nested parens
parens_spelled d n room s =
    spell_left nested_heads (spell_right sign_heads
    (spell_then (operator_spelled (is kinds.OpenParen) kinds.OpenParen n refl room) (λ _ _.
    spell_then s (λ inner same.
    spell_word kinds.CloseParen (spell_give inner same)))))

signed_spelled : (d n : ℕ) (word : UnWord) {w : List Word} {y : Operand} → n < OPERATOR_LIMIT
    → WordsSpell (unary usual d (n + 1)) unplaced w y
    → WordsSpell (unary usual (suc d) n) unplaced (keyword (un_kind word) ∷ w)
    (record { expr = Unary word y.expr nowhere; operators = y.operators })
unfolding unary nested signed
signed_spelled d n word {y = y} room s =
    spell_left nested_heads (spell_left sign_heads
    (spell_then (operator_spelled sign_heads (un_kind word) n (there word) room) (λ t is.
    let kind = ap (λ (w : Word). w.kind) is in
    spell_made s (λ inner same.
    let told : un_word t.kind ≡ word = rw kind (named word) in
    ap (λ (z : UnWord). record { expr = Unary z (unplaced_expr inner.expr) nowhere; operators = inner.operators }) told
    ∙ ap (λ (z : Operand). record { expr = Unary word z.expr nowhere; operators = z.operators }) same))))
  where
    there : (word : UnWord) → sign_heads (un_kind word) ≡ true
    there un_words.Neg = refl
    there un_words.Not = refl

    named : (word : UnWord) → un_word (un_kind word) ≡ word
    named un_words.Neg = refl
    named un_words.Not = refl

-- ---- operands of every level

-- the words of an operand spell it, where there is room for its operators and parentheses
abbrev IsSpelled : Expr → Type 0
IsSpelled e = (p d n : ℕ) → p ≤ 6 → n + cost p e ≤ OPERATOR_LIMIT → cost p e ≤ d
    → WordsSpell (level p (unary usual d) n) unplaced
    (words_in (enclosed (ltb (expr_precedence e) p) (expr_pieces e))) (bare e (n + cost p e))

-- it is spelled without parentheses at its own level
abbrev IsOwn : Expr → Type 0
IsOwn e = (d n : ℕ) → n + operators_in e ≤ OPERATOR_LIMIT → operators_in e ≤ d
    → WordsSpell (level (expr_precedence e) (unary usual d) n) unplaced (words_in (expr_pieces e))
    (bare e (n + operators_in e))

-- and so in parentheses where no operator stands between two others
enclosed_spelled : (e : Expr) → IsOwn e → (d n : ℕ) → n + (operators_in e + 1) ≤ OPERATOR_LIMIT → operators_in e + 1 ≤ d
    → WordsSpell (unary usual d n) unplaced (words_in (enclosed true (expr_pieces e)))
    (bare e (n + (operators_in e + 1)))
unfolding enclosed key
enclosed_spelled e own zero n room deep = absurd (omega arith)
enclosed_spelled e own (suc d) n room deep =
    let count : n + 1 + operators_in e ≡ n + (operators_in e + 1) = omega arith in
    let inside = own d (n + 1) (omega arith) (omega arith) in
    rw (words_in-append (expr_pieces e) (key kinds.CloseParen))
    (parens_spelled d n (omega arith)
    (subst (λ (z : ℕ). WordsSpell (disjunction usual (unary usual d) (n + 1)) unplaced (words_in (expr_pieces e))
    (bare e z)) count
    (levels_up 1 (expr_precedence e) (n + 1) (unary usual d) (precedence_some e) inside)))

-- and so as an operand of any level
wherever : (e : Expr) → IsOwn e → IsSpelled e
unfolding enclosed
wherever e own p d n high room deep =
    elim (cases_Bool (ltb (expr_precedence e) p)) [
      | inl low ↦
          rw low (levels_up p 6 n (unary usual d) high (enclosed_spelled e own d n (rw low at room) (rw low at deep)))
      | inr tight ↦
          let enough = ltb-false (expr_precedence e) p tight in
          rw tight (levels_up p (expr_precedence e) n (unary usual d) enough
          (own d n (rw tight at room) (rw tight at deep)))
    ]

-- ---- expressions

-- an expression without an operator has none to spell
plain_own : (e : Expr) → expr_precedence e ≡ 6 → operators_in e ≡ 0
    → ((n : ℕ) → WordsSpell (plain usual n) unplaced (words_in (expr_pieces e)) (bare e n)) → IsOwn e
plain_own e tight none s d n room deep =
    let count : n ≡ n + operators_in e = omega arith in
    rw (tight, ← count) (unary_plain d n (s n))

-- a sign and its operand spell their expression
unary_own : (word : UnWord) (e : Expr) (at : Span) → IsSpelled e → IsOwn (Unary word e at)
unfolding expr_pieces key
unary_own word e at s zero n room deep = absurd (omega arith)
unary_own word e at s (suc d) n room deep =
    let count : n + 1 + cost 6 e ≡ n + (cost 6 e + 1) = omega arith in
    rw (← count) (signed_spelled d n word (omega arith) (s 6 d (n + 1) (omega arith) (omega arith) (omega arith)))

-- the words of two operands with an operator between them
words_between : (k : Kind) (a b : List Piece)
    → words_in (a ++ space ++ key k ++ space ++ b) ≡ words_in a ++ keyword k ∷ words_in b
words_between k a b = simp words_apart

-- the words of an operator and its two operands
binary_words : (word : BinWord) (l r : Expr) (at : Span) → words_in (expr_pieces (Binary word l r at))
    ≡ words_in (enclosed (ltb (expr_precedence l) (left_least word)) (expr_pieces l))
    ++ (keyword (bin_kind word)
    ∷ words_in (enclosed (ltb (expr_precedence r) (right_least word)) (expr_pieces r)))
unfolding expr_pieces
binary_words word l r at =
    words_between (bin_kind word) (enclosed (ltb (expr_precedence l) (left_least word)) (expr_pieces l))
    (enclosed (ltb (expr_precedence r) (right_least word)) (expr_pieces r))

-- an operator and its two operands spell their expression
binary_own : (word : BinWord) (l r : Expr) (at : Span) → IsSpelled l → IsSpelled r → IsOwn (Binary word l r at)
binary_own word l r at s t d n room deep =
    let a = cost (left_least word) l in
    let b = cost (right_least word) r in
    let count : n + a + 1 + b ≡ n + (a + b + 1) = omega arith in
    let low = left_low word in
    let high = right_low word in
    let left = s (left_least word) d n low (omega arith) (omega arith) in
    let right = t (right_least word) d (n + a + 1) high (omega arith) (omega arith) in
    rw (binary_words word l r at, ← count)
    (level_binary word (unary usual d) n (omega arith) left right)

spelled : NumberClaims → (e : Expr) → HasTerms e → IsSpelled e
spelled claims (Lit lit at) has =
    wherever (Lit lit at) (plain_own (Lit lit at) refl refl (λ n. literal_spelled claims lit at n has))
spelled claims (Flag value at) has =
    wherever (Flag value at) (plain_own (Flag value at) refl refl (flag_spelled value at))
spelled claims (Name name) has = wherever (Name name) (plain_own (Name name) refl refl (datum_spelled name))
spelled claims (Active path at) has =
    wherever (Active path at) (plain_own (Active path at) refl refl (λ n. active_spelled path at n has))
spelled claims (Unary word e at) has = wherever (Unary word e at) (unary_own word e at (spelled claims e has))
spelled claims (Binary word l r at) has =
    wherever (Binary word l r at) (binary_own word l r at (spelled claims l has.0) (spelled claims r has.1))

pub expr_spelled : NumberClaims → (x : Expr) → IsExpr x
    → WordsSpell (expr usual) unplaced_expr (words_in (expr_pieces x)) (unplaced_expr x)
unfolding expr operand enclosed
expr_spelled claims x has =
    let few = has.operators in
    let whole = cost-whole x in
    let out = le-ltb (expr_precedence x) 1 (precedence_some x) in
    let s = spelled claims x has.terms 1 OPERATOR_LIMIT 0 (omega arith) (omega arith) (omega arith) in
    spell_made (rw out at s) (λ o same. ap (λ (z : Operand). z.expr) same)
