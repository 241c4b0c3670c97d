-- The pieces of names, numbers, types and expressions stay apart.
-- `on_x` says that the pieces of x stay apart, and from the pieces after them, where these stay apart after x.
use Rattle.std.proofs.Common.{◌≡◌, ℕ, Bool, true, false, List, [], ◌∷◌, ◌++◌, refl, append_assoc, inl, inr}
use Rattle.std.specs.Prelude.{codes, nat_lt}
use Rattle.token_grammar.specs.declared.token.Kind.TheVariants as kinds
use Rattle.fixed_point.specs.declared.fitting.Mode.{Mode}
use Rattle.fixed_point.specs.declared.fitting.Mode.TheVariants as modes
use Rattle.chart_lexer.specs.Words.{is_name}
use Rattle.chart_tree.specs.declared.name.NameText.{NameText}
use Rattle.chart_tree.specs.declared.name.LitText.{LitText}
use Rattle.chart_tree.specs.declared.expr.UnWord.{UnWord}
use Rattle.chart_tree.specs.declared.expr.UnWord.TheVariants as un_words
use Rattle.chart_tree.specs.declared.expr.BinWord.{BinWord}
use Rattle.chart_tree.specs.declared.expr.BinWord.TheVariants as bin_words
use Rattle.chart_tree.specs.Trees.{Sort, FlagSort, NumberSort, Path, Expr, Lit, Flag, Name, Active, Unary, Binary}
use Rattle.chart_print.specs.Pieces.{Piece, key}
use Rattle.chart_print.specs.Words.{word_pieces, name_pieces, step_pieces, path_pieces, literal_pieces, scale_pieces}
use Rattle.chart_print.specs.Words.{mode_pieces, sort_pieces}
use Rattle.chart_print.specs.Expressions.{un_kind, bin_kind, flag_kind, expr_precedence, tightest, left_least}
use Rattle.chart_print.specs.Expressions.{right_least, enclosed, expr_pieces}
use Rattle.canonical_text.specs.Terms.{IsNamed, IsPath, IsLiteral, IsSort, HasTerms}
use Rattle.canonical_text.specs.Claims.{NumberClaims, scale_bytes}
use Rattle.canonical_text.proofs.Seams.{Seam, AfterBlank, AfterWord, AfterSymbol, AfterToken, fits, Apart, loosen}
use Rattle.canonical_text.proofs.Seams.{tighten, on_key, on_space, on_each}

-- ---- names and numbers

pub on_name : (name : NameText) (s : Seam) (rest : List Piece) → IsNamed name → fits s kinds.Name ≡ true
    → Apart AfterWord rest
    → Apart s (name_pieces name ++ rest)
unfolding word_pieces
on_name name s rest named fit h = (inr (inl (refl, named)), (fit, h))

on_step : (name : NameText) → IsNamed name → (rest : List Piece) → Apart AfterWord rest
    → Apart AfterWord (step_pieces name ++ rest)
unfolding step_pieces
on_step name named rest h =
    simp append_assoc (on_key kinds.Slash AfterWord _ refl refl (on_name name AfterSymbol rest named refl h))

pub on_path : (path : Path) (s : Seam) (rest : List Piece) → IsPath path → fits s kinds.Name ≡ true
    → Apart AfterWord rest
    → Apart s (path_pieces path ++ rest)
unfolding path_pieces
on_path [] s rest named fit h = absurd named
on_path (first ∷ others) s rest named fit h =
    simp append_assoc
    (on_name first s _ named.0 fit (on_each step_pieces IsNamed AfterWord others rest on_step named.1 h))

pub on_literal : NumberClaims → (lit : LitText) (s : Seam) (rest : List Piece) → IsLiteral lit
    → fits s kinds.Number ≡ true → Apart AfterWord rest
    → Apart s (literal_pieces lit ++ rest)
unfolding literal_pieces
on_literal claims lit s rest is fit h = (inr (inr (refl, (claims.literal_is_read lit is).number)), (fit, h))

-- ---- types

-- the word of a type
on_word : (bytes : List ℕ) (rest : List Piece) → is_name bytes ≡ true → Apart AfterWord rest
    → Apart AfterBlank (word_pieces bytes ++ rest)
unfolding word_pieces
on_word bytes rest named h = (inr (inl (refl, named)), (refl, h))

on_mode : (mode : Mode) (rest : List Piece) → Apart AfterWord rest → Apart AfterWord (mode_pieces mode ++ rest)
unfolding mode_pieces
on_mode modes.Saturate rest h = h
on_mode modes.Wrap rest h = simp append_assoc (on_space AfterWord _ (on_key kinds.Wrap AfterBlank rest refl refl h))
on_mode modes.Error rest h = simp append_assoc (on_space AfterWord _ (on_key kinds.Error AfterBlank rest refl refl h))

pub on_sort : NumberClaims → (sort : Sort) (rest : List Piece) → IsSort sort → Apart AfterWord rest
    → Apart AfterBlank (sort_pieces sort ++ rest)
unfolding sort_pieces scale_pieces
on_sort claims FlagSort rest is h = on_word (codes "bool") rest claims.flag_is_named h
on_sort claims (NumberSort scale mode) rest is h =
    simp append_assoc (on_word (scale_bytes scale) _ (claims.scale_is_read scale is).named (on_mode mode rest h))

-- ---- expressions

on_enclosed : (wrap : Bool) (pieces rest : List Piece)
    → ((r : List Piece) → Apart AfterToken r → Apart AfterSymbol (pieces ++ r)) → Apart AfterToken rest
    → Apart AfterSymbol (enclosed wrap pieces ++ rest)
unfolding enclosed
on_enclosed true pieces rest inside h =
    simp append_assoc (on_key kinds.OpenParen AfterSymbol _ refl refl (inside _
    (on_key kinds.CloseParen AfterToken rest refl refl (tighten AfterSymbol rest h))))
on_enclosed false pieces rest inside h = inside rest h

pub on_flag : (value : Bool) (s : Seam) (rest : List Piece) → fits s kinds.True ≡ true → fits s kinds.False ≡ true
    → Apart AfterWord rest
    → Apart s (key (flag_kind value) ++ rest)
on_flag true s rest there other h = on_key kinds.True s rest refl there h
on_flag false s rest other there h = on_key kinds.False s rest refl there h

on_un : (word : UnWord) (rest : List Piece) → Apart AfterSymbol rest → Apart AfterSymbol (key (un_kind word) ++ rest)
on_un un_words.Neg rest h = on_key kinds.Minus AfterSymbol rest refl refl h
on_un un_words.Not rest h = on_key kinds.Not AfterSymbol rest refl refl h

on_bin : (word : BinWord) (rest : List Piece) → Apart AfterSymbol rest → Apart AfterBlank (key (bin_kind word) ++ rest)
on_bin bin_words.Or rest h = on_key kinds.OrOr AfterBlank rest refl refl h
on_bin bin_words.And rest h = on_key kinds.AndAnd AfterBlank rest refl refl h
on_bin bin_words.Eq rest h = on_key kinds.EqualEqual AfterBlank rest refl refl h
on_bin bin_words.Ne rest h = on_key kinds.NotEqual AfterBlank rest refl refl h
on_bin bin_words.Lt rest h = on_key kinds.Less AfterBlank rest refl refl h
on_bin bin_words.Le rest h = on_key kinds.LessEqual AfterBlank rest refl refl h
on_bin bin_words.Gt rest h = on_key kinds.Greater AfterBlank rest refl refl h
on_bin bin_words.Ge rest h = on_key kinds.GreaterEqual AfterBlank rest refl refl h
on_bin bin_words.Add rest h = on_key kinds.Plus AfterBlank rest refl refl h
on_bin bin_words.Sub rest h = on_key kinds.Minus AfterBlank rest refl refl h
on_bin bin_words.Mul rest h = on_key kinds.Star AfterBlank rest refl refl h
on_bin bin_words.Div rest h = on_key kinds.Slash AfterBlank rest refl refl h

pub on_expr : NumberClaims → (e : Expr) (rest : List Piece) → HasTerms e → Apart AfterToken rest
    → Apart AfterSymbol (expr_pieces e ++ rest)
unfolding expr_pieces
on_expr claims (Lit lit at) rest has h = on_literal claims lit AfterSymbol rest has refl (tighten AfterWord rest h)
on_expr claims (Flag value at) rest has h = on_flag value AfterSymbol rest refl refl (tighten AfterWord rest h)
on_expr claims (Name name) rest has h = on_name name AfterSymbol rest has refl (tighten AfterWord rest h)
on_expr claims (Active path at) rest has h =
    simp append_assoc (on_key kinds.In AfterSymbol _ refl refl (on_key kinds.OpenParen AfterWord _ refl refl
    (on_path path AfterSymbol _ has refl
    (on_key kinds.CloseParen AfterWord rest refl refl (tighten AfterSymbol rest h)))))
on_expr claims (Unary word e at) rest has h =
    simp append_assoc (on_un word _
    (on_enclosed (nat_lt (expr_precedence e) tightest) (expr_pieces e) rest (λ r. on_expr claims e r has) h))
on_expr claims (Binary word l r at) rest has h =
    simp append_assoc
    (on_enclosed (nat_lt (expr_precedence l) (left_least word)) (expr_pieces l) _ (λ q. on_expr claims l q has.0)
    (on_space AfterToken _ (on_bin word _ (on_space AfterSymbol _ (loosen AfterSymbol _
    (on_enclosed (nat_lt (expr_precedence r) (right_least word)) (expr_pieces r) rest
    (λ q. on_expr claims r q has.1) h))))))
