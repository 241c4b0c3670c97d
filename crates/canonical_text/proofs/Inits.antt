-- First values of data: what spelled ones have, and their canonical words spell them.
-- `x_has` says what is so of each x that tokens cut from a text spell, and `x_spelled` that the canonical words of an
-- x of
-- which that is so spell it.
use Rattle.std.proofs.Common.{◌≡◌, ℕ, ◌==◌, Bool, true, false, ◌&&◌, List, Option, Some, None, is_none, inl, inr}
use Rattle.std.proofs.Common.{refl, ap, ◌∙◌}
use Rattle.std.proofs.lemmas.Bool.{cases_Bool, eqb-true, and_parts, not-true}
use Rattle.std.proofs.lemmas.Bool.Decides.{eqb_tells}
use Rattle.token_grammar.specs.declared.token.Kind.TheVariants as kinds
use Rattle.token_grammar.specs.declared.token.Span.{Span}
use Rattle.token_grammar.specs.Token.{Lexeme}
use Rattle.token_grammar.specs.Grammar.{is}
use Rattle.chart_tree.specs.declared.name.LitText.{LitText}
use Rattle.chart_tree.specs.declared.sort.InitText.{InitText}
use Rattle.chart_tree.specs.declared.sort.InitText.TheVariants as inits
use Rattle.chart_tree.specs.Trees.{Sort, FlagSort, NumberSort}
use Rattle.chart_grammar.specs.Limits.{usual}
use Rattle.chart_grammar.specs.Words.{lit_of}
use Rattle.chart_grammar.specs.Declarations.{zero_lit, plain_init, positive_init, negative_init, flag_heads}
use Rattle.chart_grammar.specs.Declarations.{flag_init, init, given_init, missing_init, maybe_init}
use Rattle.chart_print.specs.Pieces.{key, kind_bytes}
use Rattle.chart_print.specs.Expressions.{flag_kind}
use Rattle.chart_print.specs.Declarations.{is_plain_zero, is_missing_init, sign_pieces, value_pieces, init_pieces}
use Rattle.chart_print.specs.Places.{nowhere, unplaced_init}
use Rattle.canonical_text.specs.Words.{words_in, WordsSpell}
use Rattle.canonical_text.specs.Terms.{IsLiteral, IsPlain, IsInit}
use Rattle.canonical_text.specs.Claims.{AreCut, NumberClaims, ExpressionClaims}
use Rattle.canonical_text.proofs.Words.{words_apart}
use Rattle.canonical_text.proofs.Literals.{same_literal}
use Rattle.canonical_text.proofs.Cut.{cut_first, cut_second}
use Rattle.canonical_text.proofs.Spelled.{spell_token, spell_then, spell_give, spell_left, spell_right, spell_as}
use Rattle.canonical_text.proofs.Spelled.{spell_made}
use Rattle.canonical_text.proofs.Keywords.{spell_word, spell_kind, flag_there, flag_told}

-- ---- what spelled first values have

-- a number of value 0 becomes plain
plain_has : (c : NumberClaims) (negative : Bool) (lit : LitText) (at : Span) → IsLiteral lit
    → IsInit (plain_init negative lit at)
plain_has c negative lit at literal =
    elim (eqb_tells lit.units 0) [
      | inl zero ↦ rw zero.0 (record { literal = c.zero_is_literal; positive = λ z. refl; bare = λ z. refl })
      | inr other ↦ rw other.0
          (record { literal = literal; positive = λ z. absurd (other.1 z); bare = λ z. absurd (other.1 z) })
    ]

init_has : (c : NumberClaims) (d : ExpressionClaims) (u : List Lexeme) (x : InitText) → AreCut u
    → (init usual).spells u x → IsInit x
unfolding init negative_init positive_init flag_init
init_has c d u x cut (inl s) =
    let number = s.second in
    rw number.second.1
    (plain_has c true _ _ (d.number_has number.p number.x (cut_first number (cut_second s cut)) number.first))
init_has c d u x cut (inr (inl s)) =
    rw s.second.1 (plain_has c false _ _ (d.number_has s.p s.x (cut_first s cut) s.first))
init_has c d u x cut (inr (inr s)) = rw s.second.1 (record {})

missing_has : (c : NumberClaims) (sort : Sort) (at : Span) → IsInit (missing_init sort at)
missing_has c FlagSort at = record {}
missing_has c (NumberSort scale mode) at =
    record { literal = c.zero_is_literal; positive = λ z. refl; bare = λ z. refl }

pub maybe_init_has : (c : NumberClaims) (d : ExpressionClaims) (sort : Sort) (at : Span) (u : List Lexeme)
    (x : InitText) → AreCut u
    → (maybe_init usual sort at).spells u x → IsInit x
unfolding maybe_init given_init
maybe_init_has c d sort at u x cut (inl s) = init_has c d s.q x (cut_second s cut) s.second
maybe_init_has c d sort at u x cut (inr s) = rw s.1 (missing_has c sort at)

-- ---- first values spelled

-- what is read of a plain number is the same again
plain_same : (negative : Bool) (lit : LitText) (at : Span) → IsPlain negative lit
    → unplaced_init (plain_init negative lit at) ≡ inits.Number negative lit nowhere
plain_same negative lit at has =
    elim (eqb_tells lit.units 0) [
      | inl zero ↦
          let positive = has.positive zero.1 in
          let bare = has.bare zero.1 in
          rw zero.0 cc
      | inr other ↦ rw other.0 refl
    ]

-- also of its text
plain_read : (negative : Bool) (text : List ℕ) (lit : LitText) (at : Span) → IsPlain negative lit → lit_of text ≡ lit
    → unplaced_init (plain_init negative (lit_of text) at) ≡ inits.Number negative lit nowhere
plain_read negative text lit at has e =
    ap (λ (z : LitText). unplaced_init (plain_init negative z at)) e ∙ plain_same negative lit at has

number_spelled : (d : ExpressionClaims) (negative : Bool) (lit : LitText) (at : Span) → IsPlain negative lit
    → WordsSpell (init usual) unplaced_init (words_in (value_pieces (inits.Number negative lit at)))
    (inits.Number negative lit nowhere)
unfolding init negative_init positive_init value_pieces sign_pieces key
number_spelled d true lit at has =
    spell_left (is kinds.Minus)
    (spell_then (spell_token kinds.Minus (kind_bytes kinds.Minus)) (λ sign e.
    spell_made (d.number_spelled lit has.literal) (λ t l. plain_read true t.text lit sign.at has l)))
number_spelled d false lit at has =
    spell_right (is kinds.Minus)
    (spell_left (is kinds.Number)
    (spell_made (d.number_spelled lit has.literal) (λ t l. plain_read false t.text lit t.at has l)))

flag_spelled : (value : Bool) (at : Span)
    → WordsSpell (init usual) unplaced_init (words_in (value_pieces (inits.Flag value at))) (inits.Flag value nowhere)
unfolding init flag_init value_pieces key
flag_spelled value at =
    spell_right (is kinds.Minus)
    (spell_right (is kinds.Number)
    (spell_kind flag_heads (flag_kind value) (flag_there value) (λ t kind.
    spell_give (inits.Flag (is kinds.True t.kind) t.at) (rw (kind, flag_told value) refl))))

init_spelled : (d : ExpressionClaims) (x : InitText) → IsInit x
    → WordsSpell (init usual) unplaced_init (words_in (value_pieces x)) (unplaced_init x)
init_spelled d (inits.Number negative lit at) has = number_spelled d negative lit at has
init_spelled d (inits.Flag value at) has = flag_spelled value at

-- a test for a missing scale tells it
no_scale : (q : Option ℕ) → is_none q ≡ true → q ≡ None
no_scale None e = refl
no_scale (Some bits) e = absurd cc

-- such a number is the number 0
plain_zero : (negative : Bool) (lit : LitText) → is_plain_zero negative lit ≡ true
    → (negative ≡ false) × (lit ≡ zero_lit)
plain_zero true lit e = absurd cc
plain_zero false lit e =
    let parts = and_parts (lit.units == 0) (lit.places == 0 && is_none lit.q) e in
    let behind = and_parts (lit.places == 0) (is_none lit.q) parts.1 in (
      refl,
      same_literal lit zero_lit (eqb-true lit.units 0 parts.0) (eqb-true lit.places 0 behind.0)
          (no_scale lit.q behind.1),
    )

-- where the value is left out, it is the one that is meant without it
missing_same : (sort : Sort) (at : Span) (x : InitText) → is_missing_init sort x ≡ true
    → unplaced_init (missing_init sort at) ≡ unplaced_init x
missing_same FlagSort at (inits.Number negative lit place) e = absurd cc
missing_same FlagSort at (inits.Flag value place) e = rw (not-true value e) refl
missing_same (NumberSort scale mode) at (inits.Number negative lit place) e = let zero =
    plain_zero negative lit e in rw (zero.0, zero.1) refl
missing_same (NumberSort scale mode) at (inits.Flag value place) e = absurd cc

pub maybe_init_spelled : (d : ExpressionClaims) (sort : Sort) (at : Span) (x : InitText) → IsInit x
    → WordsSpell (maybe_init usual sort at) unplaced_init (words_in (init_pieces sort x)) (unplaced_init x)
unfolding maybe_init given_init init_pieces
maybe_init_spelled d sort at x has =
    elim (cases_Bool (is_missing_init sort x)) [
      | inl missing ↦ spell_as (rw missing refl)
          (spell_right (is kinds.Assign) (spell_give (missing_init sort at) (missing_same sort at x missing)))
      | inr given ↦ spell_as (rw given (simp words_apart))
          (spell_left (is kinds.Assign) (spell_word kinds.Assign (init_spelled d x has)))
    ]
