-- There is no comment in a canonical text.
use Rattle.std.proofs.Common.{◌≡◌, ℕ, false, not, List, [], ◌∷◌, refl, inl, inr}
use Rattle.std.specs.List.{AllByRecursion, filter}
use Rattle.std.proofs.lemmas.Bool.{not-true}
use Rattle.token_grammar.specs.declared.token.Kind.{Kind}
use Rattle.token_grammar.specs.declared.token.Kind.TheVariants as kinds
use Rattle.token_grammar.specs.Token.{Lexeme, kind_eq}
use Rattle.token_grammar.proofs.Sets.{within}
use Rattle.chart_tree.specs.Trees.{Chart}
use Rattle.chart_print.specs.Pieces.{Piece, Token, Blank}
use Rattle.chart_print.specs.Canonical.{chart_pieces}
use Rattle.canonical_text.specs.Words.{Word, words_of, words_in}
use Rattle.canonical_text.specs.Terms.{IsChart}
use Rattle.canonical_text.specs.Claims.{NumberClaims}
use Rattle.canonical_text.proofs.Seams.{Seam, AfterBlank, is_fixed, seam_of, Spelling, Apart}
use Rattle.canonical_text.proofs.ChartPieces.{on_chart}

-- another word than a comment
abbrev IsNoComment : Word → Type 0
IsNoComment w = kind_eq w.kind kinds.Comment ≡ false

-- what is spelled as a keyword, a symbol, a name or a number is none
no_comment : (k : Kind) (b : List ℕ) → Spelling k b → kind_eq k kinds.Comment ≡ false
no_comment k b (inl s) = not-true _ (within is_fixed (λ j. not (kind_eq j kinds.Comment)) refl k s.0)
no_comment k b (inr (inl s)) = rw s.0 refl
no_comment k b (inr (inr s)) = rw s.0 refl

-- of pieces that stay apart no word is a comment
no_comments : (ps : List Piece) (s : Seam) → Apart s ps → AllByRecursion IsNoComment (words_in ps)
no_comments [] s h = tt
no_comments (Blank b ∷ ps) s h = no_comments ps AfterBlank h.1.1
no_comments (Token k b ∷ ps) s h = (no_comment k b h.0, no_comments ps (seam_of k) h.1.1)

-- of tokens without a comment all are left
all_left : (u : List Lexeme) → AllByRecursion IsNoComment (words_of u)
    → filter (λ t. not (kind_eq t.kind kinds.Comment)) u ≡ u
all_left [] h = refl
all_left (t ∷ u) h = rw (h.0, all_left u h.1) refl

-- so of the tokens of a canonical text all are left
pub none_left_out : NumberClaims → (c : Chart) → IsChart c → (u : List Lexeme) → words_of u ≡ words_in (chart_pieces c)
    → filter (λ t. not (kind_eq t.kind kinds.Comment)) u ≡ u
none_left_out claims c is u words =
    all_left u (rw words (no_comments (chart_pieces c) AfterBlank (on_chart claims c is)))
