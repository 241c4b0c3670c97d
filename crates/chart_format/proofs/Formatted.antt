-- The canonical text of a chart that was spelled spells it again.
use Rattle.std.proofs.Common.{◌≡◌, ℕ, Bool, not, List, [], ◌∷◌, sym, ap, subst, ◌∙◌, inl, inr, Ok}
use Rattle.std.proofs.lemmas.Bool.{cases_Bool}
use Rattle.std.specs.List.{filter}
use Rattle.token_grammar.specs.declared.token.Kind.TheVariants as kinds
use Rattle.token_grammar.specs.Token.{Lexeme, Outcome, kind_eq}
use Rattle.chart_lexer.specs.Lex.{cut_of}
use Rattle.chart_tree.specs.Trees.{Chart}
use Rattle.chart_grammar.specs.Limits.{usual}
use Rattle.chart_grammar.specs.States.{chart}
use Rattle.chart_grammar.proofs.TextLaws.{text_only}
use Rattle.chart_reader.specs.Text.{tokens_of, Spells}
use Rattle.chart_print.specs.Canonical.{canonical}
use Rattle.chart_print.proofs.PlacesLemmas.{canonical-apart}
use Rattle.canonical_text.specs.Terms.{IsChart}
use Rattle.canonical_text.specs.Claims.{AreCut, TransitionClaims, ChartClaims}
use Rattle.canonical_text.proofs.NumberClaims.{number_claims}
use Rattle.canonical_text.proofs.ExpressionClaims.{expression_claims}
use Rattle.canonical_text.proofs.TransitionClaims.{transition_claims}
use Rattle.canonical_text.proofs.ChartClaims.{chart_claims}
use Rattle.canonical_text.proofs.CutTokens.{tokens_are_cut}
use Rattle.canonical_text.proofs.ChartPieces.{words_are_cut}
use Rattle.canonical_text.proofs.NoComments.{none_left_out}
use Rattle.chart_format.specs.Text.{SpellsAgain, IsKept, IsFormatted}

-- what is cut from a text is still that when some of it is left out
some_cut : (keeps : Lexeme → Bool) (u : List Lexeme) → AreCut u → AreCut (filter keeps u)
some_cut keeps [] h = record {}
some_cut keeps (t ∷ u) h =
    let others = some_cut keeps u h.1 in
    elim (cases_Bool (keeps t)) [
      | inl keep ↦ rw keep (h.0, others)
      | inr leave ↦ rw leave others
    ]

-- what reading gives where all is read
abbrev read_as : Chart → Outcome Chart
read_as c = Ok (c, [])

-- what tokens spell is what reading gives, so they spell one chart
one_chart : (u : List Lexeme) (c d : Chart) → (chart usual).spells u c → (chart usual).spells u d → c ≡ d
one_chart u c d a b =
    let read : read_as c ≡ read_as d = sym (text_only u c a) ∙ text_only u d b in
    let pair : (c, []) ≡ (d, []) = cc in
    ap (λ (p : Chart × List Lexeme). p.0) pair

-- ---- what is claimed of parts, put together

-- what is claimed of transitions
transitions : TransitionClaims
transitions = transition_claims number_claims (expression_claims number_claims)

-- what is claimed of charts
charts : ChartClaims
charts = chart_claims (expression_claims number_claims) transitions

-- ---- charts

-- a chart that a text spells has what a spelled chart has
pub spelled_has : (text : List ℕ) (c : Chart) → Spells text c → IsChart c
unfolding tokens_of
spelled_has text c s =
    charts.chart_has _ c (some_cut (λ t. not (kind_eq t.kind kinds.Comment)) _ (tokens_are_cut text)) s.spelled

-- the canonical text of a chart that has what spelled ones have spells it again
spells_again : (c : Chart) → IsChart c → SpellsAgain (canonical c) c
unfolding tokens_of
spells_again c is =
    let cut = words_are_cut number_claims c is in
    let all : tokens_of (canonical c) ≡ (cut_of (canonical c)).tokens =
    none_left_out number_claims c is (cut_of (canonical c)).tokens cut.words in
    let found = charts.chart_spelled c is (cut_of (canonical c)).tokens cut.words in
    record { chart = found.value; whole = cut.whole; spelled = rw all found.spelled; same = found.looks }

-- so the canonical text of a chart that a text spells keeps it
pub canonical_keeps : (text : List ℕ) (c : Chart) → Spells text c → IsKept (canonical c) c
canonical_keeps text c s =
    let found = spells_again c (spelled_has text c s) in
    record {
      again = found;
      is_read = λ short. record { short = short; whole = found.whole; spelled = found.spelled };
      stays = λ d spells.
          ap canonical (one_chart _ d found.chart spells.spelled found.spelled)
          ∙ canonical-apart found.chart c found.same;
    }

-- what is written of a text is right
pub is_formatted : (text written : List ℕ) (c : Chart) → Spells text c → written ≡ canonical c
    → IsFormatted text written
is_formatted text written c s is = record {
  chart = c;
  spelled = s;
  written_is = is;
  kept = subst (λ w. IsKept w c) (sym is) (canonical_keeps text c s);
}
