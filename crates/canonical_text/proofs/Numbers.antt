-- Numbers: spelled ones have no fault, and their canonical words spell them.
-- `x_has` says what is so of each x that tokens cut from a text spell, and `x_spelled` that the canonical words of an
-- x of
-- which that is so spell it.
use Rattle.std.proofs.Common.{◌≡◌, List, [], ◌∷◌, Option, Some, None, refl, ap, subst, ◌∙◌}
use Rattle.token_grammar.specs.declared.token.Kind.TheVariants as kinds
use Rattle.token_grammar.specs.declared.fault.TokenFault.{TokenFault}
use Rattle.token_grammar.specs.Token.{Lexeme}
use Rattle.token_grammar.specs.Grammar.{token, is, first_refused}
use Rattle.fixed_point.specs.Reading.{number_read}
use Rattle.chart_tree.specs.declared.name.LitText.{LitText}
use Rattle.chart_grammar.specs.Limits.{usual, unless_lifted}
use Rattle.chart_grammar.specs.Words.{number, lit_of, literal_refused, fault_of_number}
use Rattle.chart_grammar.proofs.LimitLaws.{usual_kept}
use Rattle.chart_print.specs.Words.{literal_pieces}
use Rattle.canonical_text.specs.Words.{Word, words_in, WordsSpell}
use Rattle.canonical_text.specs.Claims.{AreCut, literal_bytes, NumberClaims}
use Rattle.canonical_text.specs.Terms.{IsLiteral}
use Rattle.canonical_text.proofs.Cut.{cut_token}
use Rattle.canonical_text.proofs.Spelled.{spell_token, spell_tested, spell_seen}

-- where nothing is refused, there was no fault
no_fault : (said : Option TokenFault) → unless_lifted usual said ≡ None → said ≡ None
no_fault None h = refl
no_fault (Some f) h = absurd (let bad = rw (usual_kept f) at h in cc)

pub number_has : (u : List Lexeme) (t : Lexeme) → AreCut u → (number usual).spells u t → IsLiteral (lit_of t.text)
unfolding number token
number_has u t cut s =
    let c = cut_token kinds.Number u t cut s.1 in
    let there : first_refused (is kinds.Number) (literal_refused usual) (t ∷ []) ≡ None =
    subst (λ (v : List Lexeme). first_refused (is kinds.Number) (literal_refused usual) v ≡ None) s.1.0 s.0 in
    record {
      text = t.text;
      number = c.0.number c.1;
      sound = no_fault (fault_of_number (number_read t.text)) (rw s.1.1 at there);
      told = refl;
    }

pub number_spelled : NumberClaims → (lit : LitText) → IsLiteral lit
    → WordsSpell (number usual) (λ t. lit_of t.text) (words_in (literal_pieces lit)) lit
unfolding number literal_pieces
number_spelled claims lit has =
    let read = claims.literal_is_read lit has in
    let text = literal_bytes lit in
    spell_seen
    (spell_tested (is kinds.Number) (literal_refused usual) kinds.Number text
    (λ t _ same. rw (same, read.sound) refl) (spell_token kinds.Number text))
    (λ t looks. ap (λ (w : Word). lit_of w.text) looks ∙ read.told)
