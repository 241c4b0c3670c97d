-- The names among the tokens of a text.
use Rattle.std.proofs.Common.{◌≡◌, ℕ, zero, suc, ◌-◌, ◌<◌, true, List, [], ◌∷◌, length, get_or, refl, ap, arith}
use Rattle.std.specs.List.{AllByRecursion}
use Rattle.token_grammar.specs.declared.token.Kind.{Kind}
use Rattle.token_grammar.specs.declared.token.Kind.TheVariants as kinds
use Rattle.token_grammar.specs.declared.token.Span.{Span}
use Rattle.token_grammar.specs.Token.{Lexeme, kind_eq}
use Rattle.chart_lexer.specs.Words.{is_name}
use Rattle.chart_lexer.specs.Lex.{after_byte, begin, HasNames}
use Rattle.statechart_lexer.specs.declared.front.Front.{Front}
use Rattle.statechart_lexer.specs.declared.front.Front.TheVariants as fronts
use Rattle.statechart_lexer.specs.Lex.{front_of, lexed, cut_of}
use Rattle.statechart_lexer.proofs.Cuts.{skip_turn, token_turn, stop_turn}
use Rattle.statechart_lexer.proofs.Names.{front_named}

-- each token of kind Name has a text that is a name, from the first on
AreNames : List Lexeme → Type 0
AreNames ts = AllByRecursion (λ (t : Lexeme). kind_eq t.kind kinds.Name ≡ true → is_name t.text ≡ true) ts

-- one turn more in front
turn_names : (p : Span) (b : ℕ) (s : List ℕ) → ((k : ℕ) (q : Span) → AreNames (lexed k q s).tokens) → (front : Front)
    → front_of (b ∷ s) ≡ front → AreNames (lexed 0 p (b ∷ s)).tokens
unfolding AreNames
turn_names p b s rest (fronts.Skip n) e = rw (skip_turn p b s n e) (rest (n - 1) (after_byte p b))
turn_names p b s rest (fronts.Token kind n m) e =
    rw (token_turn p b s kind n m e) (rw e at (front_named (b ∷ s)), rest (m - 1) (after_byte p b))
turn_names p b s rest (fronts.Stop stop) e = rw (stop_turn p (b ∷ s) stop e) tt

-- from any place on, after any number of bytes
are_names : (s : List ℕ) (k : ℕ) (p : Span) → AreNames (lexed k p s).tokens
unfolding AreNames lexed
are_names [] k p = tt
are_names (b ∷ s) zero p = turn_names p b s (are_names s) (front_of (b ∷ s)) refl
are_names (b ∷ s) (suc k) p = are_names s k (after_byte p b)

-- the token at an index
names_at : (ts : List Lexeme) → AreNames ts → (k : ℕ) (d : Lexeme) → k < length ts → (get_or ts k d).kind ≡ kinds.Name
    → is_name (get_or ts k d).text ≡ true
unfolding AreNames
names_at [] h k d lt e = absurd (omega arith)
names_at (t ∷ ts) h zero d lt e = h.0 (ap (λ (kind : Kind). kind_eq kind kinds.Name) e)
names_at (t ∷ ts) h (suc k) d lt e = names_at ts h.1 k d (omega arith) e

-- the tokens of a text
pub has_names : (text : List ℕ) → HasNames (cut_of text)
has_names text = names_at (cut_of text).tokens (are_names text 0 begin)
