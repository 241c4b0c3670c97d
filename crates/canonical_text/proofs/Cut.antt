-- Parts of tokens that are cut from a text are cut from it too.
use Rattle.std.proofs.Common.{◌≡◌, List, [], ◌∷◌, ◌++◌, subst}
use Rattle.token_grammar.specs.declared.token.Kind.{Kind}
use Rattle.token_grammar.specs.Token.{Lexeme}
use Rattle.token_grammar.specs.Grammar.{Both, Before, token}
use Rattle.token_grammar.proofs.Tokens.{kind_eq-true}
use Rattle.canonical_text.specs.Words.{IsCut}
use Rattle.canonical_text.specs.Claims.{AreCut}

-- the tokens in front, and those after them
cut_front : (p q : List Lexeme) → AreCut (p ++ q) → AreCut p
cut_front [] q h = record {}
cut_front (t ∷ p) q h = (h.0, cut_front p q h.1)

-- tokens at the end are cut
cut_back : (p q : List Lexeme) → AreCut (p ++ q) → AreCut q
cut_back [] q h = h
cut_back (t ∷ p) q h = cut_back p q h.1

-- two parts, one after the other
pub cut_first : {X Y : Type 0} {g : List Lexeme → X → Type 0} {h : X → List Lexeme → Y → Type 0} {u : List Lexeme}
    {y : Y}
    (s : Both g h u y) → AreCut u → AreCut s.p
cut_first s cut = cut_front s.p s.q (subst AreCut s.parts cut)

-- those of the second part are
pub cut_second : {X Y : Type 0} {g : List Lexeme → X → Type 0} {h : X → List Lexeme → Y → Type 0} {u : List Lexeme}
    {y : Y}
    (s : Both g h u y) → AreCut u → AreCut s.q
cut_second s cut = cut_back s.p s.q (subst AreCut s.parts cut)

-- one of many, and those after it
pub cut_item : {X : Type 0} {g : List Lexeme → X → Type 0} {x : X} {rest : List Lexeme → Type 0} {u : List Lexeme}
    (s : Before g x rest u) → AreCut u → AreCut s.p
cut_item s cut = cut_front s.p s.q (subst AreCut s.parts cut)

-- and those of the rest
pub cut_rest : {X : Type 0} {g : List Lexeme → X → Type 0} {x : X} {rest : List Lexeme → Type 0} {u : List Lexeme}
    (s : Before g x rest u) → AreCut u → AreCut s.q
cut_rest s cut = cut_back s.p s.q (subst AreCut s.parts cut)

-- a token that is spelled is one of the tokens at hand, of that kind
pub cut_token : (k : Kind) (u : List Lexeme) (t : Lexeme) → AreCut u → (token k).spells u t → IsCut t × (t.kind ≡ k)
unfolding token
cut_token k u t cut s = ((subst AreCut s.0 cut).0, kind_eq-true t.kind k s.1)
