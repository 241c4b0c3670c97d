-- Tokens that were read, and so not refused.
use Rattle.std.proofs.Common.{◌≡◌, Bool, true, false, List, [], ◌∷◌, Ok, Err, Result, Option, Some, None, OnOk, refl}
use Rattle.token_grammar.specs.declared.token.Kind.{Kind}
use Rattle.token_grammar.specs.declared.token.Token.{Token}
use Rattle.token_grammar.specs.declared.fault.TokenFault.{TokenFault}
use Rattle.token_grammar.specs.declared.fault.TokenFault.TheVariants as faults
use Rattle.token_grammar.specs.declared.fault.ReadError.{ReadError}
use Rattle.token_grammar.specs.Token.{Lexeme, lexeme, Gives}
use Rattle.token_grammar.specs.Grammar.{is, token, one_of, allowed}
use Rattle.token_grammar.proofs.Good.{Set}

-- a token that is refused isn't read
refused_one : (set : Set) (f : TokenFault) (s : List Lexeme) (x : Lexeme) (r : List Lexeme)
    → (allowed set (λ t. Some f) (one_of set)).reads s ≡ Ok (x, r) → ⊥
unfolding one_of
refused_one set f [] x r e = absurd cc
refused_one set f (t ∷ s) x r e = by_kind (set t.kind) refl
  where
    by_kind : (b : Bool) → set t.kind ≡ b → ⊥
    by_kind true h =
        let stopped : (allowed set (λ z. Some f) (one_of set)).reads (t ∷ s) ≡ Err (f, t ∷ s) = rw h refl in
        absurd cc
    by_kind false h =
        let stopped : (allowed set (λ z. Some f) (one_of set)).reads (t ∷ s) ≡ Err (faults.Expected, t ∷ s) =
        rw h refl in
        absurd cc

-- what was read wasn't refused
pub one_of_room : (set : Set) (said : Option TokenFault) (s r : List Lexeme) (result : Result Token ReadError)
    → Gives lexeme result r ((allowed set (λ t. said) (one_of set)).reads s) → OnOk result (said ≡ None)
one_of_room set None s r (Ok t) e = refl
one_of_room set (Some f) s r (Ok t) e = absurd (refused_one set f s (lexeme t) r e)
one_of_room set said s r (Err e) read = tt

-- one of one kind is a token of that kind
one_of_kind : (k : Kind) (s : List Lexeme) → (one_of (is k)).reads s ≡ (token k).reads s
unfolding one_of token
one_of_kind k [] = refl
one_of_kind k (t ∷ s) = refl

-- a keyword is read as one of a set of one
pub keyword_read : (k : Kind) (said : Option TokenFault) (s : List Lexeme)
    → (allowed (is k) (λ t. said) (one_of (is k))).reads s ≡ (allowed (is k) (λ t. said) (token k)).reads s
keyword_read k said s = rw one_of_kind refl

-- a keyword that was read wasn't refused
pub keyword_room : (k : Kind) (said : Option TokenFault) (s r : List Lexeme) (result : Result Token ReadError)
    → Gives lexeme result r ((allowed (is k) (λ t. said) (token k)).reads s) → OnOk result (said ≡ None)
keyword_room k said s r result e =
    let read : Gives lexeme result r ((allowed (is k) (λ t. said) (one_of (is k))).reads s) =
    rw (keyword_read k said s) e in
    one_of_room (is k) said s r result read
