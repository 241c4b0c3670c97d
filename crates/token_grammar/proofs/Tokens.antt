-- The reading of one token, by the first of the tokens that are left.
use Rattle.std.proofs.Common.{◌≡◌, suc, ◌-◌, ◌≤◌, Bool, true, false, List, [], ◌∷◌, length, get_or}
use Rattle.std.proofs.Common.{take, drop, Ok, Err, refl, sym, subst, ◌∙◌, Some, inl, inr, ap, arith}
use Rattle.std.proofs.Math.Seq.{take-length}
use Rattle.std.proofs.lemmas.Bool.{cases_Bool, eqb-true}
use Rattle.token_grammar.proofs.Sets.{all_kinds, at, found}
use Rattle.token_grammar.specs.declared.token.Kind.{Kind}
use Rattle.token_grammar.specs.declared.token.Token.{Token}
use Rattle.token_grammar.specs.declared.fault.TokenFault.TheVariants as faults
use Rattle.token_grammar.specs.Token.{lexeme, lexemes, kind_eq}
use Rattle.token_grammar.specs.Grammar.{token, heads}
use Rattle.token_grammar.specs.Grammar.{is}
use Rattle.token_grammar.proofs.Leaves.{kind_eq-refl}

-- a first token of the kind is read
pub token_taken : (ts : List Token) (d : Token) (k : Kind) → heads (is k) (lexemes ts) ≡ true
    → (token k).reads (lexemes ts) ≡ Ok (lexeme (get_or ts 0 d), lexemes (take (length ts - 1) (drop 1 ts)))
unfolding token
token_taken [] d k h = absurd cc
token_taken (t ∷ ts) d k h = rw (h, rest_is ts) refl
  where
    rest_is : (ts : List Token) → take (suc (length ts) - 1) ts ≡ ts
    rest_is ts = rw (let e : suc (length ts) - 1 ≡ length ts = omega arith in e) (take-length ts)

-- any other is Expected
pub token_refused : (ts : List Token) (k : Kind) → heads (is k) (lexemes ts) ≡ false
    → (token k).reads (lexemes ts) ≡ Err (faults.Expected, lexemes ts)
unfolding token
token_refused [] k h = refl
token_refused (t ∷ ts) k h = rw h refl

-- kinds that compare equal are equal
pub kind_eq-true : (a b : Kind) → kind_eq a b ≡ true → a ≡ b
kind_eq-true a b h =
    let e : Some a ≡ Some b = sym (found a) ∙ ap (at all_kinds) (eqb-true _ _ h) ∙ found b in
    cc

-- a test that tells whether two kinds are equal is that comparison
pub kind_is : (a b : Kind) (r : Bool) → (r ≡ true → a ≡ b) → (r ≡ false → a ≡ b → ⊥) → r ≡ kind_eq a b
kind_is a b true p q = sym (subst (λ z. kind_eq a z ≡ true) (p refl) (kind_eq-refl a))
kind_is a b false p q =
    elim (cases_Bool (kind_eq a b)) [
      | inl eq ↦ absurd (q refl (kind_eq-true a b eq))
      | inr ne ↦ sym ne
    ]

-- and so for the kind of the first token
pub heads_first : (ts : List Token) (d : Token) (k : Kind) (r : Bool) → 1 ≤ length ts
    → (r ≡ true → (get_or ts 0 d).kind ≡ k) → (r ≡ false → (get_or ts 0 d).kind ≡ k → ⊥) → r ≡ heads (is k) (lexemes ts)
heads_first [] d k r long p q = absurd (omega arith)
heads_first (t ∷ ts) d k r long p q = kind_is t.kind k r p q
