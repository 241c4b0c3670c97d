-- The first of the tokens that are left.
use Rattle.std.proofs.Common.{◌≡◌, Bool, true, false, List, [], ◌∷◌, Result, Ok, Err, refl}
use Rattle.std.proofs.Common.{Option, Some, None, sym, ap, ◌∙◌, inl, inr}
use Rattle.std.proofs.lemmas.Bool.{cases_Bool}
use Rattle.token_grammar.specs.declared.fault.TokenFault.{TokenFault}
use Rattle.token_grammar.proofs.Allowed.{refused_always}
use Rattle.token_grammar.specs.declared.token.Kind.{Kind}
use Rattle.token_grammar.specs.declared.fault.TokenFault.TheVariants as faults
use Rattle.token_grammar.specs.declared.fault.ReadError.{ReadError}
use Rattle.token_grammar.specs.declared.fault.ReadError.TheVariants as errors
use Rattle.token_grammar.specs.Token.{Lexeme, Outcome, Gives}
use Rattle.token_grammar.specs.Grammar.{one_of, token, heads, is, allowed, first_refused, ended}

-- it is taken where it is of the set
one_taken : (t : Lexeme) (r : List Lexeme) (set : Kind → Bool) → heads set (t ∷ r) ≡ true
    → (one_of set).reads (t ∷ r) ≡ Ok (t, r)
unfolding one_of
one_taken t r set h = rw h refl

-- a token of the set is read
pub one_read : (s : List Lexeme) (t : Lexeme) (r : List Lexeme) (set : Kind → Bool) → s ≡ t ∷ r → heads set s ≡ true
    → (one_of set).reads s ≡ Ok (t, r)
one_read s t r set e h = rw e (one_taken t r set (rw e at h))

-- and refused where it isn't, or where there is none
pub one_refused : (s : List Lexeme) (set : Kind → Bool) → heads set s ≡ false
    → (one_of set).reads s ≡ Err (faults.Expected, s)
unfolding one_of
one_refused [] set h = refl
one_refused (t ∷ s) set h = rw h refl

-- the same of one kind
token_taken : (t : Lexeme) (r : List Lexeme) (k : Kind) → heads (is k) (t ∷ r) ≡ true
    → (token k).reads (t ∷ r) ≡ Ok (t, r)
unfolding token
token_taken t r k h = rw h refl

-- a token of the kind is read
pub token_read : (s : List Lexeme) (t : Lexeme) (r : List Lexeme) (k : Kind) → s ≡ t ∷ r → heads (is k) s ≡ true
    → (token k).reads s ≡ Ok (t, r)
token_read s t r k e h = rw e (token_taken t r k (rw e at h))

-- and any other is Expected
pub token_refused : (s : List Lexeme) (k : Kind) → heads (is k) s ≡ false → (token k).reads s ≡ Err (faults.Expected, s)
unfolding token
token_refused [] k h = refl
token_refused (t ∷ s) k h = rw h refl

-- where a token was taken, no fault refused it
pub allowed_passes : (k : Kind) (said : Option TokenFault) (s : List Lexeme) (t : Lexeme) (r : List Lexeme)
    → (allowed (is k) (λ t. said) (token k)).reads s ≡ Ok (t, r) → said ≡ None
allowed_passes k None s t r e = refl
allowed_passes k (Some f) s t r e =
    elim (cases_Bool (heads (is k) s)) [
      | inl here ↦
          let refused : first_refused (is k) (λ t. Some f) s ≡ Some f =
          refused_always (is k) (Some f) s ∙ rw here refl in
          let bad = rw refused at e in cc
      | inr other ↦
          let passes : first_refused (is k) (λ t. Some f) s ≡ None = refused_always (is k) (Some f) s ∙ rw other refl in
          let bad = sym (token_refused s k other) ∙ rw passes at e in cc
    ]

-- ---- the end of the tokens

-- the value that was read
abbrev value_in : {X : Type 0} → X → Outcome X → X
value_in other (Ok x) = x.0
value_in other (Err e) = other

-- the fault where none was
abbrev fault_in : {X : Type 0} → TokenFault → Outcome X → TokenFault
fault_in other (Ok x) = other
fault_in other (Err e) = e.0

-- what is seen of the value that ends with the tokens
pub ended_seen : {X Y : Type 0} (view : X → Y) (value : X) (s : List Lexeme) (result : Result X ReadError)
    → Gives (λ v. v) result s (ended value s) → Gives view result s (ended (view value) s)
ended_seen view value [] (Ok v) e = let same : value ≡ v = ap (value_in value) e in rw same refl
ended_seen view value (t ∷ s) (Ok v) e = absurd cc
ended_seen view value [] (Err (errors.Fault f)) e = absurd cc
ended_seen view value (t ∷ s) (Err (errors.Fault f)) e =
    let same : faults.Expected ≡ f = ap (fault_in f) e in rw same refl
ended_seen view value s (Err errors.Memory) e = tt
