-- The reading of any number of items, as a loop does: what a turn of it leaves to be read.
use Rattle.std.proofs.Common.{◌≡◌, true, false, List, [], ◌∷◌, ◌++◌, length}
use Rattle.std.proofs.Common.{Ok, Err, refl, sym, ap, ◌∙◌, append_assoc, ◌<◌}
use Rattle.std.proofs.lemmas.List.{append-nil, length-map}
use Rattle.token_grammar.specs.declared.fault.TokenFault.{TokenFault}
use Rattle.token_grammar.specs.declared.fault.ReadError.{ReadError}
use Rattle.token_grammar.specs.declared.fault.ReadError.TheVariants as errors
use Rattle.token_grammar.specs.declared.token.Token.{Token}
use Rattle.token_grammar.specs.Token.{Lexeme, lexemes, Outcome, Fails}
use Rattle.token_grammar.specs.Grammar.{Grammar, heads, many, many_from, after}
use Rattle.token_grammar.proofs.Good.{Set, Good, took}
use Rattle.token_grammar.proofs.State.{consed, from_none, from_one}
use Rattle.token_grammar.proofs.Many.{many_alike}

-- ---- one turn of the loop, whatever is read

-- an item goes from what is read to what was read
regroup : {X : Type 0} (front : List X) (x : X) (read : Outcome (List X))
    → after front (consed x read) ≡ after (front ++ x ∷ []) read
regroup front x (Ok y) = ap (λ (ys : List _). Ok (ys, y.1)) (sym (append_assoc front (x ∷ []) y.0))
regroup front x (Err e) = refl

-- the whole stays the same over a turn
turned : {X : Type 0} (front : List X) (x : X) (read rest total : Outcome (List X)) → read ≡ consed x rest
    → after front read ≡ total
    → after (front ++ x ∷ []) rest ≡ total
turned front x read rest total e so_far = sym (regroup front x rest) ∙ ap (after front) (sym e) ∙ so_far

-- nothing more was read
finished : {X : Type 0} (front : List X) (s : List Lexeme) (read total : Outcome (List X)) → read ≡ Ok ([], s)
    → after front read ≡ total
    → total ≡ Ok (front, s)
finished front s read total e so_far =
    sym so_far ∙ ap (after front) e ∙ ap (λ (ys : List _). Ok (ys, s)) (append-nil front)

-- reading failed
failed : {X : Type 0} (front : List X) (d : TokenFault) (r : List Lexeme) (read total : Outcome (List X))
    → read ≡ Err (d, r) → after front read ≡ total
    → total ≡ Err (d, r)
failed front d r read total e so_far = sym so_far ∙ ap (after front) e

-- an item that was read took a token
pub fewer : {X : Type 0} {g : Grammar X} {f m : Set} → Good g f false m → (old new : List Token) (x : X)
    → g.reads (lexemes old) ≡ Ok (x, lexemes new)
    → length new < length old
fewer a old new x e = simp length-map at (took a (lexemes old) x (lexemes new) e)

-- ---- any number, where what may come next depends on what came

-- one more item was read
pub from_goes_on : {S X : Type 0} (set : S → Set) (g : S → Grammar X) (next : S → X → S) {f : S → Set} {m : Set}
    → ((z : S) → Good (g z) (f z) false m)
    → (st : S) (front : List X) (s : List Lexeme) (x : X) (r : List Lexeme) (total : Outcome (List X))
    → heads (set st) s ≡ true → (g st).reads s ≡ Ok (x, r) → after front ((many_from set g next st).reads s) ≡ total
    → after (front ++ x ∷ []) ((many_from set g next (next st x)).reads r) ≡ total
from_goes_on set g next {f} {m} a st front s x r total here one so_far =
    turned front x _ _ total (from_one set g next f m a st s here ∙ rw one refl) so_far

-- reading an item failed
pub from_fails : {S X : Type 0} (set : S → Set) (g : S → Grammar X) (next : S → X → S) {f : S → Set} {m : Set}
    → ((z : S) → Good (g z) (f z) false m)
    → (err : ReadError) (st : S) (front : List X) (s r : List Lexeme) (total : Outcome (List X))
    → heads (set st) s ≡ true → Fails err r ((g st).reads s) → after front ((many_from set g next st).reads s) ≡ total
    → Fails err r total
from_fails set g next a errors.Memory st front s r total here one so_far = tt
from_fails set g next {f} {m} a (errors.Fault d) st front s r total here one so_far =
    failed front d r _ total (from_one set g next f m a st s here ∙ rw one refl) so_far

-- no more items stand there
pub from_ends : {S X : Type 0} (set : S → Set) (g : S → Grammar X) (next : S → X → S) {f : S → Set} {m : Set}
    → ((z : S) → Good (g z) (f z) false m)
    → (st : S) (front : List X) (s : List Lexeme) (total : Outcome (List X))
    → heads (set st) s ≡ false → after front ((many_from set g next st).reads s) ≡ total → total ≡ Ok (front, s)
from_ends set g next {f} {m} a st front s total none so_far =
    finished front s _ total (from_none set g next f m a st s none) so_far

-- ---- any number of the same

-- one more item was read
pub goes_on : {X : Type 0} (set : Set) (g : Grammar X) {f m : Set} → Good g f false m
    → (front : List X) (s : List Lexeme) (x : X) (r : List Lexeme) (total : Outcome (List X))
    → heads set s ≡ true → g.reads s ≡ Ok (x, r) → after front ((many set g).reads s) ≡ total
    → after (front ++ x ∷ []) ((many set g).reads r) ≡ total
goes_on set g a front s x r total here one so_far =
    ap (after (front ++ x ∷ [])) ((many_alike set g).read r)
    ∙ from_goes_on (λ z. set) (λ z. g) (λ z x. z) (λ z. a) 0 front s x r total here one
    (ap (after front) (sym ((many_alike set g).read s)) ∙ so_far)

-- reading an item failed
pub fails : {X : Type 0} (set : Set) (g : Grammar X) {f m : Set} → Good g f false m
    → (err : ReadError) (front : List X) (s r : List Lexeme) (total : Outcome (List X))
    → heads set s ≡ true → Fails err r (g.reads s) → after front ((many set g).reads s) ≡ total → Fails err r total
fails set g a err front s r total here one so_far =
    from_fails (λ z. set) (λ z. g) (λ z x. z) (λ z. a) err 0 front s r total here one
    (ap (after front) (sym ((many_alike set g).read s)) ∙ so_far)

-- no more items stand there
pub ends : {X : Type 0} (set : Set) (g : Grammar X) {f m : Set} → Good g f false m
    → (front : List X) (s : List Lexeme) (total : Outcome (List X))
    → heads set s ≡ false → after front ((many set g).reads s) ≡ total → total ≡ Ok (front, s)
ends set g a front s total none so_far =
    from_ends (λ z. set) (λ z. g) (λ z x. z) (λ z. a) 0 front s total none
    (ap (after front) (sym ((many_alike set g).read s)) ∙ so_far)
