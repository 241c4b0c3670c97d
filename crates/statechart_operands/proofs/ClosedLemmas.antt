-- What is seen of a value that ends with a token.
use Rattle.std.proofs.Common.{◌≡◌, Result, Ok, Err, List, refl, ap}
use Rattle.token_grammar.specs.declared.token.Kind.{Kind}
use Rattle.token_grammar.specs.declared.fault.ReadError.{ReadError}
use Rattle.token_grammar.specs.declared.fault.ReadError.TheVariants as errors
use Rattle.token_grammar.specs.Token.{Lexeme, Outcome, Gives}
use Rattle.token_grammar.specs.Grammar.{and_then, token}
use Rattle.statechart_tokens.specs.Parts.{closed_by}

-- what is seen of what was read
abbrev pub mapped : {X Y : Type 0} → (X → Y) → Outcome X → Outcome Y
mapped view (Ok x) = Ok (view x.0, x.1)
mapped view (Err e) = Err e

-- what was read is seen so
mapped_gives : {X Y : Type 0} (view : X → Y) (result : Result X ReadError) (r : List Lexeme) (read : Outcome X)
    → Gives (λ v. v) result r read → Gives view result r (mapped view read)
mapped_gives view (Ok v) r read e = ap (mapped view) e
mapped_gives view (Err errors.Memory) r read e = tt
mapped_gives view (Err (errors.Fault f)) r read e = ap (mapped view) e

-- a value before a token
mapped_closed : {X Y : Type 0} (view : X → Y) (value : X) (read : Outcome Lexeme)
    → mapped view (and_then read (λ t q. Ok (value, q))) ≡ and_then read (λ t q. Ok (view value, q))
mapped_closed view value (Ok x) = refl
mapped_closed view value (Err e) = refl

-- so is one that ends with a token
pub closed_seen : {X Y : Type 0} (view : X → Y) (kind : Kind) (value : X) (result : Result X ReadError)
    (s r : List Lexeme)
    → Gives (λ v. v) result r ((closed_by kind value).reads s) → Gives view result r ((closed_by kind (view value)).reads s)
closed_seen view kind value result s r e =
    rw (mapped_closed view value ((token kind).reads s)) at
    (mapped_gives view result r ((closed_by kind value).reads s) e)
