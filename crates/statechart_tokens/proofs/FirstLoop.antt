-- Reading a first item and then any number of others, as a loop does that keeps the first among them.
use Rattle.std.proofs.Common.{◌≡◌, true, false, List, [], ◌∷◌, ◌++◌, Ok, Err, refl, sym, ap, ◌∙◌}
use Rattle.token_grammar.specs.declared.fault.ReadError.{ReadError}
use Rattle.token_grammar.specs.declared.fault.ReadError.TheVariants as errors
use Rattle.token_grammar.specs.Token.{Lexeme, Outcome, Fails}
use Rattle.token_grammar.specs.Grammar.{Grammar, and_then, heads, many, many_from, after}
use Rattle.token_grammar.proofs.Good.{Set, Good}
use Rattle.token_grammar.proofs.Loop.{from_goes_on, from_fails, from_ends, goes_on, fails, ends}

-- what was read so far, what is still read after it, and what is made of all
abbrev pub kept : {X Y : Type 0} → (List X → List Lexeme → Outcome Y) → List X → Outcome (List X) → Outcome Y
kept more front read = and_then (after front read) more

-- the first was read
pub first_kept : {X Y : Type 0} (more : List X → List Lexeme → Outcome Y) (x : X) (read : Outcome (List X))
    → kept more (x ∷ []) read ≡ and_then read (λ xs r. more (x ∷ xs) r)
first_kept more x (Ok y) = refl
first_kept more x (Err e) = refl

-- what failed is a failure of the whole
kept_fails : {X Y : Type 0} (more : List X → List Lexeme → Outcome Y) (err : ReadError) (r : List Lexeme)
    (read : Outcome (List X)) (total : Outcome Y)
    → Fails err r read → and_then read more ≡ total → Fails err r total
kept_fails more errors.Memory r read total failed so_far = tt
kept_fails more (errors.Fault d) r read total failed so_far = sym so_far ∙ rw failed refl

-- ---- any number of the same

module _ {X Y : Type 0} (more : List X → List Lexeme → Outcome Y) (set : Set) (g : Grammar X) {f m : Set}
    (good : Good g f false m) where
  -- one more was read
  pub kept_goes_on : (front : List X) (s : List Lexeme) (x : X) (r : List Lexeme) (total : Outcome Y)
      → heads set s ≡ true → g.reads s ≡ Ok (x, r) → kept more front ((many set g).reads s) ≡ total
      → kept more (front ++ x ∷ []) ((many set g).reads r) ≡ total
  kept_goes_on front s x r total here one so_far =
      ap (λ read. and_then read more) (goes_on set g good front s x r _ here one refl) ∙ so_far

  -- reading one failed
  pub kept_stops : (err : ReadError) (front : List X) (s r : List Lexeme) (total : Outcome Y)
      → heads set s ≡ true → Fails err r (g.reads s) → kept more front ((many set g).reads s) ≡ total
      → Fails err r total
  kept_stops err front s r total here one so_far =
      kept_fails more err r _ total (fails set g good err front s r _ here one refl) so_far

  -- no more stand there
  pub kept_ends : (front : List X) (s : List Lexeme) (total : Outcome Y)
      → heads set s ≡ false → kept more front ((many set g).reads s) ≡ total → total ≡ more front s
  kept_ends front s total none so_far =
      sym so_far ∙ ap (λ read. and_then read more) (ends set g good front s _ none refl)

-- ---- any number, where what may come next depends on what came

module _ {S X Y : Type 0} (more : List X → List Lexeme → Outcome Y) (set : S → Set) (g : S → Grammar X)
    (next : S → X → S) {f : S → Set} {m : Set} (good : (z : S) → Good (g z) (f z) false m) where
  -- one more was read
  pub kept_from_goes_on : (st : S) (front : List X) (s : List Lexeme) (x : X) (r : List Lexeme) (total : Outcome Y)
      → heads (set st) s ≡ true → (g st).reads s ≡ Ok (x, r)
      → kept more front ((many_from set g next st).reads s) ≡ total
      → kept more (front ++ x ∷ []) ((many_from set g next (next st x)).reads r) ≡ total
  kept_from_goes_on st front s x r total here one so_far =
      ap (λ read. and_then read more) (from_goes_on set g next good st front s x r _ here one refl) ∙ so_far

  -- reading one failed
  pub kept_from_stops : (err : ReadError) (st : S) (front : List X) (s r : List Lexeme) (total : Outcome Y)
      → heads (set st) s ≡ true → Fails err r ((g st).reads s)
      → kept more front ((many_from set g next st).reads s) ≡ total → Fails err r total
  kept_from_stops err st front s r total here one so_far =
      kept_fails more err r _ total (from_fails set g next good err st front s r _ here one refl) so_far

  -- no more stand there
  pub kept_from_ends : (st : S) (front : List X) (s : List Lexeme) (total : Outcome Y)
      → heads (set st) s ≡ false → kept more front ((many_from set g next st).reads s) ≡ total → total ≡ more front s
  kept_from_ends st front s total none so_far =
      sym so_far ∙ ap (λ read. and_then read more) (from_ends set g next good st front s _ none refl)
