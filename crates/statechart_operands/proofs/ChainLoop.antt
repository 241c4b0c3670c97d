-- Reading a chain of operators, as a loop does that joins each operand as it comes.
use Rattle.std.proofs.Common.{◌≡◌, ℕ, true, false, List, Ok, Err, refl, sym, ap, ◌∙◌}
use Rattle.token_grammar.specs.declared.fault.ReadError.{ReadError}
use Rattle.token_grammar.specs.declared.fault.ReadError.TheVariants as errors
use Rattle.token_grammar.specs.Token.{Lexeme, Outcome, Fails}
use Rattle.token_grammar.specs.Grammar.{and_then, heads}
use Rattle.token_grammar.proofs.Good.{Set}
use Rattle.token_grammar.proofs.State.{consed, from_none, from_one}
use Rattle.token_grammar.proofs.Fine.{Fine}
use Rattle.chart_grammar.specs.Limits.{Limits}
use Rattle.statechart_grammar.specs.Expressions.{Operand, Tail, Operands, tail, tails, with_tail, joined, chain}
use Rattle.statechart_grammar.proofs.ChainLaws.{good_tail}

-- what was read so far, and what is still read after it
abbrev pub resumed : Operand → Outcome (List Tail) → Outcome Operand
resumed e read = and_then read (λ ts r. Ok (joined e ts, r))

-- joining the operator in hand before the others are read joins it after them too
regroup : (e : Operand) (t : Tail) (read : Outcome (List Tail))
    → resumed e (consed t read) ≡ resumed (with_tail e t) read
regroup e t (Ok y) = refl
regroup e t (Err d) = refl

module _ (l : Limits) (set : Set) {operand : Operands} {f m : Set} (a : (n : ℕ) → Fine (operand n) f false m) where
  -- the first operand was read
  pub chain_begins : (n : ℕ) (s : List Lexeme) (e : Operand) (r : List Lexeme) → (operand n).reads s ≡ Ok (e, r)
      → resumed e ((tails l set operand e.operators).reads r) ≡ (chain l set operand n).reads s
  unfolding chain
  chain_begins n s e r one = rw one refl

  -- reading it failed
  pub chain_fails_first : (n : ℕ) (s : List Lexeme) (err : ReadError) (r : List Lexeme)
      → Fails err r ((operand n).reads s)
      → Fails err r ((chain l set operand n).reads s)
  unfolding chain
  chain_fails_first n s errors.Memory r one = tt
  chain_fails_first n s (errors.Fault d) r one = rw one refl

  -- one more operator with its operand was read
  pub chain_goes_on : (e : Operand) (s : List Lexeme) (t : Tail) (r : List Lexeme) (total : Outcome Operand)
      → heads set s ≡ true → (tail l set operand e.operators).reads s ≡ Ok (t, r)
      → resumed e ((tails l set operand e.operators).reads s) ≡ total
      → resumed (with_tail e t) ((tails l set operand (with_tail e t).operators).reads r) ≡ total
  unfolding tails
  chain_goes_on e s t r total here one so_far =
      let read = from_one (λ z. set) (tail l set operand) (λ z t. t.right.operators) (λ z. set) m
      (good_tail l set a) e.operators s here in
      sym (regroup e t _) ∙ ap (resumed e) (sym (read ∙ rw one refl)) ∙ so_far

  -- reading it failed
  pub chain_fails : (e : Operand) (err : ReadError) (s r : List Lexeme) (total : Outcome Operand)
      → heads set s ≡ true → Fails err r ((tail l set operand e.operators).reads s)
      → resumed e ((tails l set operand e.operators).reads s) ≡ total → Fails err r total
  unfolding tails
  chain_fails e errors.Memory s r total here one so_far = tt
  chain_fails e (errors.Fault d) s r total here one so_far =
      let read = from_one (λ z. set) (tail l set operand) (λ z t. t.right.operators) (λ z. set) m
      (good_tail l set a) e.operators s here in
      let stopped : (tails l set operand e.operators).reads s ≡ Err (d, r) = read ∙ rw one refl in
      sym so_far ∙ ap (resumed e) stopped

  -- no operator stands there
  pub chain_ends : (e : Operand) (s : List Lexeme) (total : Outcome Operand)
      → heads set s ≡ false → resumed e ((tails l set operand e.operators).reads s) ≡ total → total ≡ Ok (e, s)
  unfolding tails
  chain_ends e s total none so_far =
      let read = from_none (λ z. set) (tail l set operand) (λ z t. t.right.operators) (λ z. set) m
      (good_tail l set a) e.operators s none in
      sym so_far ∙ ap (resumed e) read
