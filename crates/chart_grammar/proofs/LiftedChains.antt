-- Chains of operators, where some limits don't count.
-- `lifted_x` compares the production x under the usual limits with x under limits of which some don't count. `eased_x`
-- says so too, and that x has a spelling. `starts_x` says that each token of a set begins x, and `expects_x` that no
-- other does.
use Rattle.std.proofs.Common.{◌≡◌, ℕ, ◌+◌, true, false}
use Rattle.token_grammar.specs.declared.fault.TokenFault.TheVariants as faults
use Rattle.token_grammar.specs.declared.fault.Thing.TheVariants as things
use Rattle.token_grammar.proofs.Good.{Set}
use Rattle.token_grammar.proofs.Fine.{Fine}
use Rattle.token_grammar.proofs.Lifted.{Lifted, Eased, lifted_one_of, lifted_then, eased_give, eased_then}
use Rattle.token_grammar.proofs.Lifted.{eased_optional}
use Rattle.token_grammar.proofs.LiftedItems.{eased_many_from}
use Rattle.token_grammar.proofs.LiftedLimits.{lifted_allowed}
use Rattle.token_grammar.proofs.Starts.{Starts, Expects, starts_one_of, starts_allowed, expects_one_of, expects_allowed}
use Rattle.chart_grammar.specs.Limits.{Limits, usual, one_more, lifts_from}
use Rattle.chart_grammar.specs.Expressions.{Operands, bin_word, operator, tail, tails, joined, compared, chain, pair}
use Rattle.chart_grammar.proofs.ChainLaws.{good_tail}
use Rattle.chart_grammar.proofs.LimitLaws.{Comparison, expected, one_more_alike, one_more_free}

pub lifted_operator : {k : ℕ} {l : Limits} → Comparison k l → (set : Set) (n : ℕ)
    → Lifted (lifts_from k) (operator usual set n) (operator l set n)
unfolding operator
lifted_operator {k} {l} c set n =
    lifted_allowed set (λ t. one_more usual things.Operators n) (λ t. one_more l things.Operators n)
    (lifted_one_of (expected c) set)
    (λ t there. one_more_alike c things.Operators n) (starts_one_of set)

-- where there is no limit on operators
pub starts_operator : {k : ℕ} {l : Limits} → Comparison k l → lifts_from k (faults.TooMany things.Operators) ≡ true
    → (set : Set) (n : ℕ)
    → Starts set (operator l set n)
unfolding operator
starts_operator {k} {l} c lift set n =
    starts_allowed set (λ t. one_more l things.Operators n) (starts_one_of set)
    (λ t there. one_more_free c things.Operators n lift)

pub expects_operator : (l : Limits) (set : Set) (n : ℕ) → Expects set (operator l set n)
unfolding operator
expects_operator l set n = expects_allowed set (λ t. one_more l things.Operators n) (expects_one_of set)

-- operands that read as they spell, and the others where some limits don't count
pub record Compared (k : ℕ) (f m : Set) (operand operand' : Operands) : Type 0 where
  pub fine : (n : ℕ) → Fine (operand n) f false m
  pub fine' : (n : ℕ) → Fine (operand' n) f false m
  pub eased : (n : ℕ) → Eased (lifts_from k) (operand n) (operand' n)

module _ {k : ℕ} {l : Limits} {f m : Set} {operand operand' : Operands} (c : Comparison k l) (set : Set)
    (a : Compared k f m operand operand') where
  lifted_tail : (n : ℕ) → Lifted (lifts_from k) (tail usual set operand n) (tail l set operand' n)
  unfolding tail
  lifted_tail n =
      lifted_then (lifted_operator c set n) (λ t.
      eased_then (a.eased (n + 1)) (λ right.
      eased_give (record { word = bin_word t.kind; at = t.at; right = right })))

  eased_tails : (n : ℕ) → Eased (lifts_from k) (tails usual set operand n) (tails l set operand' n)
  unfolding tails
  eased_tails n = eased_many_from (λ z. set) (λ z t. t.right.operators) (good_tail usual set a.fine)
      (good_tail l set a.fine') lifted_tail n

  pub eased_chain : (n : ℕ) → Eased (lifts_from k) (chain usual set operand n) (chain l set operand' n)
  unfolding chain
  eased_chain n =
      eased_then (a.eased n) (λ first.
      eased_then (eased_tails first.operators) (λ others.
      eased_give (joined first others)))

  pub eased_pair : (n : ℕ) → Eased (lifts_from k) (pair usual set operand n) (pair l set operand' n)
  unfolding pair
  eased_pair n =
      eased_then (a.eased n) (λ first.
      eased_then (eased_optional set (lifted_tail first.operators)) (λ second.
      eased_give (compared first second)))
