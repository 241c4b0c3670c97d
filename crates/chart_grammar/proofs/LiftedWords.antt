-- Names, paths and numbers, where some limits don't count.
-- `lifted_x` compares the production x under the usual limits with x under limits of which some don't count. `eased_x`
-- says so too, and that x has a spelling. `starts_x` says that each token of a set begins x, and `expects_x` that no
-- other does.
use Rattle.std.proofs.Common.{ℕ, ◌∷◌}
use Rattle.token_grammar.specs.declared.token.Kind.TheVariants as kinds
use Rattle.token_grammar.specs.Grammar.{is}
use Rattle.token_grammar.proofs.Lifted.{Eased, eased_token, eased_give, eased_then}
use Rattle.token_grammar.proofs.LiftedItems.{eased_many}
use Rattle.token_grammar.proofs.LiftedLimits.{lifted_allowed}
use Rattle.token_grammar.proofs.Starts.{starts_token}
use Rattle.chart_grammar.specs.Limits.{Limits, usual, lifts_from}
use Rattle.chart_grammar.specs.Words.{name, name_of, step, path, literal_refused, number}
use Rattle.chart_grammar.proofs.WordLaws.{fine_step, fine_number}
use Rattle.chart_grammar.proofs.LimitLaws.{Comparison, expected, literal_alike}

pub eased_name : {k : ℕ} {l : Limits} → Comparison k l → Eased (lifts_from k) name name
unfolding name
eased_name c = eased_then (eased_token (expected c) kinds.Name) (λ t. eased_give (name_of t))

pub eased_step : {k : ℕ} {l : Limits} → Comparison k l → Eased (lifts_from k) step step
unfolding step
eased_step c = eased_then (eased_token (expected c) kinds.Slash) (λ _. eased_name c)

pub eased_path : {k : ℕ} {l : Limits} → Comparison k l → Eased (lifts_from k) path path
unfolding path
eased_path c =
    eased_then (eased_name c) (λ first.
    eased_then (eased_many (is kinds.Slash) fine_step.good fine_step.good (eased_step c).lifted) (λ others.
    eased_give (first ∷ others)))

pub eased_number : {k : ℕ} {l : Limits} → Comparison k l → Eased (lifts_from k) (number usual) (number l)
unfolding number
eased_number {k} {l} c = record {
  lifted =
      lifted_allowed (is kinds.Number) (literal_refused usual) (literal_refused l)
      (eased_token (expected c) kinds.Number).lifted
      (λ t there. literal_alike c t) (starts_token kinds.Number);
  sample = (fine_number l).sample;
}
