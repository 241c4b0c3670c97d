-- Expressions, where some limits don't count.
-- `lifted_x` compares the production x under the usual limits with x under limits of which some don't count. `eased_x`
-- says so too, and that x has a spelling. `starts_x` says that each token of a set begins x, and `expects_x` that no
-- other does.
use Rattle.std.proofs.Common.{◌≡◌, ℕ, zero, suc, ◌+◌, true, false, Some, refl}
use Rattle.token_grammar.specs.declared.token.Kind.TheVariants as kinds
use Rattle.token_grammar.specs.declared.fault.TokenFault.{TokenFault}
use Rattle.token_grammar.specs.declared.fault.TokenFault.TheVariants as faults
use Rattle.token_grammar.specs.declared.fault.Thing.TheVariants as things
use Rattle.token_grammar.specs.Grammar.{is, allowed}
use Rattle.token_grammar.proofs.Good.{nothing}
use Rattle.token_grammar.proofs.Leaves.{sample_token, sample_give}
use Rattle.token_grammar.proofs.Join.{sample_then}
use Rattle.token_grammar.proofs.Fine.{Fine}
use Rattle.token_grammar.proofs.Lifted.{Lifted, Eased, eased_token, eased_one_of, eased_give, lifted_then, eased_then}
use Rattle.token_grammar.proofs.Lifted.{lifted_either, eased_either}
use Rattle.token_grammar.proofs.LiftedLimits.{lifted_allowed_kept, lifted_forbidden}
use Rattle.token_grammar.proofs.LiftedRefused.{lifted_read, refused_read}
use Rattle.token_grammar.proofs.Starts.{Starts, Expects, starts_then, starts_either, expects_then, expects_either}
use Rattle.chart_tree.specs.Trees.{Lit, Flag, Name, Active, Unary}
use Rattle.chart_grammar.specs.Limits.{Limits, usual, lifts_from}
use Rattle.chart_grammar.specs.Words.{name_of, lit_of}
use Rattle.chart_grammar.specs.Expressions.{Operands, product_heads, sum_heads, comparison_heads, sign_heads}
use Rattle.chart_grammar.specs.Expressions.{nested_heads, flag_heads, un_word, literal, flag, datum, active, plain}
use Rattle.chart_grammar.specs.Expressions.{product, sum, comparison, conjunction, disjunction, signed, parens}
use Rattle.chart_grammar.specs.Expressions.{nested, too_nested, unary, operand, expr}
use Rattle.chart_grammar.proofs.ExpressionLaws.{operand_heads, sum_more, comparison_more, conjunction_more}
use Rattle.chart_grammar.proofs.ExpressionLaws.{fine_plain_operand, fine_product, fine_sum, fine_comparison}
use Rattle.chart_grammar.proofs.ExpressionLaws.{fine_conjunction, fine_disjunction, fine_unary}
use Rattle.chart_grammar.proofs.LimitLaws.{Comparison, expected, Deeper, bound_deeper}
use Rattle.chart_grammar.proofs.LiftedWords.{eased_path, eased_number}
use Rattle.chart_grammar.proofs.LiftedChains.{lifted_operator, starts_operator, expects_operator, Compared}
use Rattle.chart_grammar.proofs.LiftedChains.{eased_chain, eased_pair}

-- ---- operands without an operator

module _ {k : ℕ} {l : Limits} (c : Comparison k l) where
  eased_literal : (n : ℕ) → Eased (lifts_from k) (literal usual n) (literal l n)
  unfolding literal
  eased_literal n =
      eased_then (eased_number c) (λ t. eased_give (record { expr = Lit (lit_of t.text) t.at; operators = n }))

  eased_flag : (n : ℕ) → Eased (lifts_from k) (flag n) (flag n)
  unfolding flag
  eased_flag n =
      eased_then (eased_one_of (expected c) flag_heads kinds.True refl) (λ t.
      eased_give (record { expr = Flag (is kinds.True t.kind) t.at; operators = n }))

  eased_datum : (n : ℕ) → Eased (lifts_from k) (datum n) (datum n)
  unfolding datum
  eased_datum n = eased_then (eased_token (expected c) kinds.Name)
      (λ t. eased_give (record { expr = Name (name_of t); operators = n }))

  eased_active : (n : ℕ) → Eased (lifts_from k) (active n) (active n)
  unfolding active
  eased_active n =
      eased_then (eased_token (expected c) kinds.In) (λ t.
      eased_then (eased_token (expected c) kinds.OpenParen) (λ _.
      eased_then (eased_path c) (λ path.
      eased_then (eased_token (expected c) kinds.CloseParen) (λ _.
      eased_give (record { expr = Active path t.at; operators = n })))))

  pub eased_plain : (n : ℕ) → Eased (lifts_from k) (plain usual n) (plain l n)
  unfolding plain
  eased_plain n =
      eased_either (is kinds.Number) (eased_literal n).lifted
      (eased_either flag_heads (eased_flag n).lifted
      (eased_either (is kinds.In) (eased_active n).lifted (eased_datum n)))

-- ---- levels, and nesting

module _ {k : ℕ} {l : Limits} {unary unary' : Operands} (c : Comparison k l)
    (a : Compared k operand_heads nothing unary unary') where
  products : Compared k operand_heads product_heads (product usual unary) (product l unary')
  unfolding product
  products = record { fine = fine_product usual a.fine; fine' = fine_product l a.fine'; eased = eased_chain c product_heads a }

  sums : Compared k operand_heads sum_more (sum usual unary) (sum l unary')
  unfolding sum
  sums = record { fine = fine_sum usual a.fine; fine' = fine_sum l a.fine'; eased = eased_chain c sum_heads products }

  comparisons : Compared k operand_heads comparison_more (comparison usual unary) (comparison l unary')
  unfolding comparison
  comparisons = record {
    fine = fine_comparison usual a.fine;
    fine' = fine_comparison l a.fine';
    eased = eased_pair c comparison_heads sums;
  }

  conjunctions : Compared k operand_heads conjunction_more (conjunction usual unary) (conjunction l unary')
  unfolding conjunction
  conjunctions = record {
    fine = fine_conjunction usual a.fine;
    fine' = fine_conjunction l a.fine';
    eased = eased_chain c (is kinds.AndAnd) comparisons;
  }

  pub eased_disjunction : (n : ℕ) → Eased (lifts_from k) (disjunction usual unary n) (disjunction l unary' n)
  unfolding disjunction
  eased_disjunction n = eased_chain c (is kinds.OrOr) conjunctions n

  lifted_signed : (n : ℕ) → Lifted (lifts_from k) (signed usual unary n) (signed l unary' n)
  unfolding signed
  lifted_signed n =
      lifted_then (lifted_operator c sign_heads n) (λ t.
      eased_then (a.eased (n + 1)) (λ inner.
      eased_give (record { expr = Unary (un_word t.kind) inner.expr t.at; operators = inner.operators })))

  lifted_parens : (n : ℕ) → Lifted (lifts_from k) (parens usual unary n) (parens l unary' n)
  unfolding parens
  lifted_parens n =
      lifted_then (lifted_operator c (is kinds.OpenParen) n) (λ _.
      eased_then (eased_disjunction (n + 1)) (λ inner.
      eased_then (eased_token (expected c) kinds.CloseParen) (λ _.
      eased_give inner)))

  pub lifted_nested : (n : ℕ) → Lifted (lifts_from k) (nested usual unary n) (nested l unary' n)
  unfolding nested
  lifted_nested n = lifted_either sign_heads (lifted_signed n) (lifted_parens n)

-- ---- what nesting begins with

module _ {k : ℕ} {l : Limits} {unary : Operands} (c : Comparison k l)
    (lift : lifts_from k (faults.TooMany things.Operators) ≡ true)
    (a : (n : ℕ) → Fine (unary n) operand_heads false nothing) where
  starts_signed : (n : ℕ) → Starts sign_heads (signed l unary n)
  unfolding signed
  starts_signed n =
      starts_then (starts_operator c lift sign_heads n) (λ t. sample_then (a (n + 1)).sample (λ inner. sample_give _))

  starts_parens : (n : ℕ) → Starts (is kinds.OpenParen) (parens l unary n)
  unfolding parens
  starts_parens n =
      starts_then (starts_operator c lift (is kinds.OpenParen) n) (λ _.
      sample_then (fine_disjunction l a (n + 1)).sample (λ inner.
      sample_then (sample_token kinds.CloseParen) (λ _. sample_give inner)))

  starts_nested : (n : ℕ) → Starts nested_heads (nested l unary n)
  unfolding nested
  starts_nested n = starts_either sign_heads (starts_signed n) (starts_parens n)

expects_nested : (l : Limits) (unary : Operands) (n : ℕ) → Expects nested_heads (nested l unary n)
unfolding nested signed parens
expects_nested l unary n =
    expects_either sign_heads (expects_then _ (expects_operator l sign_heads n))
    (expects_then _ (expects_operator l (is kinds.OpenParen) n))

-- ---- nested to a depth, and deeper where that is lifted

module _ {k : ℕ} {l : Limits} (c : Comparison k l) where
  plain_operands : Compared k operand_heads nothing (plain usual) (plain l)
  plain_operands = record { fine = fine_plain_operand usual; fine' = fine_plain_operand l; eased = eased_plain c }

  -- one more operator or parenthesis is refused on both sides
  lifted_none : lifts_from k (faults.TooMany things.Operators) ≡ false → (n : ℕ)
      → Lifted (lifts_from k) (allowed nested_heads too_nested (nested usual (plain usual) n))
      (allowed nested_heads too_nested (nested l (plain l) n))
  lifted_none kept n =
      lifted_allowed_kept nested_heads too_nested too_nested (lifted_nested c plain_operands n)
      (λ t there. rw kept refl) (λ t f said. same f said)
    where
      same : (f : TokenFault) → Some (faults.TooMany things.Operators) ≡ Some f → lifts_from k f ≡ false
      same f said = let e : faults.TooMany things.Operators ≡ f = cc in rw (← e) kept

  -- and on the left alone
  lifted_one : lifts_from k (faults.TooMany things.Operators) ≡ true → (unary : Operands)
      → ((n : ℕ) → Fine (unary n) operand_heads false nothing)
      → (n : ℕ) → Lifted (lifts_from k) (allowed nested_heads too_nested (nested usual (plain usual) n))
      (nested l unary n)
  lifted_one lift unary a n =
      lifted_read (refused_read nested_heads (faults.TooMany things.Operators) (expects_nested usual (plain usual) n))
      (lifted_forbidden (expected c) nested_heads (faults.TooMany things.Operators) lift (starts_nested c lift a n)
      (expects_nested l unary n))

  pub eased_unary : (d e : ℕ) → Deeper (lifts_from k (faults.TooMany things.Operators)) d e → (n : ℕ)
      → Eased (lifts_from k) (unary usual d n) (unary l e n)
  unfolding unary
  eased_unary zero zero kept n = eased_either nested_heads (lifted_none kept n) (eased_plain c n)
  eased_unary zero (suc e) lift n =
      eased_either nested_heads (lifted_one lift (unary l e) (fine_unary l e) n) (eased_plain c n)
  eased_unary (suc d) zero h n = absurd h
  eased_unary (suc d) (suc e) h n =
      let deeper : Compared k operand_heads nothing (unary usual d) (unary l e) = record {
        fine = fine_unary usual d;
        fine' = fine_unary l e;
        eased = eased_unary d e h;
      } in
      eased_either nested_heads (lifted_nested c deeper n) (eased_plain c n)

  pub eased_operand : Eased (lifts_from k) (operand usual) (operand l)
  unfolding operand
  eased_operand =
      let h = bound_deeper (lifts_from k (faults.TooMany things.Operators)) usual.nesting l.nesting c.from.nesting in
      let deeper : Compared k operand_heads nothing (unary usual usual.nesting) (unary l l.nesting) = record {
        fine = fine_unary usual usual.nesting;
        fine' = fine_unary l l.nesting;
        eased = eased_unary usual.nesting l.nesting h;
      } in
      eased_disjunction c deeper 0

  pub eased_expr : Eased (lifts_from k) (expr usual) (expr l)
  unfolding expr
  eased_expr = eased_then eased_operand (λ e. eased_give e.expr)
