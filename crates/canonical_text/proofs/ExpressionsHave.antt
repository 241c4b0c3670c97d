-- What a spelled expression has.
-- `x_has` says what is so of each x that tokens cut from a text spell.
use Rattle.std.proofs.Common.{◌≡◌, ℕ, zero, suc, ◌+◌, List, refl, arith, inl, inr, sym, subst}
use Rattle.flow_base.specs.declared.chart_limits.TheConstants.{OPERATOR_LIMIT}
use Rattle.token_grammar.specs.declared.token.Kind.TheVariants as kinds
use Rattle.token_grammar.specs.Token.{Lexeme}
use Rattle.token_grammar.specs.Grammar.{is}
use Rattle.chart_tree.specs.Trees.{Expr, Lit, Flag, Name, Active}
use Rattle.chart_grammar.specs.Limits.{usual}
use Rattle.chart_grammar.specs.Words.{lit_of, name_of}
use Rattle.chart_grammar.specs.Expressions.{Operand, Operands, un_word, sign_heads, product_heads, sum_heads}
use Rattle.chart_grammar.specs.Expressions.{comparison_heads, literal, flag, datum, active, plain, product, sum}
use Rattle.chart_grammar.specs.Expressions.{comparison, conjunction, disjunction, signed, parens, nested, unary}
use Rattle.chart_grammar.specs.Expressions.{operand, expr}
use Rattle.canonical_text.specs.Claims.{AreCut}
use Rattle.canonical_text.specs.Terms.{HasTerms, IsExpr}
use Rattle.canonical_text.proofs.Cut.{cut_token, cut_first, cut_second}
use Rattle.canonical_text.proofs.Costs.{cost, cost-unary, cost-most, cost-whole}
use Rattle.canonical_text.proofs.Precedences.{product_precedence, sum_precedence, comparison_precedence}
use Rattle.canonical_text.proofs.Precedences.{conjunction_precedence, disjunction_precedence}
use Rattle.canonical_text.proofs.ChainsHave.{IsOperand, AreOperands, operator_room, chain_has, pair_has}
use Rattle.canonical_text.proofs.Names.{path_has}
use Rattle.canonical_text.proofs.Numbers.{number_has}

-- ---- the levels over the operands with no operator between two others

product_has : (operand : Operands) → AreOperands 6 operand → AreOperands 5 (product usual operand)
unfolding product
product_has operand has = chain_has 5 product_heads operand product_precedence has (λ word e. rw e refl)

sum_has : (operand : Operands) → AreOperands 6 operand → AreOperands 4 (sum usual operand)
unfolding sum
sum_has operand has =
    chain_has 4 sum_heads (product usual operand) sum_precedence (product_has operand has) (λ word e. rw e refl)

comparison_has : (operand : Operands) → AreOperands 6 operand → AreOperands 3 (comparison usual operand)
unfolding comparison
comparison_has operand has =
    pair_has 3 comparison_heads (sum usual operand) comparison_precedence (sum_has operand has) (λ word e. rw e refl)

conjunction_has : (operand : Operands) → AreOperands 6 operand → AreOperands 2 (conjunction usual operand)
unfolding conjunction
conjunction_has operand has =
    chain_has 2 (is kinds.AndAnd) (comparison usual operand) conjunction_precedence (comparison_has operand has)
    (λ word e. rw e refl)

disjunction_has : (operand : Operands) → AreOperands 6 operand → AreOperands 1 (disjunction usual operand)
unfolding disjunction
disjunction_has operand has =
    chain_has 1 (is kinds.OrOr) (conjunction usual operand) disjunction_precedence (conjunction_has operand has)
    (λ word e. rw e refl)

-- ---- operands without an operator

-- an operand without an operator costs none
plain_operand : (p n : ℕ) (e : Expr) → HasTerms e → cost p e ≡ 0 → IsOperand p n (record { expr = e; operators = n })
plain_operand p n e terms none = record { terms = terms; counted = omega arith; within = λ low. low }

literal_has : AreOperands 6 (literal usual)
unfolding literal
literal_has n u o cut s =
    rw s.second.1
    (plain_operand 6 n (Lit (lit_of s.x.text) s.x.at)
    (number_has s.p s.x (cut_first s cut) s.first) refl)

flag_has : AreOperands 6 flag
unfolding flag
flag_has n u o cut s = rw s.second.1 (plain_operand 6 n (Flag (is kinds.True s.x.kind) s.x.at) (record {}) refl)

datum_has : AreOperands 6 datum
unfolding datum
datum_has n u o cut s =
    let c = cut_token kinds.Name s.p s.x (cut_first s cut) s.first in
    rw s.second.1 (plain_operand 6 n (Name (name_of s.x)) (c.0.name c.1) refl)

active_has : AreOperands 6 active
unfolding active
active_has n u o cut s =
    let a = cut_second s cut in
    let b = cut_second s.second a in
    let t = s.second.second in
    let path = path_has t.p t.x (cut_first t b) t.first in
    rw t.second.second.1 (plain_operand 6 n (Active t.x s.x.at) path refl)

plain_has : AreOperands 6 (plain usual)
unfolding plain
plain_has n u o cut (inl s) = literal_has n u o cut s
plain_has n u o cut (inr (inl s)) = flag_has n u o cut s
plain_has n u o cut (inr (inr (inl s))) = active_has n u o cut s
plain_has n u o cut (inr (inr (inr s))) = datum_has n u o cut s

-- ---- nested operands

signed_has : (operand : Operands) → AreOperands 6 operand → AreOperands 6 (signed usual operand)
unfolding signed
signed_has operand has n u o cut s =
    let room = operator_room sign_heads n s.p s.x s.first in
    let behind = cut_second s cut in
    let t = s.second in
    let inner = has (n + 1) t.p t.x (cut_first t behind) t.first in
    subst (λ (v : Operand). IsOperand 6 n v) (sym t.second.1)
    (record {
      terms = inner.terms;
      counted = let c = inner.counted in let e = cost-unary (un_word s.x.kind) t.x.expr s.x.at in omega arith;
      within = λ low. inner.within (omega (arith, room.0));
    })

parens_has : (operand : Operands) → AreOperands 6 operand → AreOperands 6 (parens usual operand)
unfolding parens
parens_has operand has n u o cut s =
    let room = operator_room (is kinds.OpenParen) n s.p s.x s.first in
    let behind = cut_second s cut in
    let t = s.second in
    let inner = disjunction_has operand has (n + 1) t.p t.x (cut_first t behind) t.first in
    let whole = cost-whole t.x.expr in
    let most = cost-most 6 t.x.expr in
    subst (λ (v : Operand). IsOperand 6 n v) (sym t.second.second.1)
    (record {
      terms = inner.terms;
      counted = let c = inner.counted in omega arith;
      within = λ low. inner.within (omega (arith, room.0));
    })

nested_has : (operand : Operands) → AreOperands 6 operand → AreOperands 6 (nested usual operand)
unfolding nested
nested_has operand has n u o cut (inl s) = signed_has operand has n u o cut s
nested_has operand has n u o cut (inr s) = parens_has operand has n u o cut s

unary_has : (d : ℕ) → AreOperands 6 (unary usual d)
unfolding unary
unary_has zero n u o cut (inl s) = nested_has (plain usual) plain_has n u o cut s.1
unary_has zero n u o cut (inr s) = plain_has n u o cut s
unary_has (suc d) n u o cut (inl s) = nested_has (unary usual d) (unary_has d) n u o cut s
unary_has (suc d) n u o cut (inr s) = plain_has n u o cut s

-- ---- expressions

pub expr_has : (u : List Lexeme) (x : Expr) → AreCut u → (expr usual).spells u x → IsExpr x
unfolding expr operand
expr_has u x cut s =
    let has =
    disjunction_has (unary usual OPERATOR_LIMIT) (unary_has OPERATOR_LIMIT) 0 s.p s.x (cut_first s cut) s.first in
    subst IsExpr (sym s.second.1)
    (record {
      terms = has.terms;
      operators = let c = has.counted in let w = cost-whole s.x.expr in let m = has.within (omega arith) in omega arith;
    })
