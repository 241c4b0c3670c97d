-- What the spelled operands of a level have, and so the chains of operators over them.
-- `x_has` says what is so of each x that tokens cut from a text spell.
use Rattle.std.proofs.Common.{◌≡◌, ℕ, ◌+◌, ◌≤◌, ◌<◌, ltb, Bool, true, List, [], ◌∷◌, None, arith, inl, inr, sym}
use Rattle.std.proofs.Common.{subst, ap}
use Rattle.std.proofs.lemmas.Bool.{cases_Bool, ltb-true}
use Rattle.flow_base.specs.declared.chart_limits.TheConstants.{OPERATOR_LIMIT}
use Rattle.token_grammar.specs.declared.token.Kind.{Kind}
use Rattle.token_grammar.specs.declared.fault.Thing.TheVariants as things
use Rattle.token_grammar.specs.Token.{Lexeme}
use Rattle.token_grammar.specs.Grammar.{one_of, first_refused, many_from, many_from_spells}
use Rattle.chart_tree.specs.declared.expr.BinWord.{BinWord}
use Rattle.chart_grammar.specs.Limits.{usual, one_more}
use Rattle.chart_grammar.specs.Expressions.{Operand, Tail, Operands, bin_word, operator, tail, tails, with_tail}
use Rattle.chart_grammar.specs.Expressions.{joined, chain, pair}
use Rattle.chart_print.specs.Expressions.{precedence, left_least}
use Rattle.canonical_text.specs.Claims.{AreCut}
use Rattle.canonical_text.specs.Terms.{HasTerms}
use Rattle.canonical_text.proofs.Cut.{cut_first, cut_second, cut_item, cut_rest}
use Rattle.canonical_text.proofs.Costs.{cost, cost-wider, cost-binary}

-- an operand of a precedence, after `before` operators: it tells how many there are after it
pub record IsOperand (p before : ℕ) (o : Operand) : Type 0 where
  pub terms : HasTerms o.expr
  pub counted : before + cost p o.expr ≤ o.operators
  pub within : before ≤ OPERATOR_LIMIT → o.operators ≤ OPERATOR_LIMIT

-- whatever is spelled is one
abbrev pub AreOperands : ℕ → Operands → Type 0
AreOperands p operand = (n : ℕ) (u : List Lexeme) (o : Operand) → AreCut u → (operand n).spells u o → IsOperand p n o

-- there is room for an operator that is spelled, and it is of the set
pub operator_room : (set : Kind → Bool) (n : ℕ) (u : List Lexeme) (t : Lexeme) → (operator usual set n).spells u t
    → (n < OPERATOR_LIMIT) × (set t.kind ≡ true)
unfolding operator one_of
operator_room set n u t s =
    let here =
    subst (λ (v : List Lexeme). first_refused set (λ t. one_more usual things.Operators n) v ≡ None) s.1.0 s.0 in
    let room : one_more usual things.Operators n ≡ None = rw s.1.1 at here in (
      elim (cases_Bool (ltb n OPERATOR_LIMIT)) [
        | inl low ↦ ltb-true n OPERATOR_LIMIT low
        | inr high ↦ absurd (let bad = rw high at room in cc)
      ],
      s.1.1,
    )

-- an operand of a level is one of each level above it
operand_wider : (p r n : ℕ) (o : Operand) → p ≤ r → IsOperand r n o → IsOperand p n o
operand_wider p r n o h a =
    let least = cost-wider p r o.expr h in
    record { terms = a.terms; counted = let c = a.counted in omega arith; within = a.within }

-- with an operator and another operand after it
joined_one : (p q n : ℕ) (e : Operand) (t : Tail) → precedence t.word ≡ p → left_least t.word ≡ q
    → e.operators < OPERATOR_LIMIT
    → IsOperand q n e → IsOperand (p + 1) (e.operators + 1) t.right → IsOperand p n (with_tail e t)
joined_one p q n e t word least room a b =
    let all = cost-binary t.word e.expr t.right.expr t.at in
    let whole = ap (λ (x : ℕ). cost x (with_tail e t).expr) word in
    let left = ap (λ (x : ℕ). cost x e.expr) least in
    let right = ap (λ (x : ℕ). cost (x + 1) t.right.expr) word in
    record {
      terms = (a.terms, b.terms);
      counted = let c = a.counted in let d = b.counted in omega arith;
      within = λ low. let c = a.within low in b.within (omega arith);
    }

module _ (p : ℕ) (set : Kind → Bool) (operand : Operands)
    (words : (k : Kind) → set k ≡ true → precedence (bin_word k) ≡ p)
    (has : AreOperands (p + 1) operand) where
  -- an operator of the set and an operand after another one
  tail_joins : (q n : ℕ) (e : Operand) (u : List Lexeme) (t : Tail)
      → ((word : BinWord) → precedence word ≡ p → left_least word ≡ q)
      → AreCut u → (tail usual set operand e.operators).spells u t → IsOperand q n e → IsOperand p n (with_tail e t)
  unfolding tail
  tail_joins q n e u t least cut s a =
      let room = operator_room set e.operators s.p s.x s.first in
      let right = has (e.operators + 1) s.second.p s.second.x (cut_first s.second (cut_second s cut)) s.second.first in
      let word = words s.x.kind room.1 in
      subst (λ (v : Tail). IsOperand p n (with_tail e v)) (sym s.second.second.1)
      (joined_one p q n e (record { word = bin_word s.x.kind; at = s.x.at; right = s.second.x }) word
      (least (bin_word s.x.kind) word) room.0 a right)

  -- operands that are joined from the left have the precedence of the level
  tails_join : ((word : BinWord) → precedence word ≡ p → left_least word ≡ p)
      → (n : ℕ) (e : Operand) (u : List Lexeme) (ts : List Tail)
      → AreCut u → many_from_spells (λ z. (tail usual set operand z).spells) (λ z t. t.right.operators) e.operators u ts
      → IsOperand p n e → IsOperand p n (joined e ts)
  tails_join least n e u [] cut s a = a
  tails_join least n e u (t ∷ ts) cut s a =
      tails_join least n (with_tail e t) s.q ts (cut_rest s cut) s.second
      (tail_joins p n e s.p t least (cut_item s cut) s.first a)

  pub chain_has : ((word : BinWord) → precedence word ≡ p → left_least word ≡ p)
      → AreOperands p (chain usual set operand)
  unfolding chain tails many_from
  chain_has least n u o cut s =
      let first = operand_wider p (p + 1) n s.x (omega arith) (has n s.p s.x (cut_first s cut) s.first) in
      let others = cut_first s.second (cut_second s cut) in
      subst (λ (v : Operand). IsOperand p n v) (sym s.second.second.1)
      (tails_join least n s.x s.second.p s.second.x others s.second.first first)

  pub pair_has : ((word : BinWord) → precedence word ≡ p → left_least word ≡ p + 1)
      → AreOperands p (pair usual set operand)
  unfolding pair
  pair_has least n u o cut s =
      let first = has n s.p s.x (cut_first s cut) s.first in
      let second = cut_first s.second (cut_second s cut) in
      subst (λ (v : Operand). IsOperand p n v) (sym s.second.second.1)
      (elim s.second.first [
        | inl there ↦
            let again = cut_first there second in
            rw there.second.1 (tail_joins (p + 1) n s.x there.p there.x least again there.first first)
        | inr none ↦ rw none.1 (operand_wider p (p + 1) n s.x (omega arith) first)
      ])
