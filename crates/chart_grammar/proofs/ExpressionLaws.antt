-- Expressions read as they spell.
-- `fine_x` says of the production x that it is LL(1): with its FIRST set, whether it is nullable, and the kinds that
-- may
-- go on with what is read, which its FOLLOW must not have. `good_x` says so of one of which limits may leave no
-- spelling.
use Rattle.std.proofs.Common.{ℕ, zero, suc, ◌+◌, false, refl, ◌||◌}
use Rattle.token_grammar.specs.declared.token.Kind.TheVariants as kinds
use Rattle.token_grammar.specs.Grammar.{is}
use Rattle.token_grammar.proofs.Good.{Set, nothing, Good}
use Rattle.token_grammar.proofs.Allowed.{good_allowed}
use Rattle.token_grammar.proofs.Fine.{Fine, fine_token, fine_one_of, fine_give, fine_then, good_then, fine_either}
use Rattle.token_grammar.proofs.Fine.{good_either, good_as, fine_as}
use Rattle.chart_tree.specs.Trees.{Lit, Flag, Name, Active, Unary}
use Rattle.chart_grammar.specs.Limits.{Limits}
use Rattle.chart_grammar.specs.Words.{name_of, lit_of}
use Rattle.chart_grammar.specs.Expressions.{Operands, product_heads, sum_heads, comparison_heads, sign_heads}
use Rattle.chart_grammar.specs.Expressions.{nested_heads, flag_heads, un_word, literal, flag, datum, active, plain}
use Rattle.chart_grammar.specs.Expressions.{product, sum, comparison, conjunction, disjunction, signed, parens}
use Rattle.chart_grammar.specs.Expressions.{nested, too_nested, unary, operand, expr}
use Rattle.chart_grammar.proofs.WordLaws.{fine_path, fine_number}
use Rattle.chart_grammar.proofs.ChainLaws.{good_operator, fine_chain, fine_pair}

-- ---- operands without an operator

-- the FIRST set of an operand without an operator
abbrev pub plain_heads : Set
plain_heads k = is kinds.Number k || (flag_heads k || (is kinds.In k || is kinds.Name k))

-- what an expression begins with
abbrev pub operand_heads : Set
operand_heads k = nested_heads k || plain_heads k

pub fine_literal : (l : Limits) (n : ℕ) → Fine (literal l n) (is kinds.Number) false nothing
unfolding literal
fine_literal l n =
    fine_as (is kinds.Number) nothing
    (fine_then (fine_number l)
    (λ t. fine_give (record { expr = Lit (lit_of t.text) t.at; operators = n })) refl) refl refl

pub fine_flag : (n : ℕ) → Fine (flag n) flag_heads false nothing
unfolding flag
fine_flag n =
    fine_as flag_heads nothing
    (fine_then (fine_one_of flag_heads kinds.True refl) (λ t.
    fine_give (record { expr = Flag (is kinds.True t.kind) t.at; operators = n })) refl) refl refl

pub fine_datum : (n : ℕ) → Fine (datum n) (is kinds.Name) false nothing
unfolding datum
fine_datum n =
    fine_as (is kinds.Name) nothing
    (fine_then (fine_token kinds.Name)
    (λ t. fine_give (record { expr = Name (name_of t); operators = n })) refl) refl refl

pub fine_active : (n : ℕ) → Fine (active n) (is kinds.In) false nothing
unfolding active
fine_active n =
    fine_as (is kinds.In) nothing
    (fine_then (fine_token kinds.In) (λ t.
    fine_then (fine_token kinds.OpenParen) (λ _.
    fine_then fine_path (λ path.
    fine_then (fine_token kinds.CloseParen) (λ _.
    fine_give (record { expr = Active path t.at; operators = n })) refl) refl) refl) refl) refl refl

pub fine_plain : (l : Limits) (n : ℕ) → Fine (plain l n) plain_heads false nothing
unfolding plain
fine_plain l n =
    fine_as plain_heads nothing
    (fine_either (is kinds.Number) (fine_literal l n).good
    (fine_either flag_heads (fine_flag n).good
    (fine_either (is kinds.In) (fine_active n).good (fine_datum n) refl refl) refl refl) refl refl) refl refl

-- ---- levels: the operators of a level and of those below it go on with it

-- what may go on with a sum: an operator of its level or of a tighter one
abbrev pub sum_more : Set
sum_more k = sum_heads k || product_heads k

-- what may go on with a comparison
abbrev pub comparison_more : Set
comparison_more k = comparison_heads k || sum_more k

-- what may go on with a conjunction
abbrev pub conjunction_more : Set
conjunction_more k = is kinds.AndAnd k || comparison_more k

-- what goes on with an expression
abbrev pub operators : Set
operators k = is kinds.OrOr k || conjunction_more k

module _ (l : Limits) {unary : Operands} (a : (n : ℕ) → Fine (unary n) operand_heads false nothing) where
  pub fine_product : (n : ℕ) → Fine (product l unary n) operand_heads false product_heads
  unfolding product
  fine_product n = fine_as operand_heads product_heads (fine_chain l product_heads a refl n) refl refl

  pub fine_sum : (n : ℕ) → Fine (sum l unary n) operand_heads false sum_more
  unfolding sum
  fine_sum n = fine_chain l sum_heads fine_product refl n

  pub fine_comparison : (n : ℕ) → Fine (comparison l unary n) operand_heads false comparison_more
  unfolding comparison
  fine_comparison n = fine_pair l comparison_heads fine_sum refl n

  pub fine_conjunction : (n : ℕ) → Fine (conjunction l unary n) operand_heads false conjunction_more
  unfolding conjunction
  fine_conjunction n = fine_chain l (is kinds.AndAnd) fine_comparison refl n

  pub fine_disjunction : (n : ℕ) → Fine (disjunction l unary n) operand_heads false operators
  unfolding disjunction
  fine_disjunction n = fine_chain l (is kinds.OrOr) fine_conjunction refl n

  -- ---- nesting

  pub good_signed : (n : ℕ) → Good (signed l unary n) sign_heads false nothing
  unfolding signed
  good_signed n =
      good_as sign_heads nothing
      (good_then (good_operator l sign_heads n) (λ t.
      fine_then (a (n + 1)) (λ inner.
      fine_give (record {
        expr = Unary
            (un_word t.kind) inner.expr t.at;
        operators = inner.operators;
      })) refl) refl) refl refl

  pub good_parens : (n : ℕ) → Good (parens l unary n) (is kinds.OpenParen) false nothing
  unfolding parens
  good_parens n =
      good_as (is kinds.OpenParen) nothing
      (good_then (good_operator l (is kinds.OpenParen) n) (λ _.
      fine_then (fine_disjunction (n + 1)) (λ inner.
      fine_then (fine_token kinds.CloseParen) (λ _.
      fine_give inner) refl) refl) refl) refl refl

  pub good_nested : (n : ℕ) → Good (nested l unary n) nested_heads false nothing
  unfolding nested
  good_nested n =
      good_as nested_heads nothing (good_either sign_heads (good_signed n) (good_parens n) refl refl) refl refl

-- the same, where an expression may begin otherwise
pub fine_plain_operand : (l : Limits) (n : ℕ) → Fine (plain l n) operand_heads false nothing
fine_plain_operand l n = fine_as operand_heads nothing (fine_plain l n) refl refl

pub fine_unary : (l : Limits) (d n : ℕ) → Fine (unary l d n) operand_heads false nothing
unfolding unary
fine_unary l zero n =
    fine_as operand_heads nothing
    (fine_either nested_heads (good_allowed nested_heads too_nested (good_nested l (fine_plain_operand l) n))
    (fine_plain l n) refl refl) refl refl
fine_unary l (suc d) n =
    fine_as operand_heads nothing
    (fine_either nested_heads (good_nested l (fine_unary l d) n) (fine_plain l n) refl refl) refl refl

pub fine_operand : (l : Limits) → Fine (operand l) operand_heads false operators
unfolding operand
fine_operand l = fine_disjunction l (fine_unary l l.nesting) 0

pub fine_expr : (l : Limits) → Fine (expr l) operand_heads false operators
unfolding expr
fine_expr l = fine_as operand_heads operators (fine_then (fine_operand l) (λ e. fine_give e.expr) refl) refl refl
