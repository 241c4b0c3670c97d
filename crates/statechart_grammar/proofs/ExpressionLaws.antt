-- Expressions read as they spell.
-- `fine_x` says of the production x that it is LL(1): with its FIRST set, whether it is nullable, and the kinds that
-- may go on with what is read, which its FOLLOW must not have. `good_x` says so of one of which limits may leave no
-- spelling.
use Rattle.std.proofs.Common.{ℕ, zero, suc, ◌+◌, Bool, true, false, [], ◌∷◌, Option, Some, None, refl, ◌||◌}
use Rattle.token_grammar.specs.declared.token.Kind.TheVariants as kinds
use Rattle.token_grammar.specs.declared.token.Span.{Span}
use Rattle.token_grammar.specs.Grammar.{is}
use Rattle.token_grammar.proofs.Good.{Set, nothing, Good}
use Rattle.token_grammar.proofs.Leaves.{good_token, good_one_of}
use Rattle.token_grammar.proofs.Allowed.{good_allowed}
use Rattle.token_grammar.proofs.Fine.{Fine, fine_token, fine_one_of, fine_give, fine_then, good_then, fine_either}
use Rattle.token_grammar.proofs.Fine.{fine_many_from, good_as, fine_as}
use Rattle.chart_tree.specs.declared.name.NameText.{NameText}
use Rattle.chart_grammar.specs.Limits.{Limits}
use Rattle.chart_grammar.specs.Words.{lit_of}
use Rattle.chart_grammar.specs.Expressions.{product_heads, sum_heads, comparison_heads, sign_heads, flag_heads, un_word}
use Rattle.chart_grammar.proofs.WordLaws.{fine_name, fine_path}
use Rattle.chart_grammar.proofs.ChainLaws.{good_operator}
use Rattle.statechart_lexer.specs.Words.{word_of}
use Rattle.statechart_tree.specs.declared.expr.TimeWord.{TimeWord}
use Rattle.statechart_tree.specs.Trees.{Lit, Flag, Name, Active, Count, Timed, Call, Unary}
use Rattle.statechart_grammar.specs.Words.{time_of}
use Rattle.statechart_grammar.specs.Expressions.{Operands, product, sum, comparison, conjunction, disjunction, literal}
use Rattle.statechart_grammar.specs.Expressions.{flag, active, datum, counted, too_nested, opening, signed, parens}
use Rattle.statechart_grammar.specs.Expressions.{arguments_of, next_argument, some_arguments, operand_heads, arguments}
use Rattle.statechart_grammar.specs.Expressions.{call, named, timed, temporal_refused, asked, temporal, unary_over, unary}
use Rattle.statechart_grammar.specs.Expressions.{operand, expr}
use Rattle.statechart_grammar.proofs.WordLaws.{fine_parts, fine_number}
use Rattle.statechart_grammar.proofs.ChainLaws.{fine_chain, fine_pair}

-- ---- operands without an expression in them

pub fine_literal : (l : Limits) (n : ℕ) → Fine (literal l n) (is kinds.Number) false nothing
unfolding literal
fine_literal l n =
    fine_as (is kinds.Number) nothing
    (fine_then (fine_number l)
    (λ t. fine_give (record { expr = Lit (lit_of t.text) t.at; operators = n })) refl) refl refl

pub fine_flag : (n : ℕ) → Fine (flag n) flag_heads false nothing
unfolding flag
fine_flag n =
    fine_as flag_heads nothing
    (fine_then (fine_one_of flag_heads kinds.True refl) (λ t.
    fine_give (record { expr = Flag (is kinds.True t.kind) t.at; operators = n })) refl) refl refl

pub fine_active : (n : ℕ) → Fine (active n) (is kinds.In) false nothing
unfolding active
fine_active n =
    fine_as (is kinds.In) nothing
    (fine_then (fine_token kinds.In) (λ t.
    fine_then (fine_token kinds.OpenParen) (λ _.
    fine_then fine_path (λ path.
    fine_then (fine_token kinds.CloseParen) (λ _.
    fine_give (record { expr = Active path t.at; operators = n })) refl) refl) refl) refl) refl refl

pub fine_datum : (first : NameText) (n : ℕ) → Fine (datum first n) (is kinds.Comment) true (is kinds.Comment)
unfolding datum
fine_datum first n =
    fine_as (is kinds.Comment) (is kinds.Comment)
    (fine_then fine_parts (λ others.
    fine_give (record { expr = Name (first ∷ others); operators = n })) refl) refl refl

pub fine_counted : (at : Span) (n : ℕ) → Fine (counted at n) (is kinds.OpenParen) false nothing
unfolding counted
fine_counted at n =
    fine_as (is kinds.OpenParen) nothing
    (fine_then (fine_token kinds.OpenParen) (λ _.
    fine_then fine_name (λ event.
    fine_then (fine_token kinds.CloseParen) (λ _.
    fine_give (record { expr = Count event at; operators = n })) refl) refl) refl) refl refl

-- ---- levels: the operators of a level and of those below it go on with it

-- what may go on with an operand: a part of its target, or the parenthesis of a call
abbrev pub operand_more : Set
operand_more k = is kinds.Comment k || is kinds.OpenParen k

-- what may go on with a product
abbrev pub product_more : Set
product_more k = product_heads k || operand_more k

-- what may go on with a sum: an operator of its level or of a tighter one
abbrev pub sum_more : Set
sum_more k = sum_heads k || product_more k

-- what may go on with a comparison
abbrev pub comparison_more : Set
comparison_more k = comparison_heads k || sum_more k

-- what may go on with a conjunction
abbrev pub conjunction_more : Set
conjunction_more k = is kinds.AndAnd k || comparison_more k

-- what goes on with an expression
abbrev pub expr_more : Set
expr_more k = is kinds.OrOr k || conjunction_more k

-- and with several
abbrev pub exprs_more : Set
exprs_more k = is kinds.Comma k || expr_more k

-- and with as many as one likes
abbrev pub arguments_more : Set
arguments_more k = operand_heads k || exprs_more k

pub good_opening : (l : Limits) (deepest : Bool) (set : Set) (n : ℕ) → Good (opening l deepest set n) set false nothing
good_opening l true set n = good_allowed set too_nested (good_one_of set)
good_opening l false set n = good_operator l set n

module _ (l : Limits) {inner : Operands} (a : (n : ℕ) → Fine (inner n) operand_heads false operand_more) where
  pub fine_product : (n : ℕ) → Fine (product l inner n) operand_heads false product_more
  unfolding product
  fine_product n = fine_chain l product_heads a refl n

  pub fine_sum : (n : ℕ) → Fine (sum l inner n) operand_heads false sum_more
  unfolding sum
  fine_sum n = fine_chain l sum_heads fine_product refl n

  pub fine_comparison : (n : ℕ) → Fine (comparison l inner n) operand_heads false comparison_more
  unfolding comparison
  fine_comparison n = fine_pair l comparison_heads fine_sum refl n

  pub fine_conjunction : (n : ℕ) → Fine (conjunction l inner n) operand_heads false conjunction_more
  unfolding conjunction
  fine_conjunction n = fine_chain l (is kinds.AndAnd) fine_comparison refl n

  pub fine_disjunction : (n : ℕ) → Fine (disjunction l inner n) operand_heads false expr_more
  unfolding disjunction
  fine_disjunction n = fine_chain l (is kinds.OrOr) fine_conjunction refl n

  -- ---- nesting

  pub good_signed : (deepest : Bool) (n : ℕ) → Good (signed l deepest inner n) sign_heads false operand_more
  unfolding signed
  good_signed deepest n =
      good_as sign_heads operand_more
      (good_then (good_opening l deepest sign_heads n) (λ t.
      fine_then (a (n + 1)) (λ found.
      fine_give (record { expr = Unary (un_word t.kind) found.expr t.at; operators = found.operators })) refl) refl)
      refl refl

  pub good_parens : (deepest : Bool) (n : ℕ) → Good (parens l deepest inner n) (is kinds.OpenParen) false nothing
  unfolding parens
  good_parens deepest n =
      good_as (is kinds.OpenParen) nothing
      (good_then (good_opening l deepest (is kinds.OpenParen) n) (λ _.
      fine_then (fine_disjunction (n + 1)) (λ found.
      fine_then (fine_token kinds.CloseParen) (λ _.
      fine_give found) refl) refl) refl) refl refl

  pub fine_next_argument : (n : ℕ) → Fine (next_argument l inner n) (is kinds.Comma) false expr_more
  unfolding next_argument
  fine_next_argument n =
      fine_as (is kinds.Comma) expr_more
      (fine_then (fine_token kinds.Comma) (λ _. fine_disjunction n) refl) refl refl

  pub fine_some_arguments : (n : ℕ) → Fine (some_arguments l inner n) operand_heads false exprs_more
  unfolding some_arguments
  fine_some_arguments n =
      fine_as operand_heads exprs_more
      (fine_then (fine_disjunction n) (λ first.
      fine_then
      (fine_many_from (λ z. is kinds.Comma) (λ z o. o.operators) (is kinds.Comma) first.operators
      (λ z. (fine_next_argument z).good) (λ z. refl) (λ z. refl) refl) (λ others.
      fine_give (arguments_of n (first ∷ others))) refl) refl) refl refl

  pub fine_arguments : (n : ℕ) → Fine (arguments l inner n) operand_heads true arguments_more
  unfolding arguments
  fine_arguments n =
      fine_as operand_heads arguments_more
      (fine_either operand_heads (fine_some_arguments n).good (fine_give (arguments_of n [])) refl refl) refl refl

  pub good_call : (deepest : Bool) (name : NameText) (n : ℕ)
      → Good (call l deepest inner name n) (is kinds.OpenParen) false nothing
  unfolding call
  good_call deepest name n =
      good_as (is kinds.OpenParen) nothing
      (good_then (good_opening l deepest (is kinds.OpenParen) n) (λ _.
      fine_then (fine_arguments (n + 1)) (λ found.
      fine_then (fine_token kinds.CloseParen) (λ _.
      fine_give (record { expr = Call name found.exprs; operators = found.operators })) refl) refl) refl) refl refl

  pub fine_named : (deepest : Bool) (n : ℕ) → Fine (named l deepest inner n) (is kinds.Name) false operand_more
  unfolding named
  fine_named deepest n =
      fine_as (is kinds.Name) operand_more
      (fine_then fine_name (λ first.
      fine_either (is kinds.OpenParen) (good_call deepest first n) (fine_datum first n) refl refl) refl) refl refl

  pub fine_timed : (word : TimeWord) (at : Span) (n : ℕ)
      → Fine (timed l inner word at n) (is kinds.OpenParen) false nothing
  unfolding timed
  fine_timed word at n =
      fine_as (is kinds.OpenParen) nothing
      (fine_then (fine_token kinds.OpenParen) (λ _.
      fine_then (fine_disjunction n) (λ found.
      fine_then (fine_token kinds.Comma) (λ _.
      fine_then fine_name (λ event.
      fine_then (fine_token kinds.CloseParen) (λ _.
      fine_give (record { expr = Timed word found.expr event at; operators = found.operators })) refl) refl) refl)
      refl) refl) refl refl

  pub fine_asked : (word : Option TimeWord) (at : Span) (n : ℕ)
      → Fine (asked l inner word at n) (is kinds.OpenParen) false nothing
  fine_asked None at n = fine_counted at n
  fine_asked (Some word) at n = fine_timed word at (n + 1)

  pub good_temporal : (deepest : Bool) (n : ℕ) → Good (temporal l deepest inner n) (is kinds.Tick) false nothing
  unfolding temporal
  good_temporal deepest n =
      good_as (is kinds.Tick) nothing
      (good_then (good_allowed (is kinds.Tick) (temporal_refused l deepest n) (good_token kinds.Tick))
      (λ t. fine_asked (time_of (word_of t.text)) t.at n) refl) refl refl

  pub fine_unary_over : (deepest : Bool) (n : ℕ) → Fine (unary_over l deepest inner n) operand_heads false operand_more
  unfolding unary_over
  fine_unary_over deepest n =
      fine_as operand_heads operand_more
      (fine_either sign_heads (good_signed deepest n)
      (fine_either (is kinds.OpenParen) (good_parens deepest n)
      (fine_either (is kinds.Number) (fine_literal l n).good
      (fine_either flag_heads (fine_flag n).good
      (fine_either (is kinds.In) (fine_active n).good
      (fine_either (is kinds.Tick) (good_temporal deepest n) (fine_named deepest n)
      refl refl) refl refl) refl refl) refl refl) refl refl) refl refl) refl refl

pub fine_unary : (l : Limits) (d n : ℕ) → Fine (unary l d n) operand_heads false operand_more
unfolding unary
fine_unary l zero n =
    fine_unary_over l (λ z. fine_as operand_heads operand_more (fine_literal l z) refl refl) true n
fine_unary l (suc d) n = fine_unary_over l (fine_unary l d) false n

pub fine_operand : (l : Limits) → Fine (operand l) operand_heads false expr_more
unfolding operand
fine_operand l = fine_disjunction l (fine_unary l l.nesting) 0

pub fine_expr : (l : Limits) → Fine (expr l) operand_heads false expr_more
unfolding expr
fine_expr l = fine_as operand_heads expr_more (fine_then (fine_operand l) (λ e. fine_give e.expr) refl) refl refl
