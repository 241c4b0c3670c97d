-- Reading the arguments of a call, as a loop does that keeps each as it comes.
use Rattle.std.proofs.Common.{◌≡◌, ℕ, Bool, true, false, List, [], ◌∷◌, ◌++◌, Ok, Err, refl, sym, ap, ◌∙◌}
use Rattle.token_grammar.specs.declared.token.Kind.TheVariants as kinds
use Rattle.token_grammar.specs.declared.fault.ReadError.{ReadError}
use Rattle.token_grammar.specs.declared.fault.ReadError.TheVariants as errors
use Rattle.token_grammar.specs.Token.{Lexeme, Outcome, Fails}
use Rattle.token_grammar.specs.Grammar.{Grammar, and_then, heads, is, many_from}
use Rattle.token_grammar.proofs.State.{consed, from_none, from_one}
use Rattle.token_grammar.proofs.Fine.{Fine}
use Rattle.chart_grammar.specs.Limits.{Limits}
use Rattle.statechart_tree.specs.Trees.{Expr, Exprs, NoExpr, MoreExprs}
use Rattle.statechart_tree.specs.Views.{row_of}
use Rattle.statechart_grammar.specs.Expressions.{Operand, Operands, Arguments, disjunction, next_argument}
use Rattle.statechart_grammar.specs.Expressions.{some_arguments, exprs_of, operators_behind, operand_heads}
use Rattle.statechart_grammar.proofs.ExpressionLaws.{operand_more, expr_more, fine_next_argument}

-- expressions before others
abbrev pub in_front : List Expr → Exprs → Exprs
in_front [] es = es
in_front (e ∷ front) es = MoreExprs e (in_front front es)

-- what was read so far, and what is still read after it
abbrev pub argued : List Expr → ℕ → Outcome (List Operand) → Outcome Arguments
argued front n read =
    and_then read (λ os r. Ok (record { exprs = in_front front (exprs_of os); operators = operators_behind n os }, r))

-- one more before the others
one_front : (front : List Expr) (e : Expr) (es : Exprs) → in_front front (MoreExprs e es) ≡ in_front (front ++ e ∷ []) es
one_front [] e es = refl
one_front (x ∷ front) e es = ap (MoreExprs x) (one_front front e es)

-- before none
none_behind : (front : List Expr) → in_front front NoExpr ≡ row_of front
none_behind [] = refl
none_behind (x ∷ front) = ap (MoreExprs x) (none_behind front)

-- keeping the argument in hand before the others are read keeps it after them too
regroup : (front : List Expr) (n : ℕ) (o : Operand) (read : Outcome (List Operand))
    → argued front n (consed o read) ≡ argued (front ++ o.expr ∷ []) o.operators read
regroup front n o (Ok y) =
    ap (λ (es : Exprs). Ok (record { exprs = es; operators = operators_behind o.operators y.0 }, y.1))
    (one_front front o.expr (exprs_of y.0))
regroup front n o (Err d) = refl

module _ (l : Limits) {inner : Operands} (a : (n : ℕ) → Fine (inner n) operand_heads false operand_more) where
  -- the arguments behind the first
  abbrev pub others : ℕ → Grammar (List Operand)
  others n = many_from (λ z. is kinds.Comma) (next_argument l inner) (λ z o. o.operators) n

  -- the first was read
  pub arguments_begin : (n : ℕ) (s : List Lexeme) (e : Operand) (r : List Lexeme)
      → (disjunction l inner n).reads s ≡ Ok (e, r)
      → argued (e.expr ∷ []) e.operators ((others e.operators).reads r) ≡ (some_arguments l inner n).reads s
  unfolding some_arguments
  arguments_begin n s e r one = rw one refl

  -- reading it failed
  pub arguments_fail_first : (n : ℕ) (s : List Lexeme) (err : ReadError) (r : List Lexeme)
      → Fails err r ((disjunction l inner n).reads s) → Fails err r ((some_arguments l inner n).reads s)
  unfolding some_arguments
  arguments_fail_first n s errors.Memory r one = tt
  arguments_fail_first n s (errors.Fault d) r one = rw one refl

  -- one more was read
  pub arguments_go_on : (front : List Expr) (n : ℕ) (s : List Lexeme) (o : Operand) (r : List Lexeme)
      (total : Outcome Arguments)
      → heads (is kinds.Comma) s ≡ true → (next_argument l inner n).reads s ≡ Ok (o, r)
      → argued front n ((others n).reads s) ≡ total
      → argued (front ++ o.expr ∷ []) o.operators ((others o.operators).reads r) ≡ total
  arguments_go_on front n s o r total here one so_far =
      let read = from_one (λ z. is kinds.Comma) (next_argument l inner) (λ z o. o.operators) (λ z. is kinds.Comma)
      expr_more (λ z. (fine_next_argument l a z).good) n s here in
      sym (regroup front n o _) ∙ ap (argued front n) (sym (read ∙ rw one refl)) ∙ so_far

  -- reading it failed
  pub arguments_fail : (front : List Expr) (n : ℕ) (err : ReadError) (s r : List Lexeme) (total : Outcome Arguments)
      → heads (is kinds.Comma) s ≡ true → Fails err r ((next_argument l inner n).reads s)
      → argued front n ((others n).reads s) ≡ total → Fails err r total
  arguments_fail front n errors.Memory s r total here one so_far = tt
  arguments_fail front n (errors.Fault d) s r total here one so_far =
      let read = from_one (λ z. is kinds.Comma) (next_argument l inner) (λ z o. o.operators) (λ z. is kinds.Comma)
      expr_more (λ z. (fine_next_argument l a z).good) n s here in
      let stopped : (others n).reads s ≡ Err (d, r) = read ∙ rw one refl in
      sym so_far ∙ ap (argued front n) stopped

  -- no more stand there
  pub arguments_end : (front : List Expr) (n : ℕ) (s : List Lexeme) (total : Outcome Arguments)
      → heads (is kinds.Comma) s ≡ false → argued front n ((others n).reads s) ≡ total
      → total ≡ Ok (record { exprs = row_of front; operators = n }, s)
  arguments_end front n s total none so_far =
      let read = from_none (λ z. is kinds.Comma) (next_argument l inner) (λ z o. o.operators) (λ z. is kinds.Comma)
      expr_more (λ z. (fine_next_argument l a z).good) n s none in
      sym so_far ∙ ap (argued front n) read
      ∙ ap (λ (es : Exprs). Ok (record { exprs = es; operators = n }, s)) (none_behind front)
