-- Arguments of a statement that calls.
use Rattle.std.proofs.Common.{◌≡◌, List, [], ◌∷◌, Ok, refl, sym, ap, ◌∙◌}
use Rattle.token_grammar.specs.declared.token.Kind.TheVariants as kinds
use Rattle.token_grammar.specs.declared.fault.ReadError.{ReadError}
use Rattle.token_grammar.specs.declared.fault.ReadError.TheVariants as errors
use Rattle.token_grammar.specs.Token.{Lexeme, Outcome, Fails}
use Rattle.token_grammar.specs.Grammar.{is, many}
use Rattle.chart_grammar.specs.Limits.{usual}
use Rattle.statechart_tree.specs.Trees.{Expr, Exprs, MoreExprs}
use Rattle.statechart_tree.specs.Views as views
use Rattle.statechart_grammar.specs.Expressions.{expr}
use Rattle.statechart_grammar.specs.Transitions.{row_of, some_values, next_value}
use Rattle.statechart_tokens.proofs.FirstLoop.{kept, first_kept}

-- expressions in order are those of their list
row_same : (es : List Expr) → row_of es ≡ views.row_of es
row_same [] = refl
row_same (e ∷ es) = ap (MoreExprs e) (row_same es)

-- what is made of all of them
abbrev pub in_row : List Expr → List Lexeme → Outcome Exprs
in_row es r = Ok (row_of es, r)

-- the first was read
pub values_begin : (s : List Lexeme) (e : Expr) (r : List Lexeme) → (expr usual).reads s ≡ Ok (e, r)
    → kept in_row (e ∷ []) ((many (is kinds.Comma) (next_value usual)).reads r) ≡ (some_values usual).reads s
unfolding some_values
values_begin s e r one = first_kept in_row e _ ∙ sym (rw one refl)

-- reading it failed
pub values_fail_first : (s : List Lexeme) (err : ReadError) (r : List Lexeme) → Fails err r ((expr usual).reads s)
    → Fails err r ((some_values usual).reads s)
unfolding some_values
values_fail_first s errors.Memory r one = tt
values_fail_first s (errors.Fault d) r one = rw one refl

-- what is made of all is their row
pub row_read : (es : List Expr) (s : List Lexeme) (total : Outcome Exprs) → total ≡ in_row es s
    → total ≡ Ok (views.row_of es, s)
row_read es s total e = e ∙ ap (λ (x : Exprs). Ok (x, s)) (row_same es)
