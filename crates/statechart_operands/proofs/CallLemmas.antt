-- Calls that the code makes of their arguments.
use Rattle.std.proofs.Common.{◌≡◌, ◌+◌, ℕ, List, Ok, Result, false, map, refl, sym, ap, rules}
use Rattle.flow_base.specs.Lists.{items_of}
use Rattle.chart_tree.specs.declared.name.NameText.{NameText}
use Rattle.statechart_tree.specs.declared.expr.SourceExpr.{SourceExpr, Row_of-SourceExpr, end_of-SourceExpr}
use Rattle.statechart_tree.specs.declared.expr.SourceExpr.{more_of-SourceExpr, items-the_row-SourceExpr}
use Rattle.statechart_tree.specs.declared.expr.SourceExpr.TheVariants as exprs
use Rattle.statechart_tree.specs.declared.expr.SourceExpr.TheViews.{the_lemmas}
use Rattle.token_grammar.specs.declared.token.Kind.TheVariants as kinds
use Rattle.token_grammar.specs.declared.fault.ReadError.{ReadError}
use Rattle.token_grammar.specs.Token.{Lexeme, Gives}
use Rattle.token_grammar.specs.Grammar.{is}
use Rattle.chart_grammar.specs.Limits.{usual}
use Rattle.chart_grammar.specs.Expressions.{operator}
use Rattle.statechart_tree.specs.Trees.{Call, MoreExprs}
use Rattle.statechart_tree.specs.Views.{expr_of, exprs_of, row_of}
use Rattle.statechart_grammar.specs.Expressions.{Operands, Arguments, arguments, call}
use Rattle.statechart_tokens.specs.Parts.{closed_by}
use Rattle.statechart_operands.specs.declared.operands.Operand as code
use Rattle.statechart_operands.specs.Operands.{operand_of}
use Rattle.statechart_operands.proofs.ClosedLemmas.{closed_seen}

-- the expressions of a row are those of its items
exprs_row : (n : _) (k : Row_of-SourceExpr n) → exprs_of k ≡ row_of (map expr_of (items-the_row-SourceExpr n k))
exprs_row _ end_of-SourceExpr = refl
exprs_row _ (more_of-SourceExpr e rest) = ap (MoreExprs (expr_of e)) (exprs_row _ rest)

-- a call of its arguments is what it is taken apart into
pub call_seen : (name : NameText) (arguments : _)
    → expr_of (exprs.Call name arguments) ≡ Call name (row_of (map expr_of (items_of arguments)))
call_seen name arguments = search (rules, the_lemmas, exprs_row)

-- a call was read up to its last parenthesis
pub call_read : (inner : Operands) (name : NameText) (n : ℕ) (s p q r : List Lexeme) (t : Lexeme) (found : Arguments)
    (value : code.Operand) (result : Result code.Operand ReadError)
    → (operator usual (is kinds.OpenParen) n).reads s ≡ Ok (t, p)
    → (arguments usual inner (n + 1)).reads p ≡ Ok (found, q)
    → operand_of value ≡ record { expr = Call name found.exprs; operators = found.operators }
    → Gives (λ v. v) result r ((closed_by kinds.CloseParen value).reads q)
    → Gives operand_of result r ((call usual false inner name n).reads s)
unfolding call
call_read inner name n s p q r t found value result opened inside same closed =
    rw (opened, inside) (rw same at (closed_seen operand_of kinds.CloseParen value result q r closed))
