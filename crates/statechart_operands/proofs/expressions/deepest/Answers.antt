use Rattle.std.proofs.Common.{sym, ◌∙◌}
use Rattle.token_grammar.specs.Token.{lexemes}
use Rattle.statechart_operands.proofs.NestLemmas.{deepest_signed, deepest_parens}
use Rattle.statechart_operands.proofs.expressions.deepest.Goals as goal

pub returns-then-is_at_one_of-clause-read : goal.returns-then-is_at_one_of-clause-read
returns-then-is_at_one_of-clause-read c =
    deepest_signed c.args.before (lexemes c.args.reader.now.rest.now)
    (sym c.is_at_one_of.ensures ∙ c.if-is_at_one_of.true)

pub returns-then-is_at-clause-read : goal.returns-then-is_at-clause-read
returns-then-is_at-clause-read c =
    deepest_parens c.args.before (lexemes c.args.reader.now.rest.now)
    (sym c.is_at_one_of.ensures ∙ c.if-is_at_one_of.false) (sym c.is_at.ensures ∙ c.if-is_at.true)
