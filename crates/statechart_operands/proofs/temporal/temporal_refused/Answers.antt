use Rattle.std.proofs.Common.{◌≡◌, true, sym, ◌∙◌}
use Rattle.token_grammar.specs.declared.token.Kind.TheVariants as kinds
use Rattle.chart_grammar.specs.Limits.{usual}
use Rattle.statechart_grammar.specs.Expressions.{temporal_refused}
use Rattle.token_grammar.specs.Token.{lexemes}
use Rattle.token_grammar.specs.Grammar.{heads, is}
use Rattle.statechart_tokens.proofs.FirstLemmas.{first_said, none_said}
use Rattle.statechart_operands.proofs.temporal.temporal_refused.Goals as goal

pub returns-then-not-is_at : goal.returns-then-not-is_at
returns-then-not-is_at c =
    none_said (lexemes c.args.reader.now.rest.now) (is kinds.Tick) (temporal_refused usual c.args.deepest c.args.before)
    (sym c.is_at.ensures ∙ c.if-not-is_at.true)

pub returns-in-len1-up : goal.returns-in-len1-up
returns-in-len1-up c =
    let here : heads (is kinds.Tick) (lexemes c.args.reader.now.rest.now) ≡ true =
    sym c.is_at.ensures ∙ c.if-not-is_at.false in
    first_said c.args.reader.now.rest.now _ (is kinds.Tick) (temporal_refused usual c.args.deepest c.args.before) c.word_refused.result
    c.in-len1-up.len_at_least here c.word_refused.ensures
