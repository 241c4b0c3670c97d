use Rattle.std.proofs.Common.{sym, ◌∙◌}
use Rattle.token_grammar.specs.Token.{lexemes}
use Rattle.chart_reader.specs.Counts.{counts_of}
use Rattle.chart_reader.proofs.ItemLoop.{no_state_at, no_state_other}
use Rattle.chart_reader.proofs.reader.Reader.no_state.Goals as goal

pub returns-then-is_at : goal.returns-then-is_at
returns-then-is_at c =
    no_state_at (counts_of c.args.self.now.counts) (lexemes c.args.self.now.rest.now)
    (sym c.is_at.ensures ∙ c.if-is_at.true)

pub returns-else-is_at : goal.returns-else-is_at
returns-else-is_at c =
    no_state_other (counts_of c.args.self.now.counts) (lexemes c.args.self.now.rest.now)
    (sym c.is_at.ensures ∙ c.if-is_at.false)
