use Rattle.token_grammar.specs.Token.{lexemes}
use Rattle.chart_tree.specs.Views.{chart_of}
use Rattle.chart_reader.proofs.TokenLemmas.{ended_seen}
use Rattle.chart_reader.proofs.reader.Reader.whole.Goals as goal

-- the chart ends with the tokens, or it is Expected
pub returns : goal.returns
returns c =
    rw c.in_ok-chart.ensures
    (ended_seen chart_of c.in_ok-chart.chart (lexemes c.chart.new.self.rest.now) c.ended.result c.ended.ensures)
