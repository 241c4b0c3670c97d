use Rattle.chart_grammar.specs.States.{chart_heads}
use Rattle.chart_reader.specs.Counts.{counts_of}
use Rattle.chart_reader.specs.Items.{seen_of}
use Rattle.chart_reader.proofs.ItemLoop.{first_in}
use Rattle.chart_reader.proofs.reader.Reader.is_at_chart_item.Goals as goal

pub returns-in-len1-up : goal.returns-in-len1-up
returns-in-len1-up c =
    let n = counts_of c.args.self.now.counts in
    first_in c.args.self.now.rest.now _
    (chart_heads (seen_of c.args.seen n)) c.lets_in_chart.result c.in-len1-up.len_at_least
    (c.lets_in_chart.ensures n)
