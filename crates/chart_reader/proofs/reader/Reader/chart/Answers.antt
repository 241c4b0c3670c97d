use Rattle.std.proofs.Common.{map, ap, ◌∙◌}
use Rattle.std.proofs.lemmas.Result.{err_from_is_err_and}
use Rattle.token_grammar.specs.Token.{lexemes}
use Rattle.chart_reader.specs.Counts.{counts_of}
use Rattle.chart_reader.specs.Items.{item_of}
use Rattle.chart_reader.proofs.StateLemmas.{chart_unopened, chart_fails, chart_closed}
use Rattle.chart_reader.proofs.reader.Reader.chart.Goals as goal

pub returns-in_err-head : goal.returns-in_err-head
returns-in_err-head c =
    let p = err_from_is_err_and c.from_residual-in_err-head.result c.from_residual-in_err-head.ensures.1 in
    rw (p.1, p.2)
    (chart_unopened (lexemes c.args.self.now.rest.now) _ _ c.in_ok-token.ensures.read _ _ c.in_err-head.ensures.read)

pub returns-in_err-items : goal.returns-in_err-items
returns-in_err-items c =
    let p = err_from_is_err_and c.from_residual-in_err-items.result c.from_residual-in_err-items.ensures.1 in
    let kept = c.in_ok-head.ensures.counts ∙ c.in_ok-token.ensures.counts in
    rw (p.1, p.2)
    (chart_fails (lexemes c.args.self.now.rest.now) _ _ c.in_ok-token.ensures.read
    (counts_of c.head.new.self.counts) (ap counts_of kept ∙ c.at_begin-self.ensures) _ _ _ c.in_ok-head.ensures.read
    _ _ c.in_err-items.ensures)

pub returns : goal.returns
returns c =
    let kept = c.in_ok-head.ensures.counts ∙ c.in_ok-token.ensures.counts in
    rw (chart_closed (lexemes c.args.self.now.rest.now) _ _ c.in_ok-token.ensures.read
    (counts_of c.head.new.self.counts) (ap counts_of kept ∙ c.at_begin-self.ensures) _ _ _ c.in_ok-head.ensures.read
    _ (map item_of c.in_ok-items.items.items) (counts_of c.chart_items.new.self.counts) c.in_ok-items.ensures)
    c.body.ensures.chart
