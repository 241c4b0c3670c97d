use Rattle.std.proofs.Common.{map, ap}
use Rattle.std.proofs.lemmas.Result.{err_from_is_err_and}
use Rattle.flow_base.specs.Lists.{items_of}
use Rattle.token_grammar.specs.Token.{lexemes}
use Rattle.statechart_tree.specs.Views.{case_of}
use Rattle.statechart_tokens.specs.Counts.{counts_of}
use Rattle.statechart_junctions.proofs.TransLemmas.{trans_fails, trans_behind}
use Rattle.statechart_junctions.proofs.transitions.trans.Goals as goal

pub returns-in_err-cases : goal.returns-in_err-cases
returns-in_err-cases c =
    let p = err_from_is_err_and c.from_residual.result c.from_residual.ensures.1 in
    rw (p.1, p.2)
    (trans_fails (counts_of c.args.reader.now.counts) c.args.at c.in_err-cases.field-0.0
    (lexemes c.args.reader.now.rest.now) _ c.in_err-cases.ensures.read)

pub returns-in_err-end : goal.returns-in_err-end
returns-in_err-end c =
    let p = err_from_is_err_and c.from_residual-in_err-end.result c.from_residual-in_err-end.ensures.1 in
    let cases = map case_of (items_of c.in_ok-cases.cases) in
    rw (
      p.1,
      p.2,
      trans_behind (counts_of c.args.reader.now.counts) (counts_of c.maybe_when.new.reader.counts) c.args.at
          (lexemes c.args.reader.now.rest.now) _ cases (ap counts_of c.in_ok-cases.ensures.counts)
          c.in_ok-cases.ensures.read,
    )
    (c.in_err-end.ensures c.args.at cases)

pub returns : goal.returns
returns c =
    let cases = map case_of (items_of c.in_ok-cases.cases) in
    rw (trans_behind (counts_of c.args.reader.now.counts) (counts_of c.maybe_when.new.reader.counts) c.args.at
    (lexemes c.args.reader.now.rest.now) _ cases (ap counts_of c.in_ok-cases.ensures.counts)
    c.in_ok-cases.ensures.read)
    (c.in_ok-end.ensures c.args.at cases)
