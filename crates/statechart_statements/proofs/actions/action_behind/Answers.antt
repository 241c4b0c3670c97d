use Rattle.std.proofs.Common.{map, ap}
use Rattle.std.proofs.lemmas.Result.{err_from_is_err_and}
use Rattle.flow_base.specs.Lists.{items_of}
use Rattle.token_grammar.specs.Token.{lexemes}
use Rattle.statechart_tree.specs.Views.{word_of, block_of}
use Rattle.statechart_tokens.specs.Counts.{counts_of}
use Rattle.statechart_statements.specs.Words.{done_of}
use Rattle.statechart_statements.proofs.ActionLemmas.{action_fails, block_fails, action_read}
use Rattle.statechart_statements.proofs.actions.action_behind.Goals as goal

pub returns-in_err-words : goal.returns-in_err-words
returns-in_err-words c =
    let p = err_from_is_err_and c.from_residual.result c.from_residual.ensures.1 in
    rw (p.1, p.2)
    (action_fails (counts_of c.args.reader.now.counts) (done_of c.args.done) (word_of c.args.first)
    (lexemes c.args.reader.now.rest.now) c.in_err-words.field-0.0 _ c.in_err-words.ensures.read)

pub returns-in_err-block : goal.returns-in_err-block
returns-in_err-block c =
    let p = err_from_is_err_and c.from_residual-in_err-block.result c.from_residual-in_err-block.ensures.1 in
    rw (p.1, p.2)
    (block_fails (counts_of c.args.reader.now.counts) (done_of c.args.done) (word_of c.args.first)
    (lexemes c.args.reader.now.rest.now) (map word_of c.in_ok-words.words.items) _ c.in_ok-words.ensures.read
    (counts_of c.words.new.reader.counts) (ap counts_of c.in_ok-words.ensures.counts)
    c.in_err-block.field-0.0 _ c.in_err-block.ensures.read)

pub returns : goal.returns
returns c =
    rw c.of.ensures
    (action_read (counts_of c.args.reader.now.counts) (done_of c.args.done) (word_of c.args.first)
    (lexemes c.args.reader.now.rest.now) (map word_of c.in_ok-words.words.items) _ c.in_ok-words.ensures.read
    (counts_of c.words.new.reader.counts) (ap counts_of c.in_ok-words.ensures.counts)
    (block_of (items_of c.in_ok-block.block)) _ (counts_of c.block.new.reader.counts) c.in_ok-block.ensures.read
    c.in_ok-block.ensures.counts)
