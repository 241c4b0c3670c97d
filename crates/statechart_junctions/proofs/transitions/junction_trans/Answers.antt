use Rattle.std.proofs.Common.{sym, ◌∙◌}
use Rattle.token_grammar.specs.Token.{lexemes}
use Rattle.statechart_tokens.specs.Counts.{counts_of}
use Rattle.statechart_junctions.proofs.TransLemmas.{trans_room, junction_trans_read, junction_trans_refused}
use Rattle.statechart_junctions.proofs.TransLemmas.{junction_trans_misses}
use Rattle.statechart_junctions.proofs.transitions.junction_trans.Goals as goal

pub returns-in-Some : goal.returns-in-Some
returns-in-Some c =
    junction_trans_refused (counts_of c.args.reader.now.counts) (lexemes c.args.reader.now.rest.now) c.in-Some.fault
    (sym c.trans_refused.ensures ∙ c.in-Some.is)

pub one_trans-requires : goal.one_trans-requires
one_trans-requires c =
    trans_room (counts_of c.args.reader.now.counts) (lexemes c.args.reader.now.rest.now)
    (sym c.is_at_one_of.ensures ∙ c.if-is_at_one_of.true) (sym c.trans_refused.ensures ∙ c.in-None.is)

pub returns-in-None : goal.returns-in-None
returns-in-None c =
    rw (junction_trans_read (counts_of c.args.reader.now.counts) (lexemes c.args.reader.now.rest.now)
    (sym c.trans_refused.ensures ∙ c.in-None.is)) c.one_trans.ensures

pub returns-in-None-2 : goal.returns-in-None-2
returns-in-None-2 c =
    junction_trans_misses (counts_of c.args.reader.now.counts) (lexemes c.args.reader.now.rest.now)
    (sym c.is_at_one_of.ensures ∙ c.if-is_at_one_of.false)
