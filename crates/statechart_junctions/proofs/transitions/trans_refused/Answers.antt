use Rattle.std.proofs.Common.{◌≡◌, true, sym, ◌∙◌}
use Rattle.chart_grammar.specs.Limits.{usual, first_of, transition_refused}
use Rattle.statechart_grammar.specs.Transitions.{trans_heads, no_event}
use Rattle.statechart_tokens.specs.Counts.{counts_of}
use Rattle.token_grammar.specs.Token.{lexemes}
use Rattle.token_grammar.specs.Grammar.{heads}
use Rattle.statechart_tokens.proofs.FirstLemmas.{first_said, none_said}
use Rattle.statechart_junctions.proofs.transitions.trans_refused.Goals as goal

pub returns-then-not-is_at_one_of : goal.returns-then-not-is_at_one_of
returns-then-not-is_at_one_of c =
    none_said (lexemes c.args.reader.now.rest.now) (trans_heads) (λ t. first_of (no_event t) (transition_refused usual (counts_of c.args.reader.now.counts)))
    (sym c.is_at_one_of.ensures ∙ c.if-not-is_at_one_of.true)

pub returns-in-len1-up : goal.returns-in-len1-up
returns-in-len1-up c =
    let here : heads (trans_heads) (lexemes c.args.reader.now.rest.now) ≡ true =
    sym c.is_at_one_of.ensures ∙ c.if-not-is_at_one_of.false in
    first_said c.args.reader.now.rest.now _ (trans_heads) (λ t. first_of (no_event t) (transition_refused usual (counts_of c.args.reader.now.counts))) c.begin_refused.result
    c.in-len1-up.len_at_least here c.begin_refused.ensures
