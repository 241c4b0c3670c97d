use Rattle.std.proofs.Common.{◌≡◌, true, false, map, sym, ◌∙◌}
use Rattle.std.proofs.lemmas.List.{map-append}
use Rattle.std.proofs.lemmas.Result.{err_from_is_err_and}
use Rattle.token_grammar.specs.Token.{lexemes}
use Rattle.token_grammar.specs.Grammar.{heads}
use Rattle.token_grammar.proofs.Loop.{fewer}
use Rattle.statechart_tree.specs.Views.{trans_of}
use Rattle.chart_grammar.specs.Limits.{usual, Counts}
use Rattle.statechart_grammar.specs.Transitions.{trans_heads, junction_trans}
use Rattle.statechart_grammar.specs.States.{junction_list}
use Rattle.statechart_grammar.proofs.TransitionLaws.{good_junction_trans}
use Rattle.statechart_tokens.specs.Counts.{counts_of}
use Rattle.statechart_junctions.proofs.ToldLoop.{told_goes_on, told_fails, told_ends}
use Rattle.statechart_junctions.proofs.junctions.junction_list.Goals as goal

pub returns-in_err-item : goal.returns-in_err-item
unfolding junction_list
returns-in_err-item c =
    let p = err_from_is_err_and c.from_residual.result c.from_residual.ensures.1 in
    let here : heads trans_heads (lexemes c.items.reader.rest.now) ≡ true =
    sym c.is_at_one_of.ensures ∙ c.items-test.true in
    rw (p.1, p.2)
    (told_fails (λ (z : Counts). trans_heads) (junction_trans usual) (λ z t. t.counts)
    (good_junction_trans usual) c.in_err-item.field-0.0
    (counts_of c.items.reader.counts) (counts_of c.items.reader.counts) (map trans_of c.items.found.items)
    (lexemes c.items.reader.rest.now) _ _ here
    c.in_err-item.ensures c.items.invariant)

pub items-smaller : goal.items-smaller
items-smaller c =
    fewer (good_junction_trans usual
    (counts_of c.items.reader.counts)) c.items.reader.rest.now c.junction_trans.new.reader.rest.now _ c.in_ok-item.ensures

pub items-preserved : goal.items-preserved
unfolding junction_list
items-preserved c =
    let here : heads trans_heads (lexemes c.items.reader.rest.now) ≡ true =
    sym c.is_at_one_of.ensures ∙ c.items-test.true in
    rw (c.in_ok-push.ensures.items, map-append)
    (told_goes_on (λ (z : Counts). trans_heads) (junction_trans usual) (λ z t. t.counts) (good_junction_trans usual)
    (counts_of c.items.reader.counts) (counts_of c.items.reader.counts) (map trans_of c.items.found.items)
    (lexemes c.items.reader.rest.now) _ _ _ here
    c.in_ok-item.ensures c.items.invariant)

pub returns : goal.returns
unfolding junction_list
returns c =
    let none : heads trans_heads (lexemes c.items.reader.rest.now) ≡ false =
    sym c.is_at_one_of.ensures ∙ c.items-test.false in
    told_ends (λ (z : Counts). trans_heads) (junction_trans usual) (λ z t. t.counts) (good_junction_trans usual)
    (counts_of c.items.reader.counts) (counts_of c.items.reader.counts) (map trans_of c.items.found.items)
    (lexemes c.items.reader.rest.now) _ none c.items.invariant
