use Rattle.std.proofs.Common.{◌≡◌, true, false, refl, sym, ◌∙◌}
use Rattle.std.proofs.lemmas.Result.{err_from_is_err_and}
use Rattle.flow_base.specs.declared.chart_limits.TheConstants.{STATE_DEPTH_LIMIT}
use Rattle.token_grammar.specs.Token.{lexemes}
use Rattle.token_grammar.specs.Grammar.{heads}
use Rattle.chart_grammar.specs.Limits.{usual}
use Rattle.chart_grammar.specs.States.{chart_heads, chart_item, chart_items, state}
use Rattle.chart_grammar.proofs.ItemLaws.{good_next_chart_item}
use Rattle.chart_grammar.proofs.StateLaws.{good_state}
use Rattle.chart_reader.specs.Counts.{counts_of}
use Rattle.chart_reader.specs.Items.{seen_of}
use Rattle.chart_reader.proofs.ItemLoop.{items_begin, items_go_on, items_fail, items_end, items_fewer}
use Rattle.chart_reader.proofs.reader.Reader.chart_items.Goals as goal

pub items-init : goal.items-init
unfolding chart_items chart_item
items-init c =
    let st = state usual STATE_DEPTH_LIMIT in
    let n = counts_of c.args.self.now.counts in
    items_begin chart_heads (chart_item usual st) (good_next_chart_item usual (good_state usual STATE_DEPTH_LIMIT))
    (λ z s. refl)
    c.nothing-seen.result n c.new-found.result.items (lexemes c.args.self.now.rest.now)
    (c.nothing-seen.ensures n) c.new-found.ensures.items

pub returns-in_err-item : goal.returns-in_err-item
unfolding chart_items chart_item
returns-in_err-item c =
    let p = err_from_is_err_and c.from_residual.result c.from_residual.ensures.1 in
    let st = state usual STATE_DEPTH_LIMIT in
    let here : heads (chart_heads (seen_of c.items.seen (counts_of c.items.self.counts)))
    (lexemes c.items.self.rest.now) ≡ true =
    sym c.is_at_chart_item.ensures ∙ c.items-test.true in
    rw (p.1, p.2)
    (items_fail chart_heads (chart_item usual st) (good_next_chart_item usual (good_state usual STATE_DEPTH_LIMIT))
    (λ z s. refl) c.in_err-item.field-0.0
    c.items.seen (counts_of c.items.self.counts) c.items.found.items
    (lexemes c.items.self.rest.now) _ _ here c.in_err-item.ensures c.items.invariant)

pub items-smaller : goal.items-smaller
unfolding chart_item
items-smaller c =
    let st = state usual STATE_DEPTH_LIMIT in
    let here : heads (chart_heads (seen_of c.items.seen (counts_of c.items.self.counts)))
    (lexemes c.items.self.rest.now) ≡ true =
    sym c.is_at_chart_item.ensures ∙ c.items-test.true in
    items_fewer chart_heads (chart_item usual st) (good_next_chart_item usual (good_state usual STATE_DEPTH_LIMIT))
    (λ z s. refl)
    c.items.seen
    (counts_of c.items.self.counts) _ c.items.self.rest.now c.chart_item.new.self.rest.now here c.in_ok-item.ensures

pub items-preserved : goal.items-preserved
unfolding chart_items chart_item
items-preserved c =
    let st = state usual STATE_DEPTH_LIMIT in
    let n = counts_of c.items.self.counts in
    let m = counts_of c.chart_item.new.self.counts in
    let here : heads (chart_heads (seen_of c.items.seen n)) (lexemes c.items.self.rest.now) ≡ true =
    sym c.is_at_chart_item.ensures ∙ c.items-test.true in
    items_go_on chart_heads (chart_item usual st) (good_next_chart_item usual (good_state usual STATE_DEPTH_LIMIT))
    (λ z s. refl)
    c.items.seen c.after-seen.result n m c.items.found.items c.in_ok-item.item c.push.new.self.items
    (lexemes c.items.self.rest.now) _ _ here
    c.in_ok-item.ensures c.items.invariant (c.after-seen.ensures n m) c.in_ok-push.ensures.items

pub returns : goal.returns
unfolding chart_items chart_item
returns c =
    let st = state usual STATE_DEPTH_LIMIT in
    let n = counts_of c.items.self.counts in
    let none : heads (chart_heads (seen_of c.items.seen n)) (lexemes c.items.self.rest.now) ≡ false =
    sym c.is_at_chart_item.ensures ∙ c.items-test.false in
    items_end chart_heads (chart_item usual st) (good_next_chart_item usual (good_state usual STATE_DEPTH_LIMIT))
    (λ z s. refl)
    c.items.seen n c.items.found.items (lexemes c.items.self.rest.now) _ none c.items.invariant
