use Rattle.std.proofs.Common.{◌≡◌, true, false, map, refl, sym, ap, ◌∙◌, arith}
use Rattle.std.proofs.lemmas.Result.{err_from_is_err_and}
use Rattle.token_grammar.specs.declared.token.Kind.TheVariants as kinds
use Rattle.token_grammar.specs.Token.{lexemes}
use Rattle.token_grammar.specs.Grammar.{heads}
use Rattle.chart_grammar.specs.Limits.{usual}
use Rattle.chart_tree.specs.Views.{state_of}
use Rattle.chart_grammar.specs.States.{item_heads, item, items, state}
use Rattle.chart_grammar.proofs.ItemLaws.{good_next_item}
use Rattle.chart_grammar.proofs.StateLaws.{good_state}
use Rattle.chart_grammar.proofs.ReadingLaws.{state_nested}
use Rattle.chart_reader.specs.Counts.{counts_of}
use Rattle.chart_reader.specs.Items.{item_of, seen_of}
use Rattle.chart_reader.proofs.TokenLemmas.{allowed_passes}
use Rattle.chart_reader.proofs.StateLemmas.{body_unopened, body_fails, body_closed, body_read}
use Rattle.chart_reader.proofs.ItemLoop.{state_none, items_begin, items_go_on, items_fail, items_end, items_fewer}
use Rattle.chart_reader.proofs.reader.Reader.+state.Goals as goal

pub items-items-init : goal.items-items-init
unfolding items item
items-items-init t c =
    let st = state usual c.args.depth in
    let n = counts_of c.args.self.now.counts in
    items_begin item_heads (item usual st) (good_next_item usual (good_state usual c.args.depth)) (λ z s. refl)
    c.nothing-seen.result n c.new-found.result.items (lexemes c.args.self.now.rest.now)
    (c.nothing-seen.ensures n) c.new-found.ensures.items

pub items-returns-in_err-item : goal.items-returns-in_err-item
unfolding items item
items-returns-in_err-item t c =
    let p = err_from_is_err_and c.from_residual.result c.from_residual.ensures.1 in
    let st = state usual c.args.depth in
    let here : heads (item_heads (seen_of c.items.seen (counts_of c.items.self.counts)))
    (lexemes c.items.self.rest.now) ≡ true =
    sym c.is_at_item.ensures ∙ c.items-test.true in
    rw (p.1, p.2)
    (items_fail item_heads (item usual st) (good_next_item usual (good_state usual c.args.depth))
    (λ z s. refl) c.in_err-item.field-0.0
    c.items.seen (counts_of c.items.self.counts) c.items.found.items
    (lexemes c.items.self.rest.now) _ _ here c.in_err-item.ensures c.items.invariant)

pub items-items-smaller : goal.items-items-smaller
unfolding item
items-items-smaller t c =
    let st = state usual c.args.depth in
    let here : heads (item_heads (seen_of c.items.seen (counts_of c.items.self.counts)))
    (lexemes c.items.self.rest.now) ≡ true =
    sym c.is_at_item.ensures ∙ c.items-test.true in
    items_fewer item_heads (item usual st) (good_next_item usual (good_state usual c.args.depth)) (λ z s. refl)
    c.items.seen
    (counts_of c.items.self.counts) _ c.items.self.rest.now c.item.new.self.rest.now here c.in_ok-item.ensures

pub items-items-preserved : goal.items-items-preserved
unfolding items item
items-items-preserved t c =
    let st = state usual c.args.depth in
    let n = counts_of c.items.self.counts in
    let m = counts_of c.item.new.self.counts in
    let here : heads (item_heads (seen_of c.items.seen n)) (lexemes c.items.self.rest.now) ≡ true =
    sym c.is_at_item.ensures ∙ c.items-test.true in
    items_go_on item_heads (item usual st) (good_next_item usual (good_state usual c.args.depth)) (λ z s. refl)
    c.items.seen c.after-seen.result n m c.items.found.items c.in_ok-item.item c.push.new.self.items
    (lexemes c.items.self.rest.now) _ _ here
    c.in_ok-item.ensures c.items.invariant (c.after-seen.ensures n m) c.in_ok-push.ensures.items

pub items-returns : goal.items-returns
unfolding items item
items-returns t c =
    let st = state usual c.args.depth in
    let n = counts_of c.items.self.counts in
    let none : heads (item_heads (seen_of c.items.seen n)) (lexemes c.items.self.rest.now) ≡ false =
    sym c.is_at_item.ensures ∙ c.items-test.false in
    items_end item_heads (item usual st) (good_next_item usual (good_state usual c.args.depth)) (λ z s. refl)
    c.items.seen n c.items.found.items (lexemes c.items.self.rest.now) _ none c.items.invariant

pub state-returns-then-depth-eq0 : goal.state-returns-then-depth-eq0
state-returns-then-depth-eq0 t c =
    rw (state_none usual c.args.depth (counts_of c.args.self.now.counts)
    (lexemes c.args.self.now.rest.now) c.if-depth-eq0.true) c.no_state.ensures

pub state-returns : goal.state-returns
state-returns t c =
    rw (state_nested usual c.args.depth (counts_of c.args.self.now.counts) (lexemes c.args.self.now.rest.now)
    (omega arith)) c.state_over.ensures

pub state_over-after_state-self-requires : goal.state_over-after_state-self-requires
state_over-after_state-self-requires t c =
    rw c.in_ok-allowed_token.ensures.counts
    (sym c.state_refused.ensures
    ∙ allowed_passes kinds.State c.state_refused.result
    (lexemes c.args.self.now.rest.now) _ _ c.in_ok-allowed_token.ensures.read)

pub state_body-returns-in_err-head : goal.state_body-returns-in_err-head
state_body-returns-in_err-head t c =
    let p = err_from_is_err_and c.from_residual.result c.from_residual.ensures.1 in
    rw (p.1, p.2)
    (body_unopened (state usual c.args.depth) (counts_of c.args.self.now.counts) _
    (lexemes c.args.self.now.rest.now) _ c.in_err-head.ensures.read)

pub state_body-returns-in_err-items : goal.state_body-returns-in_err-items
state_body-returns-in_err-items t c =
    let p = err_from_is_err_and c.from_residual-in_err-items.result c.from_residual-in_err-items.ensures.1 in
    rw (p.1, p.2)
    (body_fails (state usual c.args.depth) (counts_of c.args.self.now.counts) (counts_of c.head.new.self.counts)
    (ap counts_of c.in_ok-head.ensures.counts) (lexemes c.args.self.now.rest.now) _ _ _ c.in_ok-head.ensures.read
    _ _ c.in_err-items.ensures)

pub state_body-returns-in_err-chart : goal.state_body-returns-in_err-chart
state_body-returns-in_err-chart t c =
    let p = err_from_is_err_and c.from_residual-in_err-chart.result c.from_residual-in_err-chart.ensures.1 in
    rw (
      p.1,
      p.2,
      body_closed (state usual c.args.depth) (counts_of c.args.self.now.counts)
          (counts_of c.head.new.self.counts) (ap counts_of c.in_ok-head.ensures.counts)
          (lexemes c.args.self.now.rest.now) _ _ _ c.in_ok-head.ensures.read
          _ (map item_of c.in_ok-items.items.items) (counts_of c.items.new.self.counts) c.in_ok-items.ensures,
    )
    (c.in_err-chart.ensures.root (counts_of c.items.new.self.counts))

pub state_body-returns : goal.state_body-returns
state_body-returns t c =
    body_read (state usual c.args.depth) (counts_of c.args.self.now.counts)
    (counts_of c.head.new.self.counts) (ap counts_of c.in_ok-head.ensures.counts)
    (lexemes c.args.self.now.rest.now) _ _ _ c.in_ok-head.ensures.read
    _ (map item_of c.in_ok-items.items.items) (counts_of c.items.new.self.counts) c.in_ok-items.ensures
    _ (state_of c.in_ok-chart.chart.root) (counts_of c.body.new.self.counts)
    (ap counts_of c.in_ok-chart.ensures.counts)
    (c.in_ok-chart.ensures.root (counts_of c.items.new.self.counts))
