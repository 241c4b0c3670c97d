use Rattle.std.proofs.Common.{◌≡◌, reverse, refl, ap, ◌∙◌}
use Rattle.flow_base.specs.Lists.{items_of}
use Rattle.chart_grammar.specs.States.{comp_with}
use Rattle.chart_reader.specs.Items.{children_of}
use Rattle.chart_reader.proofs.ChildLemmas.{rolled}
use Rattle.chart_reader.proofs.lists.Lists.into_chart.Goals as goal

pub returns-clause-chart : goal.returns-clause-chart
returns-clause-chart c =
    let s = c.args.self in
    let outer : items_of c.of.result ≡ reverse s.outer.items = c.of.ensures ∙ c.reverse.ensures.items in
    let inner : items_of c.of-2.result ≡ reverse s.inner.items = c.of-2.ensures ∙ c.reverse-2.ensures.items in
    let default : items_of c.of-3.result ≡ reverse s.default.items = c.of-3.ensures ∙ c.reverse-3.ensures.items in
    let junctions : items_of c.of-4.result ≡ reverse s.junctions.items = c.of-4.ensures ∙ c.reverse-4.ensures.items in
    let states : items_of c.of-5.result ≡ reverse s.states.items = c.of-5.ensures ∙ c.reverse-5.ensures.items in
    let events : items_of c.of-6.result ≡ reverse s.events.items = c.of-6.ensures ∙ c.reverse-6.ensures.items in
    let vars : items_of c.of-7.result ≡ reverse s.vars.items = c.of-7.ensures ∙ c.reverse-7.ensures.items in
    let comp : c.comp_with.result ≡ comp_with s.comp (children_of (reverse s.states.items)) =
    c.comp_with.ensures
    ∙ ap (λ ss. comp_with s.comp (children_of ss)) (c.deref.ensures.value ∙ c.reverse-5.ensures.items) in
    rw (rolled, outer, inner, default, junctions, states, events, vars, comp) refl

pub returns-clause-root : goal.returns-clause-root
returns-clause-root c =
    let s = c.args.self in
    let outer : items_of c.of.result ≡ reverse s.outer.items = c.of.ensures ∙ c.reverse.ensures.items in
    let inner : items_of c.of-2.result ≡ reverse s.inner.items = c.of-2.ensures ∙ c.reverse-2.ensures.items in
    let default : items_of c.of-3.result ≡ reverse s.default.items = c.of-3.ensures ∙ c.reverse-3.ensures.items in
    let junctions : items_of c.of-4.result ≡ reverse s.junctions.items = c.of-4.ensures ∙ c.reverse-4.ensures.items in
    let states : items_of c.of-5.result ≡ reverse s.states.items = c.of-5.ensures ∙ c.reverse-5.ensures.items in
    let comp : c.comp_with.result ≡ comp_with s.comp (children_of (reverse s.states.items)) =
    c.comp_with.ensures
    ∙ ap (λ ss. comp_with s.comp (children_of ss)) (c.deref.ensures.value ∙ c.reverse-5.ensures.items) in
    rw (rolled, outer, inner, default, junctions, states, comp) refl
