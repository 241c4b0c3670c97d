use Rattle.std.proofs.Common.{◌≡◌, List, set, Some, refl, sym, ap, ◌∙◌, subst, rules}
use Rattle.std.specs.Prelude.{slice_get}
use Rattle.std.specs.Vec.{with_items}
use Rattle.std.proofs.lemmas.List.{with_items_is, places}
use Rattle.chart_net.specs.Holding.{HaveRoom, Took, Wait}
use Rattle.chart_net.specs.NetParts.{net_shown}
use Rattle.chart_net.specs.Rings.{Queue}
use Rattle.chart_net.specs.Routes.{CanTake}
use Rattle.chart_net.specs.declared.net.Net.{Net}
use Rattle.net_text.specs.declared.route.Route.{Route}
use Rattle.chart_net.proofs.PartLemmas.{sound_with}
use Rattle.chart_net.proofs.SourceLemmas.{oldest_has}
use Rattle.chart_net.proofs.TakeLemmas.{all_after_taking}
use Rattle.chart_net.proofs.net.Net.item_from.Goals as goal

pub returns-clause-taken : goal.returns-clause-taken
returns-clause-taken g c = λ states wait.
    let net = c.args.self.now in
    let is : (with_items net.rings c.take_item.new.rings).items ≡ c.take_item.new.rings =
    with_items_is net.rings c.take_item.new.rings (search (rules, places)) in
    subst (λ (l : List Queue). Took c.args.r states l c.take_item.result) (sym is)
    (c.take_item.ensures.taken states (subst (λ (l : List Queue). Wait l states) (sym c.deref_mut.ensures.value) wait))

pub returns-clause-sound : goal.returns-clause-sound
returns-clause-sound g c =
    let members = g.G.Engine in
    let net = c.args.self.now in
    let new : Net g.row.G.Denot =
    record {
      seats = net.seats;
      routes = net.routes;
      rings = with_items net.rings c.take_item.new.rings;
      alloc =
          net.alloc;
    } in
    let t = c.take_item.ensures.ring in
    let is : (with_items net.rings c.take_item.new.rings).items ≡ c.take_item.new.rings =
    with_items_is net.rings c.take_item.new.rings (search (rules, places)) in
    let there : slice_get net.rings.items c.args.r ≡ Some t.before =
    subst (λ (l : List Queue). slice_get l c.args.r ≡ Some t.before) c.deref_mut.ensures.value t.there in
    let changed : (with_items net.rings c.take_item.new.rings).items ≡ set net.rings.items c.args.r t.after =
    is ∙ t.is ∙ ap (λ (l : List Queue). set l c.args.r t.after) c.deref_mut.ensures.value in
    sound_with members net new refl refl c.requires.sound.seats
    (subst (λ (q : List Queue). HaveRoom net.routes.items q) (sym is)
    (subst (λ (l : List Route). HaveRoom l c.take_item.new.rings) c.deref.ensures.value c.take_item.ensures.room))
    (λ k route ring here ring_here. all_after_taking members net c.args.r t.before t.after c.requires.sound there
    t.change.1 k route ring here
    (sym (ap (λ (l : List Queue). slice_get l k) changed) ∙ ring_here))
    c.requires.sound

pub returns-clause-item : goal.returns-clause-item
returns-clause-item g c = λ route here.
    let net = c.args.self.now in
    let t = c.take_item.ensures.ring in
    let there : slice_get net.rings.items c.args.r ≡ Some t.before =
    subst (λ (l : List Queue). slice_get l c.args.r ≡ Some t.before) c.deref_mut.ensures.value t.there in
    oldest_has (CanTake ((net_shown g.G.Engine net).declared route.to) route.target) t.before.items c.take_item.result
    t.change.0
    (c.requires.sound.items c.args.r route t.before here there)
