use Rattle.std.proofs.Common.{◌≡◌, ◌+◌, ◌∷◌, List, map, drop, ap, sym, ◌∙◌, subst}
use Rattle.std.specs.List.{insert}
use Rattle.chart_tree.specs.declared.state.JunctionText.{JunctionText}
use Rattle.chart_tree.specs.Views.{junction_of}
use Rattle.chart_places.specs.declared.junctions.OwnedJunction.{OwnedJunction}
use Rattle.chart_places.specs.Placed.{Owned, owned_by, inserted, in_text_order}
use Rattle.chart_places.specs.Survey.{owned_of, IsInOrder}
use Rattle.chart_places.proofs.JunctionLemmas.{map_insert, in_order_inserted, drop_from}
use Rattle.chart_places.proofs.junctions.place_junctions.Goals as goal

pub loop-junction-preserved : goal.loop-junction-preserved
loop-junction-preserved c =
    let all = c.loop-junction.all.items in
    let k = c.loop-junction.junction-index in
    let rest = owned_by c.args.owner (map junction_of (drop (k + 1) c.args.junctions.now)) in
    let o : Owned = record { owner = c.args.owner; junction = junction_of c.junction-item.result } in
    let left : owned_by c.args.owner (map junction_of (drop k c.args.junctions.now)) ≡ o ∷ rest =
    ap (λ (js : List JunctionText). owned_by c.args.owner (map junction_of js))
    (drop_from c.args.junctions.now k c.junction-item.result c.loop-junction-test.true c.junction-item.is) in
    let put : map owned_of c.insert.new.self.items ≡ inserted o (map owned_of all) =
    ap (λ (js : List OwnedJunction). map owned_of js) c.in_ok-insert.ensures.items
    ∙ map_insert owned_of all c.place_among-at.result _
    ∙ ap (λ (js : List OwnedJunction). insert (map owned_of js) c.place_among-at.result o) (sym c.deref.ensures.value)
    ∙ sym c.place_among-at.ensures.place
    ∙ ap (λ (js : List OwnedJunction). inserted o (map owned_of js)) c.deref.ensures.value in
    record {
      same =
          ap (λ (done : List Owned). in_text_order done rest) put
          ∙ sym (ap (in_text_order (map owned_of all)) left)
          ∙ c.loop-junction.invariant.same;
      order = subst IsInOrder (sym put) (in_order_inserted o (map owned_of all) c.loop-junction.invariant.order);
    }
