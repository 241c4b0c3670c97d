use Rattle.std.proofs.Common.{[], ◌∷◌, map, refl, sym, ap, ◌∙◌}
use Rattle.std.proofs.lemmas.List.{map-append}
use Rattle.chart_reader.specs.Items.{item_of, sorted_of, put_all}
use Rattle.chart_reader.proofs.SortLemmas.{put_last}
use Rattle.chart_reader.proofs.lists.Lists.put_all.Goals as goal

pub items-init : goal.items-init
items-init c = refl

pub items-preserved : goal.items-preserved
items-preserved c =
    let left = c.pop.new.self.items in
    let item = c.in-Some.item in
    ap (put_all (map item_of left)) c.in_ok-put.ensures
    ∙ sym (put_last (map item_of left) (item_of item) (sorted_of c.items.self))
    ∙ ap (λ xs. put_all xs (sorted_of c.items.self))
    (sym (map-append item_of left (item ∷ [])) ∙ ap (map item_of) (sym c.in-Some.ensures.items))
    ∙ c.items.invariant
