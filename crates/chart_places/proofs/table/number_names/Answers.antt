use Rattle.std.proofs.Common.{◌≡◌, ◌+◌, map, take, length, ◌++◌, ◌∷◌, [], ap, sym, ◌∙◌, refl, arith}
use Rattle.std.proofs.lemmas.List.{map_more, length-map, length-take-le}
use Rattle.indexmap.specs.IndexMap.{get_by}
use Rattle.indexmap.proofs.CallerLemmas.{insert_entry-new}
use Rattle.chart_places.specs.Tables.{declared_of, declared_from, is_key}
use Rattle.chart_places.proofs.TableLemmas.{step_new, step_old, copied_none, copied_some}
use Rattle.chart_places.proofs.table.number_names.Goals as goal
use Rattle.chart_places.proofs.table.number_names.Goals.{then-is_none+in_ok-insert, else-is_none}

pub loop-i-preserved : goal.loop-i-preserved
loop-i-preserved c =
    let xs = map declared_of (take c.loop-i.i c.args.names.now) in
    let d = declared_of c.index-names-i.result in
    let more : map declared_of (take (c.loop-i.i + 1) c.args.names.now) ≡ xs ++ d ∷ [] =
    map_more declared_of c.args.names.now c.loop-i.i c.index-names-i.result c.loop-i-test.true
    ∙ ap (λ k. xs ++ declared_of k ∷ []) (sym c.index-names-i.is) in
    let len : length xs ≡ c.loop-i.i = length-map (take c.loop-i.i c.args.names.now) declared_of
    ∙ length-take-le c.loop-i.i c.args.names.now (omega arith) in
    elim c.if-is_none.branch [
      | then-is_none+in_ok-insert w ↦ λ o q.
          ap (λ m. get_by (is_key o q) m) w.numbers-is
          ∙ step_new c.loop-i.numbers.entries w.insert.new.self.entries xs d
          (c.index-names-i.result.owner, c.text.result) c.loop-i.i c.loop-i.invariant
          (w.in_ok-insert.ensures.entries
          ∙ insert_entry-new (λ x y. is_key x.0 x.1.now y) c.loop-i.numbers
          (c.index-names-i.result.owner, c.text.result) c.loop-i.i
          (sym c.get.ensures.value ∙ copied_none _ _ c.is_none.ensures w.if-is_none.true))
          len refl c.text.ensures o q
          ∙ ap (λ ds. declared_from 0 ds o q) (sym more)
      | else-is_none w ↦ λ o q.
          ap (λ m. get_by (is_key o q) m) w.numbers-is
          ∙ step_old c.loop-i.numbers.entries xs d c.loop-i.invariant
          (λ none. copied_some _ _ c.is_none.ensures w.if-is_none.false
          (c.get.ensures.value
          ∙ ap (λ t. get_by (is_key c.index-names-i.result.owner t) c.loop-i.numbers) c.text.ensures ∙ none)) o q
          ∙ ap (λ ds. declared_from 0 ds o q) (sym more)
    ]
