use Rattle.std.proofs.Common.{◌∙◌, sym, refl}
use Rattle.c_file.proofs.OrderLemmas.{placed_more, placed_same, next_there}
use Rattle.c_file.proofs.order.place.Goals as goal

pub bounds-placed-number : goal.bounds-placed-number
bounds-placed-number c = next_there _ _ _ _ c.requires (sym c.is_next.ensures ∙ c.if-is_next.true)

pub returns-in_ok-push : goal.returns-in_ok-push
returns-in_ok-push c =
    placed_more _ _ _ _ c.requires (sym c.is_next.ensures ∙ c.if-is_next.true) _ refl _ c.in_ok-push.ensures.items

pub returns-else-is_next : goal.returns-else-is_next
returns-else-is_next c = placed_same _ _ _ _ c.requires (sym c.is_next.ensures ∙ c.if-is_next.false)
