use Rattle.std.proofs.Common.{◌∙◌, sym}
use Rattle.active_config.proofs.FieldLemmas.{flags_are}
use Rattle.active_config.proofs.ActiveLemmas.{next_on_is, if_next, none_next}
use Rattle.active_config.proofs.marks.Marks.next_on.Goals as goal

pub returns : goal.returns
returns c =
    let is = next_on_is c.args.self.now _ c.args.from _ _ (flags_are _ _ _ c.self.view_is) c.len.ensures c.first_on.ensures.first in
    record {
      next = is;
      within = if_next _ _ _ is (λ x h. (h.low, h.high));
      on = if_next _ _ _ is (λ x h. h.on);
      first = if_next _ _ _ is (λ x h. h.first);
      none = λ e x le. none_next _ _ x (sym e ∙ is) le;
    }
