use Rattle.std.proofs.Common.{◌≡◌, length, sym, ap, ◌∙◌, subst, arith}
use Rattle.std.proofs.lemmas.List.{with_items_is}
use Rattle.c_text.specs.Labels.{labels_of}
use Rattle.c_file.specs.Made.{functions_of}
use Rattle.c_file.specs.Reached.{AreReached}
use Rattle.c_file.specs.Changing.{AreChanging, turned_round}
use Rattle.c_file.specs.Closing.{Closes}
use Rattle.c_file.proofs.PassLemmas.{uses_reached, uses_calls, uses_wide, uses_changing}
use Rattle.c_file.proofs.known.uses_of.Goals as goal

pub returns : goal.returns
returns c =
    let L = labels_of c.args.made.now.labels in
    let functions = functions_of c.args.made.now in
    let all = c.add_all_uses.new.uses in
    let adds = c.in_ok-add_all_uses.ensures in
    let flags = c.close.new.flags in
    let marks = c.close-2.new.flags in
    let size : length flags ≡ all.reached.len = omega (arith, c.close.ensures.size, c.deref_mut.ensures.len) in
    let marked : length marks ≡ all.changing.len = omega (arith, c.close-2.ensures.size, c.deref_mut-2.ensures.len) in
    let closes =
    subst (λ cs. Closes cs all.reached.items flags) c.deref.ensures.value
    (subst (λ bs. Closes c.deref.result.now bs flags) c.deref_mut.ensures.value c.close.ensures) in
    let marking =
    subst (λ bs. Closes c.deref-3.result.now bs marks) c.deref_mut-2.ensures.value c.close-2.ensures in
    record {
      reached =
          subst (λ fs. AreReached L functions fs) (sym (with_items_is all.reached flags size))
          (uses_reached L functions _ all flags adds c.in_ok-outside_flags.ensures c.new.ensures.items closes);
      calls = uses_calls L functions _ all adds c.new.ensures.items;
      wide = uses_wide L functions _ all adds c.new-2.ensures.items;
      changing =
          subst (λ fs. AreChanging L functions fs) (sym (with_items_is all.changing marks marked))
          (uses_changing L functions _ all c.deref-3.result.now marks adds c.new.ensures.items c.new-3.ensures.items
          (c.deref-3.ensures.value ∙ c.in_ok-turned.ensures ∙ ap turned_round c.deref-2.ensures.value) marking);
    }
