use Rattle.std.proofs.Common.{◌++◌, flat_map, sym, ap, ◌∙◌, map-id}
use Rattle.std.specs.Prelude.{string_bytes}
use Rattle.std.proofs.lemmas.Iterator.{YieldsList-from_chars}
use Rattle.std.proofs.lemmas.Iterator.Consumers.{YieldsList-end}
use Rattle.c_names.specs.Stems.{letter_text, doubled}
use Rattle.c_names.proofs.stems.print_doubled.Goals as goal

pub returns : goal.returns
unfolding doubled
returns c =
    let all = YieldsList-from_chars c.args.name.now c.utf8.name cc in
    let end =
    YieldsList-end all c.loop-letter.yielded _ c.loop-letter.yielded_by _ _ c.in-None.is c.next.ensures.steps in
    c.loop-letter.invariant
    ∙ ap (λ cs. string_bytes c.args.out.now ++ flat_map letter_text cs) (sym (map-id c.loop-letter.yielded) ∙ end.0)
