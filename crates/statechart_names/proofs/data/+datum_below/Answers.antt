use Rattle.std.proofs.Common.{List, Some, ap, ◌∙◌}
use Rattle.std.proofs.lemmas.List.{take_rest}
use Rattle.chart_tree.specs.declared.name.NameText.{NameText}
use Rattle.statechart_meaning.specs.Scope.{datum_below}
use Rattle.statechart_names.specs.Seen.{child_seen, lowest_path}
use Rattle.statechart_names.proofs.DatumLemmas.{below-none, below-some}
use Rattle.statechart_names.proofs.data.+datum_below.Goals as goal

pub returns-in-None : goal.returns-in-None
returns-in-None t c =
    below-none c.args.frames.now c.args.names.now c.name-item-2.result c.text-in-len2-up.result.now
    c.in_ok-child_of-in-len2-up.field-0 c.in-len2-up.len_at_least c.name-item-2.is c.text-in-len2-up.ensures
    c.in_ok-child_of-in-len2-up.ensures c.in-None.is

pub returns-in_ok-found-in-Some : goal.returns-in_ok-found-in-Some
returns-in_ok-found-in-Some t c =
    c.in_ok-found-in-Some.ensures
    ∙ ap
    (λ (l : List NameText).
    datum_below (Some (child_seen (lowest_path c.args.frames.now) c.in-Some.child)) l)
    (take_rest c.args.names.now 1)
    ∙ below-some c.args.frames.now c.args.names.now c.name-item-2.result c.text-in-len2-up.result.now
    c.in_ok-child_of-in-len2-up.field-0 c.in-Some.child c.in-len2-up.len_at_least c.name-item-2.is
    c.text-in-len2-up.ensures c.in_ok-child_of-in-len2-up.ensures c.in-Some.is
