use Rattle.std.proofs.Common.{sym, ◌∙◌}
use Rattle.c_text.specs.Labels.{labels_of}
use Rattle.c_file.specs.Made.{functions_of}
use Rattle.c_file.proofs.HeightLemmas.{most_found, few_told}
use Rattle.c_file.proofs.heights.most_open.Goals as goal

pub returns-then-all_lead_down-clause-most : goal.returns-then-all_lead_down-clause-most
returns-then-all_lead_down-clause-most c =
    most_found (labels_of c.args.made.now.labels) (functions_of c.args.made.now) c.args.uses.now c.requires.uses
    c.deref.result.now c.deref-2.result.now c.deref-3.result.now c.deref.ensures.value c.deref-3.ensures.value
    (sym c.all_lead_down.ensures ∙ c.if-all_lead_down.true) c.deref-then-all_lead_down.result.now c.greatest.result
    (c.deref-then-all_lead_down.ensures.value ∙ sym c.deref-2.ensures.value) c.greatest.ensures c.one_more.result
    c.one_more.ensures

pub returns-then-all_lead_down-clause-few : goal.returns-then-all_lead_down-clause-few
returns-then-all_lead_down-clause-few c = few_told _ c.one_more.result c.one_more.ensures
