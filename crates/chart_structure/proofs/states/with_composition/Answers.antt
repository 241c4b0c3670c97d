use Rattle.chart_structure.proofs.StateLemmas.{composition_is, composition_one, composition_old, composition_new}
use Rattle.chart_structure.proofs.states.with_composition.Goals as goal

pub returns-clause-one : goal.returns-clause-one
returns-clause-one c =
    composition_one _ _ _ _ _ _ _ _ c.is_root.ensures c.is_childless.ensures c.is_empty.ensures c.list.ensures.list
    (composition_is _ _ _ _ _ _ _ _ _ _ c.with_fault.ensures c.comp_fault-wrong.ensures c.word.ensures c.name.ensures)
    c.requires.state c.requires.one

pub returns-clause-old : goal.returns-clause-old
returns-clause-old c =
    composition_old _ _ _ _ _ _ _ _ c.is_root.ensures c.is_childless.ensures c.is_empty.ensures c.list.ensures.list
    (composition_is _ _ _ _ _ _ _ _ _ _ c.with_fault.ensures c.comp_fault-wrong.ensures c.word.ensures c.name.ensures)

pub returns-clause-new : goal.returns-clause-new
returns-clause-new c =
    composition_new _ _ _ _ _ _ _ _ c.is_root.ensures c.is_childless.ensures c.is_empty.ensures c.list.ensures.list
    (composition_is _ _ _ _ _ _ _ _ _ _ c.with_fault.ensures c.comp_fault-wrong.ensures c.word.ensures c.name.ensures)
