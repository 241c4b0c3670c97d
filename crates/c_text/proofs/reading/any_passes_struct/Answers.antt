use Rattle.std.proofs.Common.{arith}
use Rattle.c_subset.specs.declared.trees.Case.{Case}
use Rattle.c_text.specs.Functions.{passes_struct}
use Rattle.c_text.specs.Labels.{labels_of}
use Rattle.c_text.proofs.LoopLemmas.{item_decides, item_passes, none_holds}
use Rattle.c_text.proofs.reading.any_passes_struct.Goals as goal

pub returns-then-passes_struct : goal.returns-then-passes_struct
returns-then-passes_struct c =
    item_decides (λ (x : Case). passes_struct (labels_of c.args.labels.now) x.function) c.args.cases.now
    c.loop-case.case-index _ _ _ (omega arith) c.passes_struct.ensures c.if-passes_struct.true c.loop-case.invariant

pub loop-case-preserved : goal.loop-case-preserved
loop-case-preserved c =
    item_passes (λ (x : Case). passes_struct (labels_of c.args.labels.now) x.function) c.args.cases.now
    c.loop-case.case-index _ _ _ (omega arith) c.passes_struct.ensures c.if-passes_struct.false c.loop-case.invariant

pub returns : goal.returns
returns c =
    none_holds (λ (x : Case). passes_struct (labels_of c.args.labels.now) x.function) c.args.cases.now
    c.loop-case.case-index _ (omega arith) c.loop-case.invariant
