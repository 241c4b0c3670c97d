use Rattle.std.proofs.Common.{◌∙◌, ap, length, arith}
use Rattle.flow_base.specs.Lists.{items_of}
use Rattle.code_language.specs.declared.code.RawCode.{RawCode}
use Rattle.code_merging.proofs.MergedWhole.{some_there}
use Rattle.code_merging.proofs.finding.table_of.Goals as goal

-- there is a procedure
pub stand_ins-requires-clause-some : goal.stand_ins-requires-clause-some
stand_ins-requires-clause-some c =
    let procs = c.items.ensures ∙ ap (λ (raw : RawCode). items_of raw.procs) c.raw.ensures.raw in
    omega (arith, some_there c.args.code.now c.raw.ensures.well_formed, ap length procs)
