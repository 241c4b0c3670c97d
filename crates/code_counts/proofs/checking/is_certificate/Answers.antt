use Rattle.std.proofs.Common.{refl, subst}
use Rattle.flow_base.specs.Lists.{items_of}
use Rattle.code_language.specs.Code.{code_of, instrs_of}
use Rattle.code_counts.specs.Rows.{numbers_of}
use Rattle.code_counts.proofs.Each.{AreEnough, each_more, each_all, all_enough}
use Rattle.code_counts.proofs.checking.is_certificate.Goals as goal

-- the numbers are enough in this procedure
pub loop-proc-preserved : goal.loop-proc-preserved
loop-proc-preserved c =
    let P = AreEnough c.args.counted (numbers_of c.args.rows.now) c.args.code.now.react in
    each_more (λ is. instrs_of (items_of is)) P c.items-instrs-items.result.now (items_of c.args.code.now.procs)
    c.loop-proc.proc c.instrs-item.result c.items-instrs-items.ensures c.loop-proc-test.true c.instrs-item.is
    c.loop-proc.invariant
    (subst (λ is. P c.loop-proc.proc (instrs_of is)) c.items.ensures (c.if-not-are_enough.ensures refl))

-- none is left
pub returns : goal.returns
returns c t =
    let P = AreEnough c.args.counted (numbers_of c.args.rows.now) c.args.code.now.react in
    all_enough c.args.counted (numbers_of c.args.rows.now) (code_of c.args.code.now).procedures
    (each_all (λ is. instrs_of (items_of is)) P c.items-instrs-items.result.now (items_of c.args.code.now.procs)
    c.loop-proc.proc c.items-instrs-items.ensures c.loop-proc-test.false c.loop-proc.invariant)
