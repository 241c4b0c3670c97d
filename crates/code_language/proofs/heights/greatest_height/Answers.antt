use Rattle.flow_base.specs.Lists.{items_of}
use Rattle.code_language.specs.declared.fault.CodeKind.TheVariants as kinds
use Rattle.code_language.specs.declared.limits.TheConstants.{HEIGHT_LIMIT}
use Rattle.code_language.specs.Acceptance.{procs_of}
use Rattle.code_language.specs.Code.{instrs_of}
use Rattle.code_language.specs.Measures.{height_by}
use Rattle.code_language.proofs.MeasureLemmas.{counted_over, counted_more, counted_greatest}
use Rattle.code_language.proofs.MeasureLemmas.{counted_within, proc_at, procs_counted}
use Rattle.code_language.proofs.heights.greatest_height.Goals as goal

pub returns-then-height-gt-HEIGHT_LIMIT-clause-over : goal.returns-then-height-gt-HEIGHT_LIMIT-clause-over
returns-then-height-gt-HEIGHT_LIMIT-clause-over c =
    let xs = c.args.procs.now in
    let x = c.index-procs-p.result in
    let turn = proc_at xs c.loop-p.p x c.loop-p-test.true c.index-procs-p.is in
    let mine = rw (c.deref.ensures.value, c.items.ensures) at c.height_of-height.ensures in
    counted_over height_by HEIGHT_LIMIT (procs_of xs) kinds.TooHigh c.loop-p.p c.loop-p.greatest c.height_of-height.result c.loop-p.heights.items
    (instrs_of (items_of x)) c.loop-p.invariant turn mine c.if-height-gt-HEIGHT_LIMIT.true

pub loop-p-preserved : goal.loop-p-preserved
loop-p-preserved c =
    let xs = c.args.procs.now in
    let x = c.index-procs-p.result in
    let turn = proc_at xs c.loop-p.p x c.loop-p-test.true c.index-procs-p.is in
    let mine = rw (c.deref.ensures.value, c.items.ensures) at c.height_of-height.ensures in
    let more = counted_more height_by HEIGHT_LIMIT (procs_of xs) c.loop-p.p c.loop-p.greatest c.height_of-height.result c.loop-p.heights.items
    (instrs_of (items_of x)) c.loop-p.invariant turn mine c.if-height-gt-HEIGHT_LIMIT.false in
    rw (c.max-greatest.ensures, c.in-Ok.ensures.items) more

pub returns-clause-greatest : goal.returns-clause-greatest
returns-clause-greatest c =
    counted_greatest height_by HEIGHT_LIMIT (procs_of c.args.procs.now) c.loop-p.p c.loop-p.greatest c.loop-p.heights.items c.loop-p.invariant
    (procs_counted c.args.procs.now c.loop-p.p c.loop-p-test.false)

pub returns-clause-none : goal.returns-clause-none
returns-clause-none c =
    counted_within height_by HEIGHT_LIMIT (procs_of c.args.procs.now) kinds.TooHigh c.loop-p.p c.loop-p.greatest c.loop-p.heights.items
    c.loop-p.invariant (procs_counted c.args.procs.now c.loop-p.p c.loop-p-test.false)
