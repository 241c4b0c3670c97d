use Rattle.std.proofs.Common.{◌≡◌, List, length, map, replicate, false, ap, ◌∙◌, arith}
use Rattle.std.proofs.lemmas.List.{with_items_is}
use Rattle.flow_base.specs.Lists.{items_of}
use Rattle.code_language.specs.Code.{instrs_of}
use Rattle.code_language.specs.declared.instr.Instr.{Instr}
use Rattle.code_copies.specs.Tested.{tested_event, set_all}
use Rattle.code_copies.proofs.FlagLemmas.{all_size, one_more_procedure}
use Rattle.code_copies.proofs.tested.tested_flags.Goals as goal

-- the flags of one procedure more
pub loop-instrs-preserved : goal.loop-instrs-preserved
loop-instrs-preserved c =
    let raw = c.args.raw.now in
    let i = c.loop-instrs.instrs-index in
    let x = c.instrs-item.result in
    let old = c.loop-instrs.flags.items in
    let new = c.set_tested.new.flags in
    let next : new ≡ set_all (map tested_event (instrs_of (items_of x))) old =
    c.set_tested.ensures
    ∙ ap (λ (is : List Instr). set_all (map tested_event (instrs_of is)) c.deref_mut.result.now)
    c.items-in-loop-instrs.ensures
    ∙ ap (set_all (map tested_event (instrs_of (items_of x)))) c.deref_mut.ensures.value in
    let size = ap length next ∙ all_size (map tested_event (instrs_of (items_of x))) old in
    let long : length new ≡ c.loop-instrs.flags.len = let ok = c.loop-instrs.flags.ok in omega (arith, size, ok) in
    with_items_is c.loop-instrs.flags new long
    ∙ one_more_procedure (items_of raw.procs) i x (replicate (length (items_of raw.events)) false) old new
    (rw c.items-instrs-items.ensures at c.loop-instrs-test.true) (rw c.items-instrs-items.ensures at c.instrs-item.is)
    c.loop-instrs.invariant next
