use Rattle.std.proofs.Common.{◌≡◌, ◌+◌, ◌<◌, drop, length, sym, ap, ◌∙◌, is_some, true, false}
use Rattle.flow_base.specs.Lists.{items_of}
use Rattle.code_language.specs.Acceptance.{procs_of}
use Rattle.code_language.specs.Code.{code_of}
use Rattle.code_language.specs.WellFormed.{known_of, first_of, procs_fault}
use Rattle.code_language.proofs.FaultLemmas.{no_procs_left, none_long, short_proc}
use Rattle.code_language.proofs.FaultLemmas.{procs_fault-drop, first_of-some, first_of-none}
use Rattle.code_language.proofs.faults.procs_fault.Goals as goal

pub proc_fault-fault-requires : goal.proc_fault-fault-requires
proc_fault-fault-requires c =
    let xs = items_of c.args.raw.now.procs in
    let within : c.loop-p.p < length xs = rw (← c.items-instrs-items.ensures) c.loop-p-test.true in
    let is = rw c.items-instrs-items.ensures at c.instrs-item.is in
    rw c.items.ensures (short_proc xs c.loop-p.p c.instrs-item.result (none_long xs c.requires) within is)

pub returns-then-is_some : goal.returns-then-is_some
returns-then-is_some c =
    let xs = items_of c.args.raw.now.procs in
    let K = known_of (code_of c.args.raw.now) in
    let within : c.loop-p.p < length xs = rw (← c.items-instrs-items.ensures) c.loop-p-test.true in
    let is = rw c.items-instrs-items.ensures at c.instrs-item.is in
    let turn = procs_fault-drop K xs c.loop-p.p c.instrs-item.result within is in
    let rest = procs_fault K (c.loop-p.p + 1) (drop (c.loop-p.p + 1) (procs_of xs)) in
    let found : is_some c.proc_fault-fault.result ≡ true = cc in
    let mine = rw c.items.ensures at c.proc_fault-fault.ensures in
    sym (sym c.loop-p.invariant ∙ turn ∙ ap (λ o. first_of o rest) (sym mine) ∙ first_of-some c.proc_fault-fault.result rest found)

pub loop-p-preserved : goal.loop-p-preserved
loop-p-preserved c =
    let xs = items_of c.args.raw.now.procs in
    let K = known_of (code_of c.args.raw.now) in
    let within : c.loop-p.p < length xs = rw (← c.items-instrs-items.ensures) c.loop-p-test.true in
    let is = rw c.items-instrs-items.ensures at c.instrs-item.is in
    let turn = procs_fault-drop K xs c.loop-p.p c.instrs-item.result within is in
    let absent : is_some c.proc_fault-fault.result ≡ false = cc in
    let mine = rw c.items.ensures at c.proc_fault-fault.ensures in
    let rest = procs_fault K (c.loop-p.p + 1) (drop (c.loop-p.p + 1) (procs_of xs)) in
    let goes = first_of-none c.proc_fault-fault.result rest absent in
    rw (← goes, mine) (sym turn ∙ c.loop-p.invariant)

pub returns : goal.returns
returns c =
    let xs = items_of c.args.raw.now.procs in
    let past = rw c.items-instrs-items.ensures at c.loop-p-test.false in
    sym (no_procs_left (known_of (code_of c.args.raw.now)) xs c.loop-p.p past) ∙ c.loop-p.invariant
