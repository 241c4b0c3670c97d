use Rattle.std.proofs.Common.{◌≡◌, ◌+◌, ◌<◌, length, drop, sym, ap, ◌∙◌, is_some, true, false, arith}
use Rattle.std.proofs.lemmas.Bool.Decides.{nat_tests}
use Rattle.code_language.specs.Code.{code_of, instrs_of}
use Rattle.code_language.specs.WellFormed.{known_of, first_of, instrs_fault}
use Rattle.code_language.proofs.FaultLemmas.{empty_proc, some_proc, no_instrs_left, left_behind}
use Rattle.code_language.proofs.FaultLemmas.{instrs_fault-drop, first_of-some, first_of-none}
use Rattle.code_language.proofs.faults.proc_fault.Goals as goal

pub returns-then-is_empty : goal.returns-then-is_empty
returns-then-is_empty c =
    let none : length c.args.instrs.now ≡ 0 = let e = c.is_empty.ensures in let t = c.if-is_empty.true in grind (arith, nat_tests) in
    c.fault_at.ensures ∙ empty_proc (known_of (code_of c.args.raw.now)) c.args.p c.args.instrs.now none

pub returns-then-is_some : goal.returns-then-is_some
returns-then-is_some c =
    let K = known_of (code_of c.args.raw.now) in
    let xs = c.args.instrs.now in
    let i = c.loop-place.place in
    let x = c.index-instrs-place.result in
    let turn = instrs_fault-drop K c.args.p xs i x c.loop-place-test.true c.index-instrs-place.is in
    let rest = instrs_fault K c.args.p (i + 1) (drop (i + 1) (instrs_of xs)) in
    let mine = c.instr_fault-fault.ensures (drop (i + 1) (instrs_of xs)) (left_behind xs i c.loop-place-test.true) in
    let found : is_some c.instr_fault-fault.result ≡ true = cc in
    let some : 0 < length xs = let t = c.loop-place-test.true in omega arith in
    sym (sym (some_proc K c.args.p xs some) ∙ sym c.loop-place.invariant ∙ turn ∙ ap (λ o. first_of o rest) (sym mine)
    ∙ first_of-some c.instr_fault-fault.result rest found)

pub loop-place-preserved : goal.loop-place-preserved
loop-place-preserved c =
    let K = known_of (code_of c.args.raw.now) in
    let xs = c.args.instrs.now in
    let i = c.loop-place.place in
    let x = c.index-instrs-place.result in
    let turn = instrs_fault-drop K c.args.p xs i x c.loop-place-test.true c.index-instrs-place.is in
    let rest = instrs_fault K c.args.p (i + 1) (drop (i + 1) (instrs_of xs)) in
    let mine = c.instr_fault-fault.ensures (drop (i + 1) (instrs_of xs)) (left_behind xs i c.loop-place-test.true) in
    let absent : is_some c.instr_fault-fault.result ≡ false = cc in
    sym (first_of-none c.instr_fault-fault.result rest absent) ∙ ap (λ o. first_of o rest) mine ∙ sym turn ∙ c.loop-place.invariant

pub returns : goal.returns
returns c =
    let K = known_of (code_of c.args.raw.now) in
    let xs = c.args.instrs.now in
    let some : 0 < length xs = let e = c.is_empty.ensures in let t = c.if-is_empty.false in grind (arith, nat_tests) in
    sym (no_instrs_left K c.args.p xs c.loop-place.place c.loop-place-test.false) ∙ c.loop-place.invariant
    ∙ some_proc K c.args.p xs some
