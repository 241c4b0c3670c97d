use Rattle.std.proofs.Common.{◌∙◌, sym, ap, false, true}
use Rattle.code_language.specs.Code.{code_of, instr_of}
use Rattle.code_language.specs.WellFormed.{known_of, skips_within}
use Rattle.code_language.proofs.FaultLemmas.{at_known, at_within, at_lower, at_typed, at_last, at_keeps}
use Rattle.code_language.proofs.faults.instr_fault.Goals as goal

pub returns-then-not-instr_known : goal.returns-then-not-instr_known
returns-then-not-instr_known c = λ rest len.
    let K = known_of (code_of c.args.raw.now) in
    let x = instr_of c.args.instr.now in
    let e = at_known K c.args.p c.args.place x rest (sym c.instr_known.ensures ∙ c.if-not-instr_known.true) in
    cc

pub returns-then-not-skips_within : goal.returns-then-not-skips_within
returns-then-not-skips_within c = λ rest len.
    let K = known_of (code_of c.args.raw.now) in
    let x = instr_of c.args.instr.now in
    let known = sym c.instr_known.ensures ∙ c.if-not-instr_known.false in
    let within = ap (λ n. skips_within n x) len ∙ sym c.skips_within.ensures ∙ c.if-not-skips_within.true in
    let e = at_within K c.args.p c.args.place x rest known within in
    cc

pub returns-then-not-calls_lower : goal.returns-then-not-calls_lower
returns-then-not-calls_lower c = λ rest len.
    let K = known_of (code_of c.args.raw.now) in
    let x = instr_of c.args.instr.now in
    let known = sym c.instr_known.ensures ∙ c.if-not-instr_known.false in
    let within = ap (λ n. skips_within n x) len ∙ sym c.skips_within.ensures ∙ c.if-not-skips_within.false in
    let lower = sym c.calls_lower.ensures ∙ c.if-not-calls_lower.true in
    let e = at_lower K c.args.p c.args.place x rest known within lower in
    cc

pub returns-then-not-instr_typed : goal.returns-then-not-instr_typed
returns-then-not-instr_typed c = λ rest len.
    let K = known_of (code_of c.args.raw.now) in
    let x = instr_of c.args.instr.now in
    let known = sym c.instr_known.ensures ∙ c.if-not-instr_known.false in
    let within = ap (λ n. skips_within n x) len ∙ sym c.skips_within.ensures ∙ c.if-not-skips_within.false in
    let lower = sym c.calls_lower.ensures ∙ c.if-not-calls_lower.false in
    let typed = sym c.instr_typed.ensures ∙ c.if-not-instr_typed.true in
    let e = at_typed K c.args.p c.args.place x rest known within lower typed in
    cc

pub returns-then-not-last_returns : goal.returns-then-not-last_returns
returns-then-not-last_returns c = λ rest len.
    let K = known_of (code_of c.args.raw.now) in
    let x = instr_of c.args.instr.now in
    let known = sym c.instr_known.ensures ∙ c.if-not-instr_known.false in
    let within = ap (λ n. skips_within n x) len ∙ sym c.skips_within.ensures ∙ c.if-not-skips_within.false in
    let lower = sym c.calls_lower.ensures ∙ c.if-not-calls_lower.false in
    let typed = sym c.instr_typed.ensures ∙ c.if-not-instr_typed.false in
    let last = sym (c.last_returns.ensures rest len) ∙ c.if-not-last_returns.true in
    let e = at_last K c.args.p c.args.place x rest known within lower typed last in
    cc

pub returns-then-not-instr_keeps : goal.returns-then-not-instr_keeps
returns-then-not-instr_keeps c = λ rest len.
    let K = known_of (code_of c.args.raw.now) in
    let x = instr_of c.args.instr.now in
    let known = sym c.instr_known.ensures ∙ c.if-not-instr_known.false in
    let within = ap (λ n. skips_within n x) len ∙ sym c.skips_within.ensures ∙ c.if-not-skips_within.false in
    let lower = sym c.calls_lower.ensures ∙ c.if-not-calls_lower.false in
    let typed = sym c.instr_typed.ensures ∙ c.if-not-instr_typed.false in
    let last = sym (c.last_returns.ensures rest len) ∙ c.if-not-last_returns.false in
    let e = at_keeps K c.args.p c.args.place x rest known within lower typed last false
    (sym c.instr_keeps.ensures ∙ c.if-not-instr_keeps.true) in
    cc

pub returns-else-not-instr_keeps : goal.returns-else-not-instr_keeps
returns-else-not-instr_keeps c = λ rest len.
    let K = known_of (code_of c.args.raw.now) in
    let x = instr_of c.args.instr.now in
    let known = sym c.instr_known.ensures ∙ c.if-not-instr_known.false in
    let within = ap (λ n. skips_within n x) len ∙ sym c.skips_within.ensures ∙ c.if-not-skips_within.false in
    let lower = sym c.calls_lower.ensures ∙ c.if-not-calls_lower.false in
    let typed = sym c.instr_typed.ensures ∙ c.if-not-instr_typed.false in
    let last = sym (c.last_returns.ensures rest len) ∙ c.if-not-last_returns.false in
    let e = at_keeps K c.args.p c.args.place x rest known within lower typed last true
    (sym c.instr_keeps.ensures ∙ c.if-not-instr_keeps.false) in
    e
