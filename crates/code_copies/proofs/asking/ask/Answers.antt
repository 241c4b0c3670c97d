use Rattle.std.proofs.Common.{◌∙◌, sym, ap, subst}
use Rattle.code_language.specs.Code.{code_of}
use Rattle.code_language.specs.WellFormed.{IsCode}
use Rattle.code_copies.specs.Asking.{asking_code}
use Rattle.code_copies.proofs.AskedLemmas.{may_ask, asked_same_runs}
use Rattle.code_copies.proofs.AskingWhole.{asking_same_runs}
use Rattle.code_copies.proofs.asking.ask.Goals as goal

-- what is accepted has the same runs
pub returns-in-Ok-clause-same : goal.returns-in-Ok-clause-same
returns-in-Ok-clause-same c =
    asked_same_runs c.args.events.now c.args.code.now c.raw.result.now c.in_ok-raw.raw c.in-Ok.asking c.raw.ensures.raw
    c.in_ok-raw.ensures c.in-Ok.ensures.accepted c.raw.ensures.well_formed c.requires c.raw-in-Ok.ensures.well_formed

-- and may ask
pub returns-in-Ok-clause-none : goal.returns-in-Ok-clause-none
returns-in-Ok-clause-none c may_not =
    absurd
    (may_not
    (may_ask c.args.events.now c.args.code.now c.raw.result.now c.in_ok-raw.raw c.in-Ok.asking c.raw.ensures.raw
    c.in_ok-raw.ensures c.in-Ok.ensures.accepted c.raw.ensures.well_formed c.requires c.raw-in-Ok.ensures.well_formed))

-- where it may ask it is accepted
pub returns-in-Err-Fault-clause-asks : goal.returns-in-Err-Fault-clause-asks
returns-in-Err-Fault-clause-asks c may =
    let es = c.args.events.now in
    let is = c.in_ok-raw.ensures ∙ ap (λ raw. asking_code es (code_of raw)) c.raw.ensures.raw in
    let same = asking_same_runs es (code_of c.args.code.now) c.raw.ensures.well_formed may in
    let bad =
    sym c.in-Err-Fault.field-0-is ∙ c.in-Err-Fault.ensures.only (subst IsCode (sym is) same.well_formed) in cc
