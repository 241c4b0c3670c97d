use Rattle.std.proofs.Common.{◌≢◌, ℕ, List, arith, rules}
use Rattle.std.proofs.lemmas.Grind.{common_steps}
use Rattle.std.proofs.lemmas.Result.{err_from_is_err_and}
use Rattle.net_text.specs.NetTexts.{net_text_of}
use Rattle.net_text.specs.declared.fault.NetFault.TheVariants as faults
use Rattle.net_text.specs.declared.limits.TheConstants.{NET_TEXT_LIMIT}
use Rattle.net_text.specs.declared.net.NetText as declared
use Rattle.commands.proofs.ReadingLemmas.{gives_of, refused_so, refused_of}
use Rattle.commands.proofs.NetTextLemmas.{too_long_refused}
use Rattle.commands.specs.NetCharts.{SaysNet, RefusesNet}
use Rattle.commands.proofs.net_file.read_net_file.Goals as goal

-- the text isn't read
pub returns-in_err-text-clause-given : goal.returns-in_err-text-clause-given
returns-in_err-text-clause-given g c =
    let p = err_from_is_err_and c.from_residual.result c.from_residual.ensures.1 in
    rw (p.1, p.2)
    (refused_so NET_TEXT_LIMIT _ RefusesNet _ _ c.args.net_file.now _ (λ text why r. rw r.why_is
    (too_long_refused text r.long)) c.in_err-text.ensures)

-- the text says a net
pub returns-in-Ok-clause-given : goal.returns-in-Ok-clause-given
returns-in-Ok-clause-given g c =
    gives_of NET_TEXT_LIMIT _ _ c.args.net_file.now c.in_ok-text.text c.in_ok-text.ensures
    (λ (text : List ℕ) (net : declared.NetText). SaysNet text (net_text_of net)) c.in-Ok.net _ c.deref.ensures.value
    c.in-Ok.ensures.read

-- the text is refused
pub returns-clause-given : goal.returns-clause-given
returns-clause-given g c =
    let other : c.in-Err.fault ≢ faults.Memory = first_of (search rules, grind (arith, common_steps)) in
    refused_of NET_TEXT_LIMIT _ _ c.args.net_file.now c.in_ok-text.text c.in_ok-text.ensures RefusesNet c.in-Err.fault _
    c.deref.ensures.value
    (record { cause = c.in-Err.ensures.refused other; of_text = other })
