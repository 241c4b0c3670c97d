use Rattle.std.proofs.Common.{◌≢◌, ◌≤◌, ◌∙◌, ℕ, List, length, arith, rules, subst, sym}
use Rattle.std.proofs.lemmas.Grind.{common_steps}
use Rattle.std.proofs.lemmas.Result.{err_from_is_err_and}
use Rattle.code_text.specs.declared.fault.CodeTextFault.TheVariants as faults
use Rattle.code_text.specs.declared.limits.TheConstants.{TEXT_LIMIT}
use Rattle.commands.proofs.ReadingLemmas.{gives_of, refused_so, refused_of}
use Rattle.commands.specs.CodeText.{IsCodeText, RefusesCode}
use Rattle.commands.proofs.CodeFileLemmas.{too_long_refused}
use Rattle.commands.proofs.code_file.read_code_file.Goals as goal

-- the text isn't read
pub returns-in_err-text : goal.returns-in_err-text
returns-in_err-text g c =
    let p = err_from_is_err_and c.from_residual.result c.from_residual.ensures.1 in
    rw (p.1, p.2)
    (refused_so TEXT_LIMIT _ RefusesCode _ _ c.args.name.now _ (λ text why r. rw r.why_is (too_long_refused text r.long)) c.in_err-text.ensures)

-- the text is that of accepted code
pub returns-in-Ok : goal.returns-in-Ok
returns-in-Ok g c =
    let read = c.in_ok-text.ensures.means in
    gives_of TEXT_LIMIT _ _ c.args.name.now c.in_ok-text.text c.in_ok-text.ensures IsCodeText c.in-Ok.code _ c.deref.ensures.value
    (record {
      format = c.in-Ok.ensures.read.0;
      text_is = c.in-Ok.ensures.read.1;
      spellable = c.in-Ok.ensures.read.2;
      well_formed = c.in-Ok.ensures.formed;
      short = subst (λ (t : List ℕ). length t ≤ TEXT_LIMIT) (sym (c.deref.ensures.value ∙ read.bytes_are)) read.short;
    })

-- the text is refused
pub returns : goal.returns
returns g c =
    let other : c.in-Err.fault ≢ faults.Memory = first_of (search rules, grind (arith, common_steps)) in
    refused_of TEXT_LIMIT _ _ c.args.name.now c.in_ok-text.text c.in_ok-text.ensures RefusesCode c.in-Err.fault _ c.deref.ensures.value
    (record { cause = c.in-Err.ensures.refused; of_text = other })
