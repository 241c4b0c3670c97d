use Rattle.std.proofs.Common.{◌∙◌, sym}
use Rattle.event_file.proofs.ShortLemmas.{short_is_read}
use Rattle.event_file.proofs.values.mantissa_of_text.Goals as goal

-- a short number is read as any other
pub returns-in-Some : goal.returns-in-Some
returns-in-Some c =
    let is = rw c.split_sign-negative.ensures.rest at c.in-Some.ensures.value in
    c.short_mantissa.ensures
    ∙ sym (short_is_read c.args.scale c.args.text.now c.split_sign-negative.result.0 c.in-Some.magnitude c.split_sign-negative.ensures.sign is)
