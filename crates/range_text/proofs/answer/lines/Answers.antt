use Rattle.std.proofs.Common.{◌∙◌, ap}
use Rattle.actions.specs.Names.{Names}
use Rattle.range_text.specs.Lines.{ranges_text}
use Rattle.range_text.proofs.answer.lines.Goals as goal

-- the lines of a certificate that all runs keep to
pub returns : goal.returns
returns c = record {
  cert = c.in_ok-cert.cert;
  kept = c.in_ok-cert.ensures;
  spelled = c.in_ok-text.ensures ∙ ap (λ (n : Names). ranges_text n c.in_ok-cert.cert) c.names.ensures.names;
}
