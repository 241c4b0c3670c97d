use Rattle.std.proofs.Common.{sym, arith}
use Rattle.code_fields.proofs.ScaleLemmas.{made_is, scale_of_parts-none}
use Rattle.code_fields.proofs.scales.scale_of.Goals as goal

pub returns-then-width-from : goal.returns-then-width-from
returns-then-width-from c =
    sym (scale_of_parts-none c.args.signed c.args.width c.args.frac (λ h. omega (arith, h.bits_within)))

pub returns-then-frac-from : goal.returns-then-frac-from
returns-then-frac-from c =
    sym (scale_of_parts-none c.args.signed c.args.width c.args.frac (λ h. omega (arith, h.frac_within)))

pub returns : goal.returns
returns c = made_is c.args.signed c.args.width c.args.frac c.make.result c.make.ensures.made c.make.ensures.parts
