use Rattle.std.proofs.Common.{◌++◌, ap, ◌∙◌}
use Rattle.std.specs.Prelude.{codes, decimal, string_bytes}
use Rattle.c_header.specs.Identity.{identity_text}
use Rattle.c_header.proofs.PartLemmas.{last, five_parts, of_same}
use Rattle.c_header.proofs.identity.print_identity.Goals as goal

pub returns : goal.returns
unfolding identity_text
returns c =
    last _ _ _ _ c.print_titled-2.ensures
    (ap (λ digits. string_bytes c.print_number-2.new.out ++ (codes ". Do not edit.\n   The sum of the chart is "
    ++ (digits ++ codes ", the first 64 bits of the MD5 of its canonical text.\n")))
    (c.deref.ensures ∙ c.in_ok-digits.ensures)
    ∙ five_parts _ _ _ _ _ _ _ _ _ _ c.in_ok-print_titled.ensures
    (of_same (λ version. version) _ _ _ _ c.in_ok-push_str.ensures.bytes c.version.ensures)
    (of_same (λ depth. codes " with --depth " ++ decimal depth) _ _ _ _ c.in_ok-print_number.ensures c.from.ensures)
    (of_same (λ steps. codes " --steps " ++ decimal steps) _ _ _ _ c.in_ok-print_number-2.ensures c.from-2.ensures))
