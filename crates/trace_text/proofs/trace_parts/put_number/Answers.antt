use Rattle.std.proofs.Common.{◌≡◌, ℤ, FitsSigned, sym, ◌∙◌, ap, rules}
use Rattle.std.proofs.lemmas.Int.{to_z-of_z}
use Rattle.std.specs.Fmt.{signed_decimal}
use Rattle.std.specs.Int.{w128}
use Rattle.fixed_point.specs.Text.{decimal_text}
use Rattle.trace_text.proofs.DataLemmas.{integer_text}
use Rattle.trace_text.proofs.PutLemmas.{puts_same}
use Rattle.trace_text.proofs.trace_parts.put_number.Goals as goal

-- a number without a fraction has the digits of an integer
pub returns-then-number-eq0 : goal.returns-then-number-eq0
returns-then-number-eq0 g c =
    let m = c.args.number.mantissa in
    let none : c.args.number.frac ≡ 0 = c.if-number-eq0.true in
    let fits : FitsSigned w128 m = search rules in
    puts_same _ _ _ _ _ _ _ _ c.put_integer.ensures
    (ap (decimal_text m) none ∙ integer_text m ∙ sym (ap (λ (z : ℤ). signed_decimal z) (to_z-of_z w128 m fits)))
