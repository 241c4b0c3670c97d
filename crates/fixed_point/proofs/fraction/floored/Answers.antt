use Rattle.std.proofs.Common.{ℕ, ℤ, ◌^◌, FitsSigned, ap, sym, ◌∙◌, arith, rules}
use Rattle.std.proofs.lemmas.Int.{to_z-of_z}
use Rattle.std.specs.Int.{w128}
use Rattle.fixed_point.specs.Numbers.{floor_by}
use Rattle.fixed_point.proofs.Floors.{floored-raised, floored-shifted}
use Rattle.fixed_point.proofs.fraction.floored.Goals as goal

-- zero bits are added
pub returns-then-a-frac : goal.returns-then-a-frac
returns-then-a-frac c =
    to_z-of_z w128 c.scaled.result (record { sfits = c.scaled.type_inv })
    ∙ c.scaled.ensures ∙ sym (floored-raised c.args.a c.args.frac c.if-a-frac.true)

-- bits are dropped
pub returns-else-a-frac : goal.returns-else-a-frac
returns-else-a-frac c =
    let fits : FitsSigned w128 c.args.a.mantissa = search rules in
    to_z-of_z w128 c.without_bits.result (record { sfits = c.without_bits.type_inv })
    ∙ c.without_bits.ensures ∙ ap (λ (z : ℤ). floor_by z (2 ^ c.min.result)) (to_z-of_z w128 c.args.a.mantissa fits)
    ∙ ap (λ (x : ℕ). floor_by c.args.a.mantissa (2 ^ x)) c.min.ensures
    ∙ sym (floored-shifted c.args.a c.args.frac fits (omega arith))
