use Rattle.std.proofs.Common.{◌^◌, ℕ, ℤ, unsigned_abs, ap, ◌∙◌, arith}
use Rattle.std.proofs.lemmas.Int.{to_z-of_z}
use Rattle.std.specs.Int.{w128}
use Rattle.fixed_point.specs.Numbers.{floored}
use Rattle.fixed_point.proofs.Floors.{floored-within}
use Rattle.fixed_point.proofs.fitting.fit.Goals as goal

-- the floor is small, since the number is at both fractions
pub wrapped-requires : goal.wrapped-requires
wrapped-requires c =
    let h = floored-within c.args.a c.args.to.frac (2 ^ 100) c.requires.own c.requires.brought in
    let e =
    ap (λ (z : ℤ). unsigned_abs z) (to_z-of_z w128 c.floored-mantissa.result (record { sfits = c.floored-mantissa.type_inv })
    ∙ c.floored-mantissa.ensures ∙ ap (λ (x : ℕ). floored c.args.a x) c.from.ensures) in
    omega arith
