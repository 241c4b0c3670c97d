use Rattle.std.proofs.Common.{ℕ, ◌-◌, ◌%◌, ◌^◌, ℤ, unsigned_abs, FitsSigned, nat_eq, ap, sym, ◌∙◌, ⊎_elim, arith, rules}
use Rattle.std.proofs.lemmas.Int.{to_z-of_z}
use Rattle.std.proofs.lemmas.Bool.Decides.{nat_tests}
use Rattle.std.specs.Int.{w128}
use Rattle.fixed_point.proofs.Powers.{zero_from_bits, abs_within}
use Rattle.fixed_point.proofs.Floors.{is_whole-raised, is_whole-zero, is_whole-dropped, is_whole-far}
use Rattle.fixed_point.proofs.fraction.is_whole.Goals as goal

-- bits are added, or the number is 0
pub returns-then-a-frac : goal.returns-then-a-frac
returns-then-a-frac c =
    let a = c.args.a in
    let fits : FitsSigned w128 a.mantissa = search rules in
    ⊎_elim (λ above. sym (is_whole-raised a c.args.frac above))
    (λ w. sym (is_whole-zero a c.args.frac (zero_from_bits a.mantissa fits w.1))) c.then-a-frac.either

-- the bits that are dropped are tested
pub returns-then-dropped-lt128 : goal.returns-then-dropped-lt128
returns-then-dropped-lt128 c =
    let a = c.args.a in
    let d = a.frac - c.args.frac in
    let fits : FitsSigned w128 a.mantissa = search rules in
    let size = c.unsigned_abs.ensures.value ∙ ap (λ (z : ℤ). unsigned_abs z) (to_z-of_z w128 a.mantissa fits) in
    ap (λ (x : ℕ). nat_eq (c.unsigned_abs.result % x) 0) c.unsigned_power.ensures
    ∙ ap (λ (x : ℕ). nat_eq (x % 2 ^ d) 0) size
    ∙ sym (is_whole-dropped a c.args.frac (omega arith))

-- more bits are dropped than there are
pub returns-else-dropped-lt128 : goal.returns-else-dropped-lt128
returns-else-dropped-lt128 c =
    let a = c.args.a in
    let fits : FitsSigned w128 a.mantissa = search rules in
    let e = is_whole-far a c.args.frac c.if-a-eq0.false (abs_within a.mantissa fits) c.if-dropped-lt128.false in
    grind (arith, nat_tests)
