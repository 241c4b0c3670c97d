use Rattle.std.proofs.Common.{ℕ, ◌*◌, ◌^◌, Bool, ℤ, Some, None, if◌then◌else◌, sym, ap, ◌∙◌, arith}
use Rattle.std.proofs.lemmas.Int.{to_z-of_z}
use Rattle.std.specs.Int.{w128}
use Rattle.event_file.specs.ShortNumbers.{signed}
use Rattle.event_file.proofs.ShortLemmas.{mantissa_by, short_steps}
use Rattle.event_file.proofs.short_numbers.short_mantissa.Goals as goal

-- the steps have fewer than 62 bits
pub overflow_mul-steps : goal.overflow_mul-steps
overflow_mul-steps c =
    let one = c.power_of_two.ensures ∙ ap (λ (k : ℕ). 2 ^ k) c.from.ensures in
    omega (arith, short_steps c.args.magnitude c.args.scale.frac c.requires c.args.scale.frac_within, ap (λ (x : ℕ). c.args.magnitude * x) one)

-- the scale has the mantissa
pub returns-then-is_within : goal.returns-then-is_within
returns-then-is_within c =
    let one = c.power_of_two.ensures ∙ ap (λ (k : ℕ). 2 ^ k) c.from.ensures in
    let limit = c.power_of_two-limit.ensures ∙ ap (λ (k : ℕ). 2 ^ k) c.min.ensures in
    ap (λ (m : ℤ). Some m) (to_z-of_z w128 c.signed.result (record { sfits = c.signed.type_inv }) ∙ c.signed.ensures)
    ∙ sym (mantissa_by c.args.scale c.args.negative c.args.magnitude c.magnitude_bits.result c.power_of_two.result c.power_of_two-limit.result
    c.is_within.result c.requires c.magnitude_bits.ensures one limit c.is_within.ensures
    ∙ ap (λ (b : Bool). if b then Some (signed c.args.negative (c.args.magnitude * c.power_of_two.result)) else None) c.if-is_within.true)

-- or it doesn't
pub returns-else-is_within : goal.returns-else-is_within
returns-else-is_within c =
    let one = c.power_of_two.ensures ∙ ap (λ (k : ℕ). 2 ^ k) c.from.ensures in
    let limit = c.power_of_two-limit.ensures ∙ ap (λ (k : ℕ). 2 ^ k) c.min.ensures in
    sym (mantissa_by c.args.scale c.args.negative c.args.magnitude c.magnitude_bits.result c.power_of_two.result c.power_of_two-limit.result
    c.is_within.result c.requires c.magnitude_bits.ensures one limit c.is_within.ensures
    ∙ ap (λ (b : Bool). if b then Some (signed c.args.negative (c.args.magnitude * c.power_of_two.result)) else None) c.if-is_within.false)
